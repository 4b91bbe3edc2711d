use Rattle.std.proofs.Common.{◌∙◌, ap, sym}
use Rattle.std.specs.Prelude.{is_some}
use Rattle.vp_elab.specs.Tree.{Tree}
use Rattle.vp_policy.specs.Filter.{denial_at}
use Rattle.vp_policy.specs.Users.{Member, member_at}
use Rattle.vp_policy.proofs.Laws.{none_denied}
use Rattle.vp_policy.proofs.policy.Policy.missing_right.Goals as goal

pub returns-else-is_denied : goal.returns-else-is_denied
returns-else-is_denied c =
    let user : Member = member_at c.args.self.now.members c.args.user.0 in
    sym (none_denied (denial_at c.args.design.now.tree user c.args.right c.args.object.0)
    (ap (λ (t : Tree). is_some (denial_at t user c.args.right c.args.object.0)) (sym c.requires) ∙ sym c.is_denied.ensures ∙ c.if-is_denied.false))

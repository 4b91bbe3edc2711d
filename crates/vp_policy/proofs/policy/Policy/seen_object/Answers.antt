use Rattle.std.proofs.Common.{◌∙◌, ap, refl, Some}
use Rattle.vp_elab.specs.Tree.{Tree}
use Rattle.vp_policy.specs.Filter.{closed_in, rights_at}
use Rattle.vp_policy.specs.Users.{Member, member_at}
use Rattle.vp_policy.proofs.Views.{seen_is}
use Rattle.vp_policy.proofs.policy.Policy.seen_object.Goals as goal

pub returns-clause-node : goal.returns-clause-node
returns-clause-node c =
    let user : Member = member_at c.args.self.now.members c.args.user.0 in
    let object = c.in-Some.object in
    let known = c.in-Some.ensures {u = tt} in
    seen_is c.args.design.now user c.args.id.0 object known.node _ c.args.numbers.now c.requires.before c.requires.numbers c.requires.scope c.number_in.ensures
    (c.in_ok-copy.ensures {u = tt} ∙ c.name.ensures) refl (c.rights-rights.ensures ∙ ap (λ (t : Tree). rights_at t user c.args.id.0) c.requires.fits) (c.in_ok-viewports_on.ensures {u = tt}).viewports refl refl c.line.ensures
    (c.in_ok-copied.ensures {u = tt} ∙ c.def_name.ensures) c.seen_value.ensures ((c.in_ok-closed.ensures {u = tt}).numbers ∙ ap (λ (t : Tree). closed_in t user (Some c.args.id.0)) c.requires.fits)

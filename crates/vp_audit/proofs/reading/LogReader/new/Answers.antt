use Rattle.std.proofs.Common.{◌∙◌, ap, rules, sym, subst}
use Rattle.vp_elab.specs.Tree.{Tree}
use Rattle.vp_policy.specs.SeenObjects.{numbers_from}
use Rattle.vp_policy.specs.Users.{Member, member_at}
use Rattle.vp_policy.specs.View.{HoldScopes}
use Rattle.vp_policy.proofs.Views.{listed_scopes}
use Rattle.vp_audit.proofs.Marks.{listed_long}
use Rattle.vp_audit.proofs.reading.LogReader.new.Goals as goal

pub invariant_of-result : goal.invariant_of-result
invariant_of-result c =
    let tree : Tree = c.design-design.result.now.tree in
    let member : Member = member_at c.args.policy.now.members c.args.user.0 in (
      search rules,
      listed_long tree member c.in-Ok.known.items (c.in-Ok.ensures {u = tt}).marks,
      subst (HoldScopes tree.nodes) (sym (c.in-Ok.ensures {u = tt}).marks) (listed_scopes tree member),
      c.in_ok-numbers.ensures {u = tt} ∙ ap (numbers_from 0) c.deref.ensures.value,
    )

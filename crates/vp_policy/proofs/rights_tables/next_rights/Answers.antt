use Rattle.std.proofs.Common.{◌≡◌, ◌∙◌, ap, subst, sym, Option, Some, arith}
use Rattle.std.specs.Prelude.{IfSome, ◌<◌}
use Rattle.vp_pragma.specs.Rights.{RightSet, both, either, set_of}
use Rattle.vp_elab.specs.declared.object.ObjectId.{ObjectId}
use Rattle.vp_elab.specs.Tree.{step_rights_at}
use Rattle.vp_policy.proofs.RightsRows.{rights_before}
use Rattle.vp_policy.proofs.Walks.{opened_at, rights_left, rights_own}
use Rattle.vp_policy.proofs.rights_tables.next_rights.Goals as goal

pub returns-in-Some-parent : goal.returns-in-Some-parent
returns-in-Some-parent c = λ u given are.
    let tree = c.args.design.now.tree in
    let here = c.in-Some.here in
    let known = c.in-Some.ensures {u = tt} in
    let inside : here.parent ≡ Some c.in-Some-parent.module = c.in-Some-parent.is in
    let before : c.in-Some-parent.module.0 < c.args.object.0 = subst (λ (p : Option ObjectId). IfSome p (λ q. q.0 < c.args.object.0)) inside known.node.following in
    let above : set_of c.rights_among.result ≡ rights_left tree u here.parent =
    c.rights_among.ensures ∙ rights_before tree u c.args.before.now c.args.object.0 c.in-Some-parent.module.0 are before ∙ ap (rights_left tree u) (sym inside) in
    let small : here.envelope < 256 = omega arith in
    let opened : set_of c.either-opened.result ≡ opened_at u here.envelope (step_rights_at tree c.args.object.0) =
    c.either-opened.ensures ∙ ap (λ (r : RightSet). either r (set_of c.step_rights.result.rights)) (given here.envelope (record { 0 = 0 }) small)
    ∙ ap (opened_at u here.envelope) c.step_rights.ensures in
    c.both.ensures ∙ ap (both (set_of c.either-opened.result)) above
    ∙ rights_own tree u c.args.object.0 here (set_of c.either-opened.result) known.node opened

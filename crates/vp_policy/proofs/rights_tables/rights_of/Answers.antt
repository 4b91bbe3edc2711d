use Rattle.std.proofs.Common.{◌≡◌, ◌∙◌, ap, map, take, arith}
use Rattle.vp_pragma.specs.Rights.{set_of}
use Rattle.vp_policy.specs.RightsTables.{rights_on}
use Rattle.vp_policy.proofs.RightsRows.{rights_more}
use Rattle.vp_policy.proofs.rights_tables.rights_of.Goals as goal

pub loop-number-preserved : goal.loop-number-preserved
loop-number-preserved c = λ u given.
    let tree = c.args.design.now.tree in
    let before = c.loop-number.rights.items in
    let are : map set_of before ≡ rights_on tree u (take c.loop-number.number tree.nodes) = c.loop-number.invariant u given in
    ap (map set_of) (c.in_ok-push.ensures {u = tt}).items
    ∙ rights_more tree u before c.loop-number.number c.next_rights-next.result (omega arith) are
    (c.next_rights-next.ensures u given (ap (map set_of) c.as_slice.ensures.value ∙ are))

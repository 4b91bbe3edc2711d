use Rattle.std.proofs.Common.{◌≡◌, ◌∙◌, None, Some, get_or, length, sym}
use Rattle.vp_statement.proofs.Rising.{missing, rises}
use Rattle.vp_statement.proofs.flow.next_after.Goals as goal

pub rise-preserved : goal.rise-preserved
rise-preserved c =
    let parts = c.args.parts.now in
    let at : get_or parts c.rise.here None ≡ Some c.in-Some-Some.part =
    sym (c.in-Some-Some.ensures.lookup.3.1 None) ∙ c.in-Some-Some.field-0-is in
    let none : c.in-Some-Some.part.next ≡ None = missing c.in-Some-Some.part.next (sym c.is_some.ensures ∙ c.if-is_some.false) in
    sym (rises parts (length parts) c.rise._turn c.rise.here c.in-Some-Some.part c.rise-test.true at none) ∙ c.rise.invariant

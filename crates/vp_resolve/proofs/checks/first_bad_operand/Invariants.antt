use Rattle.std.proofs.Common.{◌≡◌, drop}
use Rattle.std.specs.Prelude.{option_map}
use Rattle.vp_source.specs.Places.{earlier, earliest}
use Rattle.vp_resolve.specs.Checks.{bad_at}
use Rattle.vp_resolve.proofs.checks.first_bad_operand.Given as goal

abbrev pub invariant-loop-expression : goal.invariant-loop-expression
invariant-loop-expression l =
    let scope = option_map (λ o. o.0) l.scope in
    earlier l.first (earliest (bad_at l.design scope) (drop l.expression-index l.expressions)) ≡ earliest (bad_at l.design scope) l.expressions

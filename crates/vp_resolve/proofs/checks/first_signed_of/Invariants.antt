use Rattle.std.proofs.Common.{◌≡◌, drop}
use Rattle.vp_source.specs.Places.{earlier, earliest}
use Rattle.vp_resolve.specs.Checks.{signed_at}
use Rattle.vp_resolve.proofs.checks.first_signed_of.Given as goal

abbrev pub invariant-loop-expression : goal.invariant-loop-expression
invariant-loop-expression l =
    earlier l.first (earliest (signed_at l.signs) (drop l.expression-index l.expressions)) ≡ earliest (signed_at l.signs) l.expressions

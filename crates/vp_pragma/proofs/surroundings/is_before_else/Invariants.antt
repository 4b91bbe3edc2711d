use Rattle.std.proofs.Common.{◌≡◌}
use Rattle.vp_pragma.specs.Surroundings.{is_before_else}
use Rattle.vp_pragma.proofs.surroundings.is_before_else.Given as goal

abbrev pub invariant-loop-place : goal.invariant-loop-place
invariant-loop-place l = is_before_else l.tokens l.place ≡ is_before_else l.tokens l.from

use Rattle.std.proofs.Common.{◌≡◌}
use Rattle.vp_tests.proofs.tests.segments.events.Given as goal

-- how the world began stays
abbrev pub invariant-loop-event : goal.invariant-loop-event
invariant-loop-event l = l.world.opening ≡ l.fn.world.opening

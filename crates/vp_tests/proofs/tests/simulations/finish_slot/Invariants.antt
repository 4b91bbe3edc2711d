use Rattle.std.proofs.Common.{◌≡◌}
use Rattle.vp_tests.proofs.tests.simulations.finish_slot.Given as goal

-- the design stays
abbrev pub invariant-loop-step : goal.invariant-loop-step
invariant-loop-step l = l.simulation.design ≡ l.fn.simulation.design

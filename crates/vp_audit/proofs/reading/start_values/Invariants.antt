use Rattle.std.proofs.Common.{◌≡◌, take}
use Rattle.vp_sim.specs.States as sim
use Rattle.vp_audit.proofs.reading.start_values.Given as goal

-- the values of the objects so far
abbrev pub invariant-loop-number : goal.invariant-loop-number
invariant-loop-number l = l.values.items ≡ take l.number (sim.start l.checked).values

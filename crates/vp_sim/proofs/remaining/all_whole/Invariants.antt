use Rattle.std.proofs.Common.{◌≡◌, map, take}
use Rattle.vp_sim.specs.States.{whole_of}
use Rattle.vp_sim.proofs.remaining.all_whole.Given as goal

-- what the processes before this one do
abbrev pub invariant-loop-process : goal.invariant-loop-process
invariant-loop-process l = l.remaining.items ≡ map whole_of (take l.process-index l.processes)

use Rattle.std.proofs.Common.{◌≡◌}
use Rattle.vp_load.proofs.compare.compare_world.Given as goal

-- the world is still of its opening
abbrev pub invariant-loop-index : goal.invariant-loop-index
invariant-loop-index l = l.world.opening ≡ l.initial.world.opening

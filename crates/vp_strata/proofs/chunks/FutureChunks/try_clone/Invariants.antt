use Rattle.std.proofs.Common.{◌≡◌, map, take}
use Rattle.std.specs.Arc.{arc_value}
use Rattle.vp_strata.proofs.chunks.FutureChunks.try_clone.Given as goal

-- those so far
abbrev pub invariant-loop-number : goal.invariant-loop-number
invariant-loop-number l = map arc_value l.chunks.items ≡ take l.number (map arc_value l.self-inside.chunks.items)

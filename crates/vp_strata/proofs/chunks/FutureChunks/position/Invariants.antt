use Rattle.std.proofs.Common.{◌≡◌}
use Rattle.vp_strata.specs.Chunks.{position}
use Rattle.vp_strata.proofs.chunks.FutureChunks.position.Given as goal

-- those before the chunks so far, and the place
abbrev pub invariant-loop-before : goal.invariant-loop-before
invariant-loop-before l = l.count ≡ position l.fn.self l.before l.place

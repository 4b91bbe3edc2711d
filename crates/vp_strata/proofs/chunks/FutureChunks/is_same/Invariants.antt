use Rattle.std.proofs.Common.{◌≡◌, ◌<◌, [], length, take}
use Rattle.std.specs.Prelude.{slice_index_or}
use Rattle.vp_text.specs.Lists.{joined}
use Rattle.vp_strata.specs.Chunks.{position}
use Rattle.vp_strata.proofs.chunks.FutureChunks.is_same.Given as goal

-- so many events are the same, and both places are after these
abbrev pub invariant-loop-index : goal.invariant-loop-index
invariant-loop-index l = record {
  first : position l.fn.self l.first.0 l.first.1 ≡ l._index;
  first_within : l.first.0 < length l.fn.self → l.first.1 < length (slice_index_or l.fn.self l.first.0 []);
  second : position l.fn.other l.second.0 l.second.1 ≡ l._index;
  second_within : l.second.0 < length l.fn.other → l.second.1 < length (slice_index_or l.fn.other l.second.0 []);
  same : take l._index (joined l.fn.self) ≡ take l._index (joined l.fn.other);
}

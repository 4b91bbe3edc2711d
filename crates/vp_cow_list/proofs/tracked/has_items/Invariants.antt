use Rattle.std.proofs.Common.{◌≡◌, ◌<◌, ℕ}
use Rattle.std.specs.Int.{bit_at}
use Rattle.std.specs.Prelude.{slice_get}
use Rattle.vp_cow_list.proofs.tracked.has_items.Given as goal

-- the places so far that have their bits have the same items
abbrev pub invariant-loop-place : goal.invariant-loop-place
invariant-loop-place g l = (k : ℕ) → k < l.place → bit_at l.bits k ≡ 1 → slice_get l.chunk k ≡ slice_get l.items k

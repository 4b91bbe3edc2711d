use Rattle.std.proofs.Common.{◌≡◌, ◌*◌, take}
use Rattle.vp_cow_list.proofs.chunks.ChunkedList.is_same.Given as goal

-- those of the chunks so far are the same
abbrev pub invariant-loop-number : goal.invariant-loop-number
invariant-loop-number g l = take (64 * l.number) l.fn.self ≡ take (64 * l.number) l.fn.other

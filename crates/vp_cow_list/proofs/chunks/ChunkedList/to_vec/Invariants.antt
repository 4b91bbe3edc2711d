use Rattle.std.proofs.Common.{◌≡◌, ◌*◌, take}
use Rattle.vp_cow_list.proofs.chunks.ChunkedList.to_vec.Given as goal

-- those of the chunks so far are there
abbrev pub invariant-loop-number : goal.invariant-loop-number
invariant-loop-number g l = l.items.items ≡ take (64 * l.number) l.fn.self

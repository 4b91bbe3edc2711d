use Rattle.std.proofs.Common.{◌≡◌, ◌+◌, ◌++◌, take}
use Rattle.std.specs.VecDeque.{deque_capacity, deque_len}
use Rattle.vp_strata.proofs.copies.append.Given as goal

-- those so far
abbrev pub invariant-loop-item : goal.invariant-loop-item
invariant-loop-item g l = record {
  items : l.queue.items ≡ l.initial.queue.items ++ take l.item-index l.items;
  len : deque_len l.queue ≡ deque_len l.initial.queue + l.item-index;
  capacity : deque_capacity l.queue ≡ deque_capacity l.initial.queue;
}

use Rattle.std.proofs.Common.{◌≡◌, ℕ, ◌<◌, ◌≤◌, get_or, length}
use Rattle.vp_active_events.proofs.slots.uncount_all.Given as goal

-- in the first blocks no slot is counted, nor in those that had none
abbrev pub invariant-loop-block : goal.invariant-loop-block
invariant-loop-block l = record {
  first : (n : ℕ) → n < l.block → get_or l.counts n 0 ≡ 0;
  rest : (n : ℕ) → l.blocks ≤ n → get_or l.counts n 0 ≡ 0;
  len : length l.counts ≡ length l.fn.counts;
}

use Rattle.std.proofs.Common.{◌≡◌, length, take}
use Rattle.vp_active_events.specs.Slots.{AreBlocksCounted}
use Rattle.vp_active_events.proofs.slots.count_all.Given as goal

-- those so far are counted
abbrev pub invariant-loop-place : goal.invariant-loop-place
invariant-loop-place l = record {
  counted : AreBlocksCounted (take l.place l.slots.items) l.counts;
  len : length l.counts ≡ length l.fn.counts;
}

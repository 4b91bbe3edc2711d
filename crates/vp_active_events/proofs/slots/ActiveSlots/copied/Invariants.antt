use Rattle.std.proofs.Common.{◌≡◌, take}
use Rattle.vp_active_events.specs.Slots.{events_of}
use Rattle.vp_active_events.proofs.slots.ActiveSlots.copied.Given as goal

-- the events so far
abbrev pub invariant-loop-place : goal.invariant-loop-place
invariant-loop-place l = l.events.items ≡ events_of (take l.place l.self.slots)

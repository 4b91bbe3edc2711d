use Rattle.std.proofs.Common.{◌≡◌, drop}
use Rattle.vp_active_events.specs.Slots.{next_from}
use Rattle.vp_active_events.proofs.slots.ActiveSlots.next_update.Given as goal

-- what is sought in the slots from one on stands among those that are left
abbrev pub invariant-loop-place : goal.invariant-loop-place
invariant-loop-place l =
    next_from l.place l.process (drop l.place l.self.slots) ≡ next_from l.start l.process (drop l.start l.self.slots)

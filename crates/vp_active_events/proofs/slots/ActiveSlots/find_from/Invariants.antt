use Rattle.std.proofs.Common.{◌≡◌, drop, slice_get}
use Rattle.vp_active_events.specs.Slots.{ready_from}
use Rattle.vp_active_events.proofs.slots.ActiveSlots.find_from.Given as goal

-- what is sought in the slots from one on stands among those that are left
abbrev pub invariant-loop-place : goal.invariant-loop-place
invariant-loop-place l =
    slice_get (ready_from l.place (drop l.place l.self.slots)) l.left
    ≡ slice_get (ready_from l.start (drop l.start l.self.slots)) l.fn.k

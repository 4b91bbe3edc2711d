use Rattle.std.proofs.Common.{◌≡◌, ◌∙◌, ◌-◌, ap, arith, length}
use Rattle.vp_active_events.specs.Slots.{SlotsKept, events_of}
use Rattle.vp_active_events.proofs.Places.{count_events}
use Rattle.vp_active_events.proofs.slots.ActiveSlots.len.Goals as goal

pub returns-clause-len : goal.returns-clause-len
returns-clause-len c =
    let slots = c.self.inside.slots.items in
    let count : c.len.result - c.self.inside.empty ≡ length (events_of slots) = omega (arith, count_events slots) in
    count ∙ ap (λ (v : SlotsKept). length (events_of v.slots)) c.self.view_is

use Rattle.std.proofs.Common.{◌≡◌, ◌∙◌, ◌-◌, ap, sym, arith, length}
use Rattle.std.specs.List.{count_by}
use Rattle.vp_active_events.specs.Slots.{SlotsKept, is_ready, ready_from}
use Rattle.vp_active_events.proofs.Places.{count_kinds, length-ready_from}
use Rattle.vp_active_events.proofs.slots.ActiveSlots.count_ready.Goals as goal

pub overflow_sub-result-2 : goal.overflow_sub-result-2
overflow_sub-result-2 c = omega (arith, count_kinds c.self.inside.slots.items)

pub returns-clause-ready : goal.returns-clause-ready
returns-clause-ready c =
    let slots = c.self.inside.slots.items in
    let count : c.len.result - c.self.inside.empty - c.self.inside.waiting ≡ count_by is_ready slots = omega (arith, count_kinds slots) in
    count ∙ sym (length-ready_from 0 slots) ∙ ap (λ (v : SlotsKept). length (ready_from 0 v.slots)) c.self.view_is

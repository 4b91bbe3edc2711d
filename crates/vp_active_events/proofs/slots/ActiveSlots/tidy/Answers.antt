use Rattle.std.proofs.Common.{arith, length, ap}
use Rattle.vp_active_events.specs.Slots.{SlotsKept}
use Rattle.vp_active_events.proofs.Places.{count_events}
use Rattle.vp_active_events.proofs.slots.ActiveSlots.tidy.Goals as goal

pub overflow_add-count : goal.overflow_add-count
overflow_add-count c =
    let long = ap (λ (v : SlotsKept). length v.slots) c.self.view_is in
    omega (arith, count_events c.args.self.now.slots, long, c.self.invariant.within, c.self.invariant.few)

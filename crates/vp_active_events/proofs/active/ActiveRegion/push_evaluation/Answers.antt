use Rattle.std.proofs.Common.{List, subst, sym}
use Rattle.vp_active_events.specs.declared.slot.Slot.{Slot}
use Rattle.vp_active_events.specs.Slots.{AreMarked}
use Rattle.vp_active_events.proofs.Region.{evaluation_more}
use Rattle.vp_active_events.proofs.active.ActiveRegion.push_evaluation.Goals as goal

pub invariant_of-self : goal.invariant_of-self
invariant_of-self c =
    let P : List Slot → Type 0 = λ ss. AreMarked ss c.self.inside.updates.items in
    subst P (sym c.push.ensures.slots) (evaluation_more c.self.inside.slots.slots c.self.inside.updates.items c.args.process c.self.invariant)

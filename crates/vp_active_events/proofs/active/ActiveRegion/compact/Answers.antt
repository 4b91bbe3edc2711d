use Rattle.std.proofs.Common.{◌∙◌, inr, ap}
use Rattle.vp_active_events.specs.Events.{Region}
use Rattle.vp_active_events.proofs.Region.{tidied, tidied_events}
use Rattle.vp_active_events.proofs.active.ActiveRegion.compact.Goals as goal

pub invariant_of-self : goal.invariant_of-self
invariant_of-self c = tidied c.self.inside.slots.slots _ _ c.self.invariant (inr c.compact.ensures.slots)

pub returns-clause-events : goal.returns-clause-events
returns-clause-events c = tidied_events c.self.inside.slots.slots _ (inr c.compact.ensures.slots) ∙ ap (λ (r : Region). r.events) c.self.view_is

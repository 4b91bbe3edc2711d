use Rattle.std.proofs.Common.{◌∙◌, List, ap, arith, drop, refl, sym}
use Rattle.std.proofs.lemmas.List.{drop-drop}
use Rattle.vp_active_events.proofs.Region.{without_first}
use Rattle.vp_active_events.specs.declared.event.Event.{Event}
use Rattle.vp_active_events.proofs.active.ActiveRegion.clear.Goals as goal

pub loop-preserved : goal.loop-preserved
loop-preserved c =
    let so_far = c.loop.invariant in
    record {
      events = c.take.ensures.events ∙ sym (without_first c.loop.self.events 0 refl) ∙ ap (λ (es : List Event). drop 1 es) so_far.events ∙ drop-drop 1 c.loop.counter _;
      room = omega arith;
      processes = c.take.ensures.processes ∙ so_far.processes;
    }

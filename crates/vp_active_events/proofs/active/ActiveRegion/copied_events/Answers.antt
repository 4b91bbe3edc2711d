use Rattle.std.proofs.Common.{subst}
use Rattle.std.specs.List.{All}
use Rattle.vp_active_events.specs.Events.{Region}
use Rattle.vp_active_events.specs.Slots.{IsPushed}
use Rattle.vp_active_events.proofs.Counted.{of_processes}
use Rattle.vp_active_events.proofs.active.ActiveRegion.copied_events.Goals as goal

pub returns-clause-processes : goal.returns-clause-processes
returns-clause-processes c =
    let P : Region → Type 0 = λ r. All (λ e. IsPushed r.processes e) r.events in
    subst P c.self.view_is (of_processes c.self.inside.slots.slots c.self.inside.updates.items c.self.invariant.counted)

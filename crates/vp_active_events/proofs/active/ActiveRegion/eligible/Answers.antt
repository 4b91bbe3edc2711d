use Rattle.std.proofs.Common.{◌≡◌, ◌∙◌, false, ap, length, subst, sym}
use Rattle.std.specs.List.{All}
use Rattle.vp_active_events.specs.Events.{Region, eligible_places, is_nonblocking}
use Rattle.vp_active_events.proofs.Counted.{no_nonblocking}
use Rattle.vp_active_events.proofs.Region.{count_eligible}
use Rattle.vp_active_events.proofs.active.ActiveRegion.eligible.Goals as goal

pub returns-clause-count : goal.returns-clause-count
returns-clause-count c =
    let ss = c.self.inside.slots.slots in
    c.count_ready.ensures.ready ∙ sym (count_eligible ss c.self.invariant.marks) ∙ ap (λ (r : Region). length (eligible_places r.events)) c.self.view_is

pub returns-clause-kinds : goal.returns-clause-kinds
returns-clause-kinds c =
    let P : Region → Type 0 = λ r. All (λ e. is_nonblocking e ≡ false) r.events in
    subst P c.self.view_is (no_nonblocking c.self.inside.slots.slots)

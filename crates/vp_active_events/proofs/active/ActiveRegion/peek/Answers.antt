use Rattle.std.proofs.Common.{◌≡◌, ◌∙◌, ap, false, subst, sym}
use Rattle.std.specs.Prelude.{option_and_then, slice_get}
use Rattle.std.specs.List.{All}
use Rattle.vp_active_events.specs.Events.{Region, eligible_places, is_nonblocking}
use Rattle.vp_active_events.proofs.Counted.{no_nonblocking}
use Rattle.vp_active_events.proofs.Region.{peeked_at, peeked_none, ready_within}
use Rattle.vp_active_events.proofs.active.ActiveRegion.peek.Goals as goal

pub at-requires : goal.at-requires
at-requires c = ready_within c.self.inside.slots.slots c.args.k c.in-Some.place (sym c.in-Some.is ∙ c.find.ensures)

pub returns-in-Some-clause-event : goal.returns-in-Some-clause-event
returns-in-Some-clause-event c =
    peeked_at c.self.inside.slots.slots c.args.k c.in-Some.place c.at.result.now c.event.result c.self.invariant.marks (sym c.in-Some.is ∙ c.find.ensures) c.at.ensures c.event.ensures
    ∙ ap (λ (r : Region). option_and_then (slice_get r.events) (slice_get (eligible_places r.events) c.args.k)) c.self.view_is

pub returns-in-None-clause-event : goal.returns-in-None-clause-event
returns-in-None-clause-event c =
    let ss = c.self.inside.slots.slots in
    peeked_none ss c.args.k c.self.invariant.marks (sym c.in-None.is ∙ c.find.ensures)
    ∙ ap (λ (r : Region). option_and_then (slice_get r.events) (slice_get (eligible_places r.events) c.args.k)) c.self.view_is

pub returns-in-Some-clause-kinds : goal.returns-in-Some-clause-kinds
returns-in-Some-clause-kinds c =
    let P : Region → Type 0 = λ r. All (λ e. is_nonblocking e ≡ false) r.events in
    subst P c.self.view_is (no_nonblocking c.self.inside.slots.slots)

pub returns-in-None-clause-kinds : goal.returns-in-None-clause-kinds
returns-in-None-clause-kinds c =
    let P : Region → Type 0 = λ r. All (λ e. is_nonblocking e ≡ false) r.events in
    subst P c.self.view_is (no_nonblocking c.self.inside.slots.slots)

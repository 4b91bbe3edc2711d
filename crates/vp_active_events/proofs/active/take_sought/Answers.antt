use Rattle.std.proofs.Common.{◌∙◌, Option, ap, rules, sym, None, ◌≡◌, ℕ}
use Rattle.std.specs.Prelude.{slice_get}
use Rattle.vp_active_events.specs.Slots.{events_of, ready_from, without_at}
use Rattle.vp_active_events.proofs.Region.{ready_there, ready_within, sought, tidied, tidied_events}
use Rattle.vp_active_events.proofs.active.take_sought.Goals as goal

pub take_at-requires-clause-within : goal.take_at-requires-clause-within
take_at-requires-clause-within c = ready_within c.args.slots.now.slots c.args.k c.in-Some.place (sym c.in-Some.is ∙ c.find.ensures)

pub take_at-requires-clause-ready : goal.take_at-requires-clause-ready
take_at-requires-clause-ready c = ready_there c.args.slots.now.slots c.args.k c.in-Some.place (sym c.in-Some.is ∙ c.find.ensures)

pub returns-in-Some-clause-marked : goal.returns-in-Some-clause-marked
returns-in-Some-clause-marked c = tidied _ _ _ c.take_at.ensures.marked c.tidy.ensures.slots

pub returns-in-Some-clause-events : goal.returns-in-Some-clause-events
returns-in-Some-clause-events c =
    let ss = c.args.slots.now.slots in
    tidied_events _ _ c.tidy.ensures.slots
    ∙ c.take_at.ensures.events
    ∙ sym (ap (λ (o : Option ℕ). without_at o (events_of ss)) (sought ss c.args.k _ c.requires.marks (sym c.in-Some.is ∙ c.find.ensures)))

pub returns-in_default-clause-events : goal.returns-in_default-clause-events
returns-in_default-clause-events c =
    let ss = c.args.slots.now.slots in
    let none : None ≡ slice_get (ready_from 0 ss) c.args.k = search rules in
    sym (ap (λ (o : Option ℕ). without_at o (events_of ss)) (sought ss c.args.k None c.requires.marks none))

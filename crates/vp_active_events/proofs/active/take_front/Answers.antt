use Rattle.std.proofs.Common.{◌∙◌, Some, ap, sym}
use Rattle.vp_active_events.specs.declared.slot.Slot.{Slot}
use Rattle.vp_active_events.specs.Slots.{does_first_wait, released}
use Rattle.vp_active_events.proofs.Region.{front_counted, front_none, front_update_events, front_update_over, front_waits, oldest_ready}
use Rattle.vp_active_events.proofs.active.take_front.Goals as goal

pub pop_front-requires-clause-ready : goal.pop_front-requires-clause-ready
pop_front-requires-clause-ready c = oldest_ready c.args.slots.now.slots c.requires.marked.marks

pub release-requires-clause-counted : goal.release-requires-clause-counted
release-requires-clause-counted c =
    let found = sym c.pop_front.ensures.slot ∙ c.in-Some-NetUpdate.is ∙ ap (λ (s : Slot). Some s) c.in-Some-NetUpdate.field-0-is in
    front_counted c.args.slots.now.slots c.args.updates.now.items c.in-Some-NetUpdate.process _ _ c.requires.marked found

pub release-requires-clause-none : goal.release-requires-clause-none
release-requires-clause-none c = λ one.
    let found = sym c.pop_front.ensures.slot ∙ c.in-Some-NetUpdate.is ∙ ap (λ (s : Slot). Some s) c.in-Some-NetUpdate.field-0-is in
    let rest = c.pop_front.ensures.slots in
    ap (released c.in-Some-NetUpdate.process) rest ∙ front_none c.args.slots.now.slots c.args.updates.now.items c.in-Some-NetUpdate.process _ _ c.requires.marked found one ∙ sym rest

pub release-requires-clause-waits : goal.release-requires-clause-waits
release-requires-clause-waits c =
    let found = sym c.pop_front.ensures.slot ∙ c.in-Some-NetUpdate.is ∙ ap (λ (s : Slot). Some s) c.in-Some-NetUpdate.field-0-is in
    ap (does_first_wait c.in-Some-NetUpdate.process) c.pop_front.ensures.slots ∙ front_waits c.args.slots.now.slots c.args.updates.now.items c.in-Some-NetUpdate.process _ _ c.requires.marked found

pub returns-in-Some-NetUpdate-clause-marked : goal.returns-in-Some-NetUpdate-clause-marked
returns-in-Some-NetUpdate-clause-marked c =
    let found = sym c.pop_front.ensures.slot ∙ c.in-Some-NetUpdate.is ∙ ap (λ (s : Slot). Some s) c.in-Some-NetUpdate.field-0-is in
    front_update_over c.args.slots.now.slots _ c.args.updates.now.items _ c.in-Some-NetUpdate.process _ _ c.requires.marked found (c.release.ensures.slots ∙ ap (released c.in-Some-NetUpdate.process) c.pop_front.ensures.slots) c.release.ensures.updates

pub returns-in-Some-NetUpdate-clause-events : goal.returns-in-Some-NetUpdate-clause-events
returns-in-Some-NetUpdate-clause-events c =
    let found = sym c.pop_front.ensures.slot ∙ c.in-Some-NetUpdate.is ∙ ap (λ (s : Slot). Some s) c.in-Some-NetUpdate.field-0-is in
    front_update_events c.args.slots.now.slots _ c.in-Some-NetUpdate.process _ _ found (c.release.ensures.slots ∙ ap (released c.in-Some-NetUpdate.process) c.pop_front.ensures.slots)

use Rattle.std.proofs.Common.{◌∙◌, ◌++◌, List, Some, ap, drop, refl, subst, sym, take}
use Rattle.vp_active_events.specs.declared.slot.Slot.{Slot}
use Rattle.vp_active_events.specs.Slots.{AreMarked, does_first_wait, events_of, released}
use Rattle.vp_active_events.proofs.Region.{none_after, other_over, update_counted, update_events, update_is, update_over, waits_after}
use Rattle.vp_active_events.proofs.active.take_at.Goals as goal

pub release-requires-clause-counted : goal.release-requires-clause-counted
release-requires-clause-counted c =
    let ss = c.args.slots.now.slots in
    let q = c.in-NetUpdate.process in
    let found = update_is ss c.args.place q c.in-NetUpdate.value c.in-NetUpdate.waiting (c.take_out.ensures.slot ∙ ap (λ (s : Slot). Some s) c.in-NetUpdate.is) c.requires.ready in
    update_counted ss c.args.updates.now.items c.args.place q c.in-NetUpdate.value c.requires.marked found

pub release-requires-clause-none : goal.release-requires-clause-none
release-requires-clause-none c = λ one.
    let ss = c.args.slots.now.slots in
    let q = c.in-NetUpdate.process in
    let found = update_is ss c.args.place q c.in-NetUpdate.value c.in-NetUpdate.waiting (c.take_out.ensures.slot ∙ ap (λ (s : Slot). Some s) c.in-NetUpdate.is) c.requires.ready in
    let rest = ap (drop c.args.place) c.take_out.ensures.slots in
    ap (released q) rest ∙ none_after ss c.args.updates.now.items c.args.place q c.in-NetUpdate.value c.requires.marked found one ∙ sym rest

pub release-requires-clause-waits : goal.release-requires-clause-waits
release-requires-clause-waits c =
    let ss = c.args.slots.now.slots in
    let q = c.in-NetUpdate.process in
    let found = update_is ss c.args.place q c.in-NetUpdate.value c.in-NetUpdate.waiting (c.take_out.ensures.slot ∙ ap (λ (s : Slot). Some s) c.in-NetUpdate.is) c.requires.ready in
    ap (λ (xs : List Slot). does_first_wait q (drop c.args.place xs)) c.take_out.ensures.slots ∙ waits_after ss c.args.updates.now.items c.args.place q c.in-NetUpdate.value c.requires.marked found

pub returns-in-NetUpdate-clause-marked : goal.returns-in-NetUpdate-clause-marked
returns-in-NetUpdate-clause-marked c =
    let ss = c.args.slots.now.slots in
    let p = c.args.place in
    let q = c.in-NetUpdate.process in
    let found = update_is ss p q c.in-NetUpdate.value c.in-NetUpdate.waiting (c.take_out.ensures.slot ∙ ap (λ (s : Slot). Some s) c.in-NetUpdate.is) c.requires.ready in
    update_over ss _ c.args.updates.now.items _ p q c.in-NetUpdate.value c.requires.marked found (c.release.ensures.slots ∙ ap (λ (xs : List Slot). take p xs ++ released q (drop p xs)) c.take_out.ensures.slots) c.release.ensures.updates

pub returns-in-NetUpdate-clause-events : goal.returns-in-NetUpdate-clause-events
returns-in-NetUpdate-clause-events c =
    let ss = c.args.slots.now.slots in
    let p = c.args.place in
    let q = c.in-NetUpdate.process in
    let found = update_is ss p q c.in-NetUpdate.value c.in-NetUpdate.waiting (c.take_out.ensures.slot ∙ ap (λ (s : Slot). Some s) c.in-NetUpdate.is) c.requires.ready in
    update_events ss _ p q c.in-NetUpdate.value found (c.release.ensures.slots ∙ ap (λ (xs : List Slot). take p xs ++ released q (drop p xs)) c.take_out.ensures.slots)

pub returns-in_default : goal.returns-in_default
returns-in_default c =
    let ss = c.args.slots.now.slots in
    let p = c.args.place in
    let over = other_over ss c.args.updates.now.items p c.take_out.result c.requires.marked c.requires.ready c.take_out.ensures.slot c.in_default.not-NetUpdate in
    let is = c.take_out.ensures.slots in
    record {
      marked = subst (λ (xs : List Slot). AreMarked xs c.args.updates.now.items) (sym is) over.0;
      events = ap events_of is ∙ over.1;
      room = c.take_out.ensures.room;
      processes = refl;
    }

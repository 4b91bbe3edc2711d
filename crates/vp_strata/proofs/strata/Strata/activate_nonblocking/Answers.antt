use Rattle.std.proofs.Common.{◌≡◌, ◌∙◌, ◌++◌, [], List, ap, arith, length, map, refl}
use Rattle.std.proofs.lemmas.List.{append-nil}
use Rattle.std.specs.VecDeque.{deque_capacity, deque_len}
use Rattle.vp_active_events.specs.declared.event.Event.{Event}
use Rattle.vp_active_events.specs.declared.event.Event.TheVariants.{Nonblocking}
use Rattle.vp_active_events.specs.declared.event.NonblockingUpdate.{NonblockingUpdate}
use Rattle.vp_strata.specs.Queues.{Regions, nonblocking_activated}
use Rattle.vp_strata.proofs.Assignments.{no_parts, same_queue}
use Rattle.vp_strata.proofs.strata.Strata.activate_nonblocking.Goals as goal

pub invariant_of-self : goal.invariant_of-self
invariant_of-self c =
    let us = c.self.inside.assignments.items in
    let none = no_parts us c.self.inside.active.events (ap (λ (s : Regions). s.queue.active) c.self.view_is ∙ c.requires) in
    let empty = ap length none.0 in
    let one = ap deque_capacity c.swap.ensures.x_after in
    let two = ap deque_capacity c.swap.ensures.y_after in
    let long = ap deque_len c.swap.ensures.y_after in
    let before = c.self.invariant in
    (omega (arith, one, before.3), before.1, before.2, omega (arith, two, long, empty, before.0))

pub returns-clause-queue : goal.returns-clause-queue
returns-clause-queue c =
    let ns = c.self.inside.nonblocking.items in
    let es = c.self.inside.active.events in
    let none = no_parts c.self.inside.assignments.items es (ap (λ (s : Regions). s.queue.active) c.self.view_is ∙ c.requires) in
    let ups : c.swap.new.x.items ≡ ns = cc in
    let downs : c.swap.new.y.items ≡ [] = cc in
    same_queue _ _ _ _ _ _ _ _
    (ap (λ (us : List NonblockingUpdate). map Nonblocking us ++ es) ups ∙ ap (λ (xs : List Event). map Nonblocking ns ++ xs) none.1 ∙ append-nil (map Nonblocking ns))
    refl
    downs
    refl
    ∙ ap (λ (s : Regions). nonblocking_activated s.queue) c.self.view_is

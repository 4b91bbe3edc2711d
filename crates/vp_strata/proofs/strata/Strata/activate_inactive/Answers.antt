use Rattle.std.proofs.Common.{◌≡◌, ◌∙◌, ◌++◌, [], List, ap, arith, map, refl}
use Rattle.std.proofs.lemmas.List.{drop_all, take_all}
use Rattle.vp_active_events.specs.declared.event.Event.TheVariants.{Evaluation, Nonblocking}
use Rattle.vp_active_events.specs.declared.event.NonblockingUpdate.{NonblockingUpdate}
use Rattle.vp_strata.specs.Queues.{Regions, inactive_activated}
use Rattle.vp_strata.proofs.Assignments.{no_parts, same_queue}
use Rattle.vp_strata.proofs.strata.Strata.activate_inactive.Goals as goal

pub loop-init : goal.loop-init
loop-init c =
    let us = c.self.inside.assignments.items in
    let es = c.self.inside.active.events in
    let none = no_parts us es (ap (λ (s : Regions). s.queue.active) c.self.view_is ∙ c.requires) in
    record {
      active = none.1;
      left = refl;
      room = omega (arith, c.self.invariant.1);
      capacity = c.self.invariant.2;
      assignments = refl;
      nonblocking = refl;
      future = refl;
      spare = refl;
      processes = refl;
    }

pub returns-clause-queue : goal.returns-clause-queue
returns-clause-queue c =
    let us = c.self.inside.assignments.items in
    let is = c.self.inside.inactive.items in
    let n = c.loop.counter in
    let none = no_parts us c.self.inside.active.events (ap (λ (s : Regions). s.queue.active) c.self.view_is ∙ c.requires) in
    let now = c.loop.self-inside in
    let so_far = c.loop.invariant in
    let no_us : now.assignments.items ≡ [] = cc in
    same_queue _ _ _ _ _ _ _ _
    (ap (λ (vs : List NonblockingUpdate). map Nonblocking vs ++ now.active.events) no_us ∙ so_far.active ∙ ap (map Evaluation) (take_all n is (omega arith)))
    (so_far.left ∙ drop_all n is (omega arith))
    (cc)
    so_far.future
    ∙ ap (λ (s : Regions). inactive_activated s.queue) c.self.view_is

use Rattle.std.proofs.Common.{◌<◌, ◌∙◌, ◌++◌, List, ap, arith, length, map, refl, rules}
use Rattle.vp_active_events.specs.declared.event.Event.{Event}
use Rattle.vp_active_events.specs.declared.event.Event.TheVariants.{Nonblocking}
use Rattle.vp_strata.specs.Queues.{Queue, Regions, taken, with_active}
use Rattle.vp_strata.proofs.Assignments.{taken_with}
use Rattle.vp_strata.proofs.strata.Strata.take.Goals as goal

pub returns-else-k-eq0-clause-queue : goal.returns-else-k-eq0-clause-queue
returns-else-k-eq0-clause-queue c =
    let us = c.self.inside.assignments.items in
    let es = c.self.inside.active.events in
    let k = c.args.k in
    let some : 0 < length us = search rules in
    let q : Queue = record { active = map Nonblocking us ++ es; inactive = c.self.inside.inactive.items; nonblocking = c.self.inside.nonblocking.items; future = c.self.inside.future } in
    ap (λ (xs : List Event). with_active q (map Nonblocking us ++ xs)) c.take-else-k-eq0.ensures.events
    ∙ taken_with q us es k refl c.take-else-k-eq0.ensures.kinds some (omega arith)
    ∙ ap (λ (s : Regions). taken s.queue k) c.self.view_is

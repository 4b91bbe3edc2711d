use Rattle.std.proofs.Common.{◌≡◌, ◌∙◌, ◌+◌, ap, arith, length, min}
use Rattle.vp_active_events.specs.Events.{eligible_places}
use Rattle.vp_strata.specs.Queues.{Regions}
use Rattle.vp_strata.proofs.Assignments.{count_with}
use Rattle.vp_strata.proofs.strata.Strata.eligible.Goals as goal

pub returns : goal.returns
returns c =
    let us = c.self.inside.assignments.items in
    let es = c.self.inside.active.events in
    let count : c.min.result + c.eligible.result ≡ min (length us) 1 + length (eligible_places es) = omega (arith, c.eligible.ensures.count) in
    count ∙ count_with us es c.eligible.ensures.kinds ∙ ap (λ (s : Regions). length (eligible_places s.queue.active)) c.self.view_is

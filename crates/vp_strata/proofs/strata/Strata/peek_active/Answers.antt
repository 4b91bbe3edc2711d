use Rattle.std.proofs.Common.{◌<◌, ◌∙◌, ap, arith, length, rules}
use Rattle.std.specs.Prelude.{option_and_then, slice_get}
use Rattle.vp_active_events.specs.Events.{eligible_places}
use Rattle.vp_strata.specs.Queues.{Regions}
use Rattle.vp_strata.proofs.Assignments.{peeked_with}
use Rattle.vp_strata.proofs.strata.Strata.peek_active.Goals as goal

pub returns-else-k-eq0 : goal.returns-else-k-eq0
returns-else-k-eq0 c =
    let us = c.self.inside.assignments.items in
    let es = c.self.inside.active.events in
    let k = c.args.k in
    let some : 0 < length us = search rules in
    c.peek-else-k-eq0.ensures.event
    ∙ peeked_with us es k c.peek-else-k-eq0.ensures.kinds some (omega arith)
    ∙ ap (λ (s : Regions). option_and_then (slice_get s.queue.active) (slice_get (eligible_places s.queue.active) k)) c.self.view_is

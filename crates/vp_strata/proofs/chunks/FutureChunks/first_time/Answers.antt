use Rattle.std.proofs.Common.{◌∙◌, ◌<◌, List, ap, arith, drop, length, map, refl, sym}
use Rattle.std.specs.Arc.{arc_value}
use Rattle.std.proofs.lemmas.List.{length-map}
use Rattle.vp_strata.specs.declared.event.Timed.{Timed}
use Rattle.vp_text.specs.Lists.{joined}
use Rattle.vp_strata.specs.Queues.{first_time}
use Rattle.vp_strata.proofs.Chunked.{chunk_at, first_time_at}
use Rattle.vp_strata.proofs.chunks.FutureChunks.first_time.Goals as goal

pub returns-in-Some : goal.returns-in-Some
returns-in-Some c =
    let items = c.self.inside.chunks.items in
    let found = c.in-Some.ensures {u = tt} in
    let some : 0 < length items = omega (arith, found.variant.0 refl, c.self.inside.chunks.ok.0) in
    let first = chunk_at arc_value items 0 c.in-Some.chunk.now some found.lookup in
    c.time_at.ensures
    ∙ ap (λ (es : List Timed). first_time (drop c.self.inside.taken es)) (c.deref.ensures ∙ sym first)
    ∙ first_time_at c.self.inside.taken (map arc_value items) c.self.invariant (omega (arith, some, length-map items (arc_value {X = List Timed})))
    ∙ ap (λ (ls : List (List Timed)). first_time (joined ls)) c.self.view_is

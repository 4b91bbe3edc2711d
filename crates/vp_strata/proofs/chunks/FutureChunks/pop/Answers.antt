use Rattle.std.proofs.Common.{◌≡◌, ◌∙◌, ◌<◌, [], List, ap, arith, drop, get_or, length, map, refl, subst, sym}
use Rattle.std.specs.Prelude.{slice_get}
use Rattle.std.specs.Arc.{arc_value}
use Rattle.std.proofs.lemmas.List.{drop-map, length-map}
use Rattle.vp_strata.specs.declared.event.Timed.{Timed}
use Rattle.vp_text.specs.Lists.{joined}
use Rattle.vp_strata.specs.Chunks.{AreUnfinished, remaining}
use Rattle.vp_strata.proofs.Chunked.{chunk_at, first_at, first_within, rest_at, rest_after, unfinished_following}
use Rattle.vp_strata.proofs.chunks.FutureChunks.pop.Goals.{then-self-count, else-self-count}
use Rattle.vp_strata.proofs.chunks.FutureChunks.pop.Goals as goal

pub overflow_add-self-inside : goal.overflow_add-self-inside
overflow_add-self-inside c =
    let items = c.self.inside.chunks.items in
    let found = c.in_ok-chunk.ensures {u = tt} in
    let some : 0 < length items = omega (arith, found.variant.0 refl, c.self.inside.chunks.ok.0) in
    let first = chunk_at arc_value items 0 c.in_ok-chunk.chunk.now some found.lookup in
    let within = first_within c.self.inside.taken (map arc_value items) 0 c.self.invariant (omega (arith, some, length-map items (arc_value {X = List Timed}))) in
    omega (arith, within, ap length first, ap length c.deref-2.ensures, c.len-count.ensures.len, c.len-count.ensures.most)

pub invariant_of-self-else-self-count : goal.invariant_of-self-else-self-count
invariant_of-self-else-self-count c =
    let items = c.self.inside.chunks.items in
    let P : List (List Timed) → Type 0 = λ cs. AreUnfinished 0 cs in
    subst P (drop-map arc_value 1 items ∙ ap (map arc_value) (sym c.pop_front.ensures.rest)) (unfinished_following c.self.inside.taken (map arc_value items) c.self.invariant)

pub returns-clause-first : goal.returns-clause-first
returns-clause-first c =
    let items = c.self.inside.chunks.items in
    let found = c.in_ok-chunk.ensures {u = tt} in
    let some : 0 < length items = omega (arith, found.variant.0 refl, c.self.inside.chunks.ok.0) in
    let first = chunk_at arc_value items 0 c.in_ok-chunk.chunk.now some found.lookup in
    c.in_ok-event.ensures {u = tt}
    ∙ ap (λ (es : List Timed). slice_get es c.self.inside.taken) (c.deref.ensures ∙ sym first)
    ∙ sym (first_at c.self.inside.taken (map arc_value items) c.self.invariant (omega (arith, some, length-map items (arc_value {X = List Timed}))))
    ∙ ap (λ (ls : List (List Timed)). slice_get (joined ls) 0) c.self.view_is

pub returns-clause-rest : goal.returns-clause-rest
returns-clause-rest c =
    let items = c.self.inside.chunks.items in
    let cs = map arc_value items in
    let taken = c.self.inside.taken in
    let found = c.in_ok-chunk.ensures {u = tt} in
    let some : 0 < length items = omega (arith, found.variant.0 refl, c.self.inside.chunks.ok.0) in
    let any : 0 < length cs = omega (arith, some, length-map items (arc_value {X = List Timed})) in
    let first = chunk_at arc_value items 0 c.in_ok-chunk.chunk.now some found.lookup in
    let size : c.len-count.result ≡ length (get_or cs 0 []) = c.len-count.ensures.len ∙ ap length (c.deref-2.ensures ∙ sym first) in
    let rest : drop 1 (joined (remaining taken cs)) ≡ drop 1 (joined c.args.self.now) = ap (λ (ls : List (List Timed)). drop 1 (joined ls)) c.self.view_is in
    elim c.if-self-count.branch [
      | then-self-count w ↦ ap joined w.self-is ∙ rest_at taken cs c.self.invariant any ∙ rest
      | else-self-count w ↦
          ap joined w.self-is
          ∙ ap (λ (ds : List (List Timed)). joined (remaining 0 ds)) (ap (map arc_value) w.pop_front.ensures.rest ∙ sym (drop-map arc_value 1 items))
          ∙ rest_after taken cs c.self.invariant any (omega (arith, size, w.if-self-count.false))
          ∙ rest
    ]

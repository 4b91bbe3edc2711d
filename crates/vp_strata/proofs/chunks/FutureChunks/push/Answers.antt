use Rattle.std.proofs.Common.{◌≡◌, ◌∙◌, ◌-◌, ◌++◌, ◌∷◌, [], List, ℕ, suc, ◌<◌, ap, arith, get_or, insert, length, map, refl, set, subst, sym}
use Rattle.std.specs.Arc.{arc_value}
use Rattle.std.proofs.lemmas.List.{length-map, map-append}
use Rattle.std.proofs.lemmas.Result.{on_ok_weaker}
use Rattle.vp_strata.specs.declared.event.Timed.{Timed}
use Rattle.vp_strata.specs.declared.chunks.FutureChunks.TheInside.{Inside}
use Rattle.vp_text.specs.Lists.{joined}
use Rattle.vp_strata.specs.Chunks.{AreUnfinished, remaining}
use Rattle.vp_strata.proofs.Chunked.{chunk_at, joined_push, more_last, unfinished_after, unfinished_push}
use Rattle.vp_strata.proofs.chunks.FutureChunks.push.Goals.{in-Some+else-not-is_full, in_default}
use Rattle.vp_strata.proofs.chunks.FutureChunks.push.Goals as goal

-- the last chunk's number, and the place after its events
last : (c : goal.After-insert_in) → (suc (c.len-number.result - 1) ≡ length (map arc_value c.self.inside.chunks.items)) × (c.len-place.result ≡ length (get_or (map arc_value c.self.inside.chunks.items) (c.len-number.result - 1) []))
last c =
    let items = c.self.inside.chunks.items in
    let found = c.in-Some.ensures {u = tt} in
    let number = c.len-number.result - 1 in
    let count : c.len-number.result ≡ length items = c.len-number.ensures ∙ c.self.inside.chunks.ok.0 in
    let some : 0 < length items = omega (arith, found.variant.0 refl, c.self.inside.chunks.ok.0) in
    let is : c.in-Some.last.now ≡ get_or items number c.in-Some.last.now =
    found.lookup ∙ ap (λ (n : ℕ). get_or items (n - 1) c.in-Some.last.now) (sym c.len-number.ensures) in
    let chunk = chunk_at arc_value items number c.in-Some.last.now (omega (arith, some, count)) is in (
      omega (arith, some, count, length-map items (arc_value {X = List Timed})),
      c.len-place.ensures.len ∙ ap length (c.deref.ensures ∙ sym chunk),
    )

pub returns-then-not-is_full-clause-pushed : goal.returns-then-not-is_full-clause-pushed
returns-then-not-is_full-clause-pushed c =
    let cs = map arc_value c.self.inside.chunks.items in
    let taken = c.self.inside.taken in
    let number = c.len-number.result - 1 in
    let end = last c in
    on_ok_weaker c.insert_in.result
    (λ (more : map arc_value c.insert_in.new.chunks.items ≡ set cs number (insert (get_or cs number []) c.len-place.result c.args.event)).
    ap (λ (xs : List (List Timed)). joined (remaining taken xs)) more
    ∙ more_last taken cs number c.len-place.result c.args.event c.self.invariant end.0 end.1
    ∙ ap (λ (ls : List (List Timed)). joined ls ++ c.args.event ∷ []) c.self.view_is)
    c.insert_in.ensures.inserted

pub invariant_of-self : goal.invariant_of-self
invariant_of-self c =
    let cs = map arc_value c.self.inside.chunks.items in
    let number = c.len-number.result - 1 in
    let end = last c in
    unfinished_after c.insert_in.result c.self.inside.taken cs (map arc_value c.insert_in.new.chunks.items) number c.len-place.result c.args.event c.self.invariant (omega (arith, end.0)) (omega (arith, end.1)) c.insert_in.ensures.inserted c.insert_in.ensures.kept

-- the chunks with one more
added : (c : goal.In_ok-push_back) → map arc_value c.push_back.new.self.items ≡ map arc_value c.match-back.self-inside.chunks.items ++ (c.args.event ∷ []) ∷ []
added c =
    let is : arc_value c.in_ok-chunk.chunk ≡ c.args.event ∷ [] = c.in_ok-chunk.ensures {u = tt} in
    ap (map arc_value) (c.in_ok-push_back.ensures {u = tt}).items
    ∙ map-append arc_value c.match-back.self-inside.chunks.items (c.in_ok-chunk.chunk ∷ [])
    ∙ ap (λ (d : List Timed). map arc_value c.match-back.self-inside.chunks.items ++ d ∷ []) is

-- before it is added nothing changes
same : (c : goal.In_ok-push_back) → c.match-back.self-inside ≡ c.self.inside
same c = elim c.match-back.branch [ in-Some+else-not-is_full w ↦ w.self-inside-is | in_default w ↦ w.self-inside-is ]

unfinished : (c : goal.In_ok-push_back) → AreUnfinished c.match-back.self-inside.taken (map arc_value c.match-back.self-inside.chunks.items)
unfinished c =
    let P : Inside → Type 0 = λ s. AreUnfinished s.taken (map arc_value s.chunks.items) in subst P (sym (same c)) c.self.invariant

pub invariant_of-self-2 : goal.invariant_of-self-2
invariant_of-self-2 c =
    let before = c.match-back.self-inside in
    let P : List (List Timed) → Type 0 = λ cs. AreUnfinished before.taken cs in
    subst P (sym (added c)) (unfinished_push before.taken (map arc_value before.chunks.items) c.args.event (unfinished c))

pub returns-clause-pushed : goal.returns-clause-pushed
returns-clause-pushed c =
    let before = c.match-back.self-inside in
    ap (λ (cs : List (List Timed)). joined (remaining before.taken cs)) (added c)
    ∙ joined_push before.taken (map arc_value before.chunks.items) c.args.event (unfinished c)
    ∙ ap (λ (ls : List (List Timed)). joined ls ++ c.args.event ∷ []) (ap (λ (s : Inside). remaining s.taken (map arc_value s.chunks.items)) (same c) ∙ c.self.view_is)

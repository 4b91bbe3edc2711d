use Rattle.std.proofs.Common.{◌≡◌, ◌∙◌, ◌<◌, ◌+◌, ◌-◌, [], ℕ, List, ap, arith, drop, get_or, insert, length, map, set, subst, sym}
use Rattle.std.specs.Arc.{arc_value}
use Rattle.std.proofs.lemmas.List.{length-drop, length-map}
use Rattle.std.proofs.lemmas.Result.{on_ok_weaker}
use Rattle.vp_strata.specs.declared.event.Timed.{Timed}
use Rattle.vp_text.specs.Lists.{joined}
use Rattle.vp_strata.specs.Chunks.{AreUnfinished, first_place, position, remaining}
use Rattle.vp_strata.proofs.Chunked.{as_many, chunk_at, fits_in, map_split, more_in_chunk, more_in_two, unfinished_after, unfinished_split}
use Rattle.vp_strata.proofs.Found.{remains}
use Rattle.vp_strata.proofs.chunks.FutureChunks.insert.Goals as goal

pub returns-then-not-is_full-clause-inserted : goal.returns-then-not-is_full-clause-inserted
returns-then-not-is_full-clause-inserted c =
    let items = c.self.inside.chunks.items in
    let cs = map arc_value items in
    let taken = c.self.inside.taken in
    let n = c.args.number in
    let within : n < length cs = omega (arith, c.requires.number, as_many arc_value taken items c.args.self.now c.self.view_is, length-map items (arc_value {X = List Timed})) in
    let fits = fits_in arc_value taken items c.args.self.now n c.args.place c.self.view_is c.requires.number c.requires.within in
    on_ok_weaker c.insert_in.result
    (λ (more : map arc_value c.insert_in.new.chunks.items ≡ set cs n (insert (get_or cs n []) (c.first_place-first.result + c.args.place) c.args.event)).
    ap (λ (xs : List (List Timed)). joined (remaining taken xs)) more
    ∙ ap (λ (k : ℕ). joined (remaining taken (set cs n (insert (get_or cs n []) (k + c.args.place) c.args.event)))) c.first_place-first.ensures
    ∙ more_in_chunk taken cs n c.args.place c.args.event within (omega (arith, fits))
    ∙ ap (λ (ls : List (List Timed)). insert (joined ls) (position ls n c.args.place) c.args.event) c.self.view_is)
    c.insert_in.ensures.inserted

pub replace_in-requires : goal.replace_in-requires
replace_in-requires c =
    omega (arith, c.requires.number, as_many arc_value c.self.inside.taken c.self.inside.chunks.items c.args.self.now c.self.view_is)

-- the chunks with two in place of one
exchanged : (c : goal.After-self-1) → map arc_value c.replace_in.new.chunks.items ≡ set (insert (map arc_value c.self.inside.chunks.items) (c.args.number + 1) c.in_ok-front.back) c.args.number c.in_ok-front.front
exchanged c =
    let items = c.self.inside.chunks.items in
    let cs = map arc_value items in
    let n = c.args.number in
    let front : arc_value c.in_ok-front-2.front ≡ c.in_ok-front.front = (c.in_ok-front-2.ensures {u = tt}).ok in
    let back : arc_value c.in_ok-back.back ≡ c.in_ok-front.back = (c.in_ok-back.ensures {u = tt}).ok in
    ap (map arc_value) (c.in_ok-replace_in.ensures {u = tt}).replaced
    ∙ map_split arc_value items n c.in_ok-front-2.front c.in_ok-back.back
    ∙ ap (λ (d : List Timed). set (insert cs (n + 1) (arc_value c.in_ok-back.back)) n d) front
    ∙ ap (λ (d : List Timed). set (insert cs (n + 1) d) n c.in_ok-front.front) back

inside : (c : goal.After-self-1) → c.args.number < length (map arc_value c.self.inside.chunks.items)
inside c =
    omega (arith, c.requires.number, as_many arc_value c.self.inside.taken c.self.inside.chunks.items c.args.self.now c.self.view_is, length-map c.self.inside.chunks.items (arc_value {X = List Timed}))

pub invariant_of-self-2 : goal.invariant_of-self-2
invariant_of-self-2 c =
    let cs = map arc_value c.self.inside.chunks.items in
    let taken = c.self.inside.taken in
    let both = c.in_ok-front.ensures {u = tt} in
    let P : List (List Timed) → Type 0 = λ ds. AreUnfinished (taken - first_place taken c.args.number) ds in
    let Q : ℕ → Type 0 = λ k. AreUnfinished (taken - k) (map arc_value c.replace_in.new.chunks.items) in
    subst Q (sym c.first_place-first.ensures) (subst P (sym (exchanged c)) (unfinished_split taken cs c.args.number c.in_ok-front.front c.in_ok-front.back c.self.invariant (inside c) both.front both.back))

pub returns-clause-inserted : goal.returns-clause-inserted
returns-clause-inserted c =
    let items = c.self.inside.chunks.items in
    let cs = map arc_value items in
    let taken = c.self.inside.taken in
    let n = c.args.number in
    let fits = fits_in arc_value taken items c.args.self.now n c.args.place c.self.view_is c.requires.number c.requires.within in
    let chunk : c.deref-2.result.now ≡ get_or cs n [] =
    c.deref-2.ensures ∙ sym (chunk_at arc_value items n c.index-2.result.now (omega (arith, inside c, length-map items (arc_value {X = List Timed}))) c.index-2.ensures) in
    let both =
    (c.in_ok-front.ensures {u = tt}).both
    ∙ ap (λ (k : ℕ). insert (drop k c.deref-2.result.now) c.args.place c.args.event) c.first_place-first.ensures
    ∙ ap (λ (d : List Timed). insert (drop (first_place taken n) d) c.args.place c.args.event) chunk in
    ap (λ (ds : List (List Timed)). joined (remaining (taken - c.first_place-first.result) ds)) (exchanged c)
    ∙ ap (λ (k : ℕ). joined (remaining (taken - k) (set (insert cs (n + 1) c.in_ok-front.back) n c.in_ok-front.front))) c.first_place-first.ensures
    ∙ more_in_two taken cs n c.args.place c.args.event c.in_ok-front.front c.in_ok-front.back (inside c) (omega (arith, fits, length-drop (first_place taken n) (get_or cs n []))) both
    ∙ ap (λ (ls : List (List Timed)). insert (joined ls) (position ls n c.args.place) c.args.event) c.self.view_is

pub invariant_of-self : goal.invariant_of-self
invariant_of-self c =
    let items = c.self.inside.chunks.items in
    let taken = c.self.inside.taken in
    let fits = fits_in arc_value taken items c.args.self.now c.args.number c.args.place c.self.view_is c.requires.number c.requires.within in
    let within : c.args.number < length (map arc_value items) = omega (arith, c.requires.number, as_many arc_value taken items c.args.self.now c.self.view_is, length-map items (arc_value {X = List Timed})) in
    unfinished_after c.insert_in.result taken (map arc_value items) (map arc_value c.insert_in.new.chunks.items) c.args.number (c.first_place-first.result + c.args.place) c.args.event c.self.invariant within (omega (arith, fits, c.first_place-first.ensures)) c.insert_in.ensures.inserted c.insert_in.ensures.kept

pub halves-requires : goal.halves-requires
halves-requires c =
    let items = c.self.inside.chunks.items in
    let taken = c.self.inside.taken in
    let n = c.args.number in
    let within : n < length items = omega (arith, c.requires.number, as_many arc_value taken items c.args.self.now c.self.view_is) in
    let rest = remains arc_value items taken n c.args.self.now c.index-2.result.now c.self.view_is within c.index-2.ensures
    ∙ ap (drop (first_place taken n)) (sym c.deref-2.ensures)
    ∙ ap (λ (k : ℕ). drop k c.deref-2.result.now) (sym c.first_place-first.ensures) in
    omega (arith, ap length rest, c.requires.within)

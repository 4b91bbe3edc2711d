-- Closed segments that are numbered one after another.
use Rattle.std.proofs.Common.{◌≡◌, ◌∙◌, ◌≤◌, ◌<◌, ◌+◌, ◌-◌, ◌==◌, ◌++◌, ℕ, zero, suc, Bool, true, false, cond, List, [], ◌∷◌, Some, None, drop, length, refl, sym, ap, subst, arith, ◌⊎◌, inl, inr, ◌≢◌}
use Rattle.std.specs.Prelude.{nat_lt, slice_get}
use Rattle.std.specs.List.{find}
use Rattle.std.proofs.lemmas.Bool.{eq-eqb, ltb-false, ltb-true}
use Rattle.std.proofs.lemmas.Bool.Decides.{eqb_tells}
use Rattle.std.proofs.lemmas.List.{length-append, length-drop}
use Rattle.std.proofs.lemmas.Option.{slice_get_past}
use Rattle.vp_race.specs.Recording.{AreNumbered}
use Rattle.vp_race.specs.Segments.{Run}

told_other : (m n : ℕ) → m ≢ n → ((m == n) ≡ true) × (m ≡ n) ⊎ ((m == n) ≡ false) × (m ≢ n) → (m == n) ≡ false
told_other m n h (inl same) = absurd (h same.1)
told_other m n h (inr other) = other.0

-- numbers that are not equal are not reported to be
pub not_equal : (m n : ℕ) → m ≢ n → (m == n) ≡ false
not_equal m n h = told_other m n h (eqb_tells m n)

-- the segment of a number is found by its place
pub numbered_find : (from i : ℕ) (runs : List Run) → AreNumbered from runs → find (λ (run : Run). run.number == from + i) runs ≡ slice_get runs i
numbered_find from i [] h = sym (slice_get_past [] i (omega arith))
numbered_find from zero (run ∷ runs) h =
    ap (λ b. cond b (Some run) (find (λ (r : Run). r.number == from + 0) runs)) (eq-eqb run.number (from + 0) (omega (arith, h.0)))
numbered_find from (suc i) (run ∷ runs) h =
    ap (λ b. cond b (Some run) (find (λ (r : Run). r.number == from + suc i) runs)) (not_equal run.number (from + suc i) (omega (arith, h.0)))
    ∙ ap (λ n. find (λ (r : Run). r.number == n) runs) (omega arith)
    ∙ numbered_find (suc from) i runs h.1

-- no segment has a number before the first
pub numbered_none : (from number : ℕ) (runs : List Run) → AreNumbered from runs → number < from → find (λ (run : Run). run.number == number) runs ≡ None
numbered_none from number [] h before = refl
numbered_none from number (run ∷ runs) h before =
    ap (λ b. cond b (Some run) (find (λ (r : Run). r.number == number) runs)) (not_equal run.number number (omega (arith, h.0, before)))
    ∙ numbered_none (suc from) number runs h.1 (omega (arith, before))

next_by : (b : Bool) (before number : ℕ) (run : Run) (runs : List Run) → run.number ≡ suc before → AreNumbered (suc (suc before)) runs
    → (find (λ (r : Run). nat_lt number r.number) runs ≡ slice_get runs (number - suc before))
    → nat_lt number run.number ≡ b → cond b (Some run) (find (λ (r : Run). nat_lt number r.number) runs) ≡ slice_get (run ∷ runs) (number - before)
next_by true before number run runs first h rest is =
    let small : number < run.number = ltb-true number run.number is in
    let none : number - before ≡ 0 = omega (arith, small, first) in
    ap (λ k. slice_get (run ∷ runs) k) (sym none)
next_by false before number run runs first h rest is =
    let large : run.number ≤ number = ltb-false number run.number is in
    let more : number - before ≡ suc (number - suc before) = omega (arith, large, first) in
    rest ∙ ap (λ k. slice_get (run ∷ runs) k) (sym more)

-- the first segment after a number is found by its place
pub numbered_next : (before number : ℕ) (runs : List Run) → AreNumbered (suc before) runs → find (λ (run : Run). nat_lt number run.number) runs ≡ slice_get runs (number - before)
numbered_next before number [] h = sym (slice_get_past [] (number - before) (omega arith))
numbered_next before number (run ∷ runs) h = next_by (nat_lt number run.number) before number run runs h.0 h.1 (numbered_next (suc before) number runs h.1) refl

-- one segment more
pub numbered_more : (from : ℕ) (runs : List Run) (run : Run) → AreNumbered from runs → run.number ≡ from + length runs → AreNumbered from (runs ++ run ∷ [])
numbered_more from [] run h next = (omega (arith, next), tt)
numbered_more from (r ∷ runs) run h next = (h.0, numbered_more (suc from) runs run h.1 (omega (arith, next)))

-- the first ones are left out
pub numbered_drop : (n from : ℕ) (runs : List Run) → AreNumbered from runs → n ≤ length runs → AreNumbered (from + n) (drop n runs)
numbered_drop zero from runs h few = subst (λ k. AreNumbered k runs) (omega arith) h
numbered_drop (suc n) from [] h few = absurd (omega (arith, few))
numbered_drop (suc n) from (run ∷ runs) h few =
    subst (λ k. AreNumbered k (drop n runs)) (omega arith) (numbered_drop n (suc from) runs h.1 (omega (arith, few)))

-- one segment more, of which the last so many are kept
pub numbered_kept :
    (count limit : ℕ) (runs : List Run) (run : Run)
    → length runs ≤ count → length runs ≤ limit → AreNumbered (suc (count - length runs)) runs → run.number ≡ count + 1
    → AreNumbered (suc (count + 1 - length (drop (length (runs ++ run ∷ []) - limit) (runs ++ run ∷ [])))) (drop (length (runs ++ run ∷ []) - limit) (runs ++ run ∷ []))
numbered_kept count limit runs run few within h next =
    let all = runs ++ run ∷ [] in
    let long : length all ≡ length runs + 1 = length-append runs (run ∷ []) in
    let n = length all - limit in
    let left : length (drop n all) ≡ length all - n = length-drop n all in
    let more : AreNumbered (suc (count - length runs)) all = numbered_more (suc (count - length runs)) runs run h (omega (arith, next, few)) in
    subst (λ k. AreNumbered k (drop n all)) (omega (arith, long, left, few, within)) (numbered_drop n (suc (count - length runs)) all more (omega (arith, long)))

-- no more are kept than closed
pub numbered_few : (count limit : ℕ) (runs : List Run) (run : Run) → length runs ≤ count → length (drop (length (runs ++ run ∷ []) - limit) (runs ++ run ∷ [])) ≤ count + 1
numbered_few count limit runs run few =
    let all = runs ++ run ∷ [] in
    let long : length all ≡ length runs + 1 = length-append runs (run ∷ []) in
    let left : length (drop (length all - limit) all) ≡ length all - (length all - limit) = length-drop (length all - limit) all in
    omega (arith, long, left, few)

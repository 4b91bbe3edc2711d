-- Future events in the order of their times.
use Rattle.std.proofs.Common.{◌≡◌, ◌∙◌, ℕ, zero, suc, ◌-◌, ◌==◌, ◌<◌, ◌≤◌, nat_le, Bool, true, false, cond, not, List, [], ◌∷◌, ◌++◌, ap, sym, arith, filter, length, take, drop, get_or, insert, Some, refl, inl, inr, IfSome}
use Rattle.std.specs.List.{AllWithin}
use Rattle.std.proofs.lemmas.Bool.{cases_eq, cases_lt, leb-true, leb-false, le-leb, lt-leb, ne_eqb, eq-eqb}
use Rattle.std.proofs.lemmas.List.Edits.{get_or-insert_at, get_or-insert_below, get_or-insert_above, length-insert}
use Rattle.vp_strata.specs.declared.event.Timed.{Timed}
use Rattle.vp_strata.specs.Queues.{AreOrdered, first_time, is_at, is_by, scheduled}

-- ---- what a place parts

-- those before a place pass, and those from it on don't: these are all that pass, and all that don't
pub parts : {X : Type 0} (p : X → Bool) (xs : List X) (i : ℕ) → AllWithin (λ y. p y ≡ true) xs 0 i → AllWithin (λ y. p y ≡ false) xs i (length xs) → i ≤ length xs → (take i xs ≡ filter p xs) × (drop i xs ≡ filter (λ y. not (p y)) xs)
parts p [] zero before following within = (refl, refl)
parts p [] (suc i) before following within = absurd (omega arith)
parts p (x ∷ xs) zero before following within =
    let here : p x ≡ false = following 0 x (omega arith) (omega arith) in
    let rest = parts p xs zero (λ k d low high. absurd (omega arith)) (λ k d low high. following (suc k) d (omega arith) (omega arith)) (omega arith) in (
      rest.0 ∙ ap (λ b. cond b (x ∷ filter p xs) (filter p xs)) (sym here),
      ap (λ ys. x ∷ ys) rest.1 ∙ ap (λ b. cond (not b) (x ∷ filter (λ y. not (p y)) xs) (filter (λ y. not (p y)) xs)) (sym here),
    )
parts p (x ∷ xs) (suc i) before following within =
    let here : p x ≡ true = before 0 x (omega arith) (omega arith) in
    let rest = parts p xs i (λ k d low high. before (suc k) d (omega arith) (omega arith)) (λ k d low high. following (suc k) d (omega arith) (omega arith)) (omega arith) in (
      ap (λ ys. x ∷ ys) rest.0 ∙ ap (λ b. cond b (x ∷ filter p xs) (filter p xs)) (sym here),
      rest.1 ∙ ap (λ b. cond (not b) (x ∷ filter (λ y. not (p y)) xs) (filter (λ y. not (p y)) xs)) (sym here),
    )

-- two tests that agree on a list keep the same of it
pub same_kept : {X : Type 0} (p q : X → Bool) (xs : List X) → ((k : ℕ) (d : X) → k < length xs → p (get_or xs k d) ≡ q (get_or xs k d)) → filter p xs ≡ filter q xs
same_kept p q [] same = refl
same_kept p q (x ∷ xs) same =
    let rest = same_kept p q xs (λ k d h. same (suc k) d (omega arith)) in
    ap (λ b. cond b (x ∷ filter p xs) (filter p xs)) (same 0 x (omega arith)) ∙ ap (λ ys. cond (q x) (x ∷ ys) ys) rest

-- of a time that is none earlier: no later than it is at it
pub by_is_at : (t n : ℕ) → t ≤ n → nat_le n t ≡ (n == t)
by_is_at t n h = elim (cases_eq n t) [
  | inl same ↦ le-leb n t (omega (arith, same)) ∙ sym (eq-eqb n t same)
  | inr other ↦ lt-leb n t (omega (arith, other)) ∙ sym (ne_eqb n t other)
]

-- ---- the events of the first time

none_earlier : (xs : List Timed) (time : ℕ) → AreOrdered xs → first_time xs ≡ Some time → (k : ℕ) (d : Timed) → k < length xs → time ≤ (get_or xs k d).time
none_earlier [] time ordered first k d h = absurd (omega arith)
none_earlier (x ∷ xs) time ordered first k d h =
    let here : x.time ≡ time = cc in let from = ordered 0 k d (omega arith) h in omega (arith, here, from)

-- those that come no later than the first time are those at it
pub at_first : (xs : List Timed) (time i : ℕ) → AreOrdered xs → first_time xs ≡ Some time → AllWithin (λ e. is_by time e ≡ true) xs 0 i → AllWithin (λ e. is_by time e ≡ false) xs i (length xs) → i ≤ length xs → (take i xs ≡ filter (is_at time) xs) × (drop i xs ≡ filter (λ e. not (is_at time e)) xs)
at_first xs time i ordered first before following within =
    let parted = parts (is_by time) xs i before following within in
    let same : (k : ℕ) (d : Timed) → k < length xs → is_by time (get_or xs k d) ≡ is_at time (get_or xs k d) =
    λ k d h. by_is_at time (get_or xs k d).time (none_earlier xs time ordered first k d h) in (
      parted.0 ∙ same_kept (is_by time) (is_at time) xs same,
      parted.1 ∙ same_kept (λ e. not (is_by time e)) (λ e. not (is_at time e)) xs (λ k d h. ap not (same k d h)),
    )

-- an event alone comes at the first time
pub alone : (es : List Timed) → length es ≤ 1 → IfSome (first_time es) (λ time. (take (length es) es ≡ filter (is_at time) es) × (drop (length es) es ≡ filter (λ e. not (is_at time e)) es))
alone [] few = tt
alone (e ∷ []) few = rw (eq-eqb e.time e.time refl) (refl, refl)
alone (e ∷ f ∷ es) few = absurd (omega arith)

-- ---- one more event

-- one more stands after those that come no later
pub scheduled_at : (xs : List Timed) (i : ℕ) (y : Timed) → AllWithin (λ e. is_by y.time e ≡ true) xs 0 i → AllWithin (λ e. is_by y.time e ≡ false) xs i (length xs) → i ≤ length xs → insert xs i y ≡ scheduled y xs
scheduled_at xs i y before following within =
    let parted = parts (is_by y.time) xs i before following within in
    ap (λ (es : List Timed). es ++ y ∷ drop i xs) parted.0
    ∙ ap (λ (es : List Timed). filter (is_by y.time) xs ++ y ∷ es) parted.1

-- the events stay in order after one more that stands after those that come no later
pub ordered_with : (xs : List Timed) (i : ℕ) (y : Timed) → AreOrdered xs → i ≤ length xs → AllWithin (λ e. is_by y.time e ≡ true) xs 0 i → AllWithin (λ e. is_by y.time e ≡ false) xs i (length xs) → AreOrdered (insert xs i y)
ordered_with xs i y ordered within before following a b d ab long =
    let size = length-insert xs i y within in
    let left : (k : ℕ) → k < i → get_or (insert xs i y) k d ≡ get_or xs k d = λ k h. get_or-insert_below xs i y d k h within in
    let here : (k : ℕ) → k ≡ i → get_or (insert xs i y) k d ≡ y = λ k h. ap (λ n. get_or (insert xs i y) n d) h ∙ get_or-insert_at xs i y d within in
    let right : (k : ℕ) → i < k → get_or (insert xs i y) k d ≡ get_or xs (k - 1) d =
    λ k h. ap (λ n. get_or (insert xs i y) n d) (omega (arith, h)) ∙ get_or-insert_above xs i y d (k - 1) (omega (arith, h)) within in
    elim (cases_lt b i) [
      | inl b_left ↦ rw (left a (omega (arith, b_left)), left b b_left) (ordered a b d ab (omega (arith, b_left)))
      | inr b_not ↦ elim (cases_eq b i) [
        | inl b_here ↦ elim (cases_lt a i) [
          | inl a_left ↦ rw (left a a_left, here b b_here) (leb-true _ _ (before a d (omega arith) a_left))
          | inr a_not ↦ rw (here a (omega (arith, a_not, b_here)), here b b_here) (omega arith)
        ]
        | inr b_other ↦ elim (cases_lt a i) [
          | inl a_left ↦ rw (left a a_left, right b (omega (arith, b_not, b_other))) (ordered a (b - 1) d (omega (arith, a_left, b_not, b_other)) (omega (arith, size, b_not, b_other)))
          | inr a_not ↦ elim (cases_eq a i) [
            | inl a_here ↦ rw (here a a_here, right b (omega (arith, b_not, b_other))) (let late = leb-false _ _ (following (b - 1) d (omega (arith, b_not, b_other)) (omega (arith, size, b_not, b_other))) in omega (arith, late))
            | inr a_other ↦ rw (right a (omega (arith, a_not, a_other)), right b (omega (arith, b_not, b_other))) (ordered (a - 1) (b - 1) d (omega (arith, a_not, a_other, b_not, b_other)) (omega (arith, size, b_not, b_other)))
          ]
        ]
      ]
    ]

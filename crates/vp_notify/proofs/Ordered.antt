-- Callbacks by object, and what an index parts them into.
use Rattle.std.proofs.Common.{◌≡◌, ◌∙◌, ℕ, zero, suc, ◌==◌, ◌≤◌, nat_le, nat_lt, Bool, true, false, cond, not, ◌&&◌, ◌||◌, List, [], ◌∷◌, ◌++◌, ap, sym, arith, filter, length, take, drop, insert, refl, inl, inr}
use Rattle.std.specs.List.{list_any}
use Rattle.std.specs.List.Sorted.{IsPartitionPoint}
use Rattle.std.proofs.lemmas.Bool.{cases_eq, cases_lt, leb-true, leb-false, le-leb, lt-leb, lt-ltb, le-ltb, ne_eqb, eq-eqb}
use Rattle.std.proofs.lemmas.List.Elements.{filter_agree}
use Rattle.std.proofs.lemmas.List.Sorted.{IsNonDecreasingBy-insert}
use Rattle.vp_notify.specs.declared.registry.Callback.{Callback}
use Rattle.vp_notify.specs.Registry.{AreOrdered, is_below, is_past_goal, is_by, is_on, with_callback}

-- ---- what an index parts

-- those before an index pass, and those from it on don't: these are all that pass, and all that don't
parts : {X : Type 0} (p : X → Bool) (xs : List X) (i : ℕ) → IsPartitionPoint (λ y. p y ≡ true) (λ y. p y ≡ false) xs i → i ≤ length xs → (take i xs ≡ filter p xs) × (drop i xs ≡ filter (λ y. not (p y)) xs)
parts p [] zero parted within = (refl, refl)
parts p [] (suc i) parted within = absurd (omega arith)
parts p (x ∷ xs) zero (before, following) within =
    let here : p x ≡ false = following 0 x (omega arith) (omega arith) in
    let rest = parts p xs zero (λ k d low high. absurd (omega arith), λ k d low high. following (suc k) d (omega arith) (omega arith)) (omega arith) in (
      rest.0 ∙ ap (λ b. cond b (x ∷ filter p xs) (filter p xs)) (sym here),
      ap (λ ys. x ∷ ys) rest.1 ∙ ap (λ b. cond (not b) (x ∷ filter (λ y. not (p y)) xs) (filter (λ y. not (p y)) xs)) (sym here),
    )
parts p (x ∷ xs) (suc i) (before, following) within =
    let here : p x ≡ true = before 0 x (omega arith) (omega arith) in
    let rest = parts p xs i (λ k d low high. before (suc k) d (omega arith) (omega arith), λ k d low high. following (suc k) d (omega arith) (omega arith)) (omega arith) in (
      ap (λ ys. x ∷ ys) rest.0 ∙ ap (λ b. cond b (x ∷ filter p xs) (filter p xs)) (sym here),
      rest.1 ∙ ap (λ b. cond (not b) (x ∷ filter (λ y. not (p y)) xs) (filter (λ y. not (p y)) xs)) (sym here),
    )

-- not at most is above
not_by : (n t : ℕ) → not (nat_le n t) ≡ nat_lt t n
not_by n t = elim (cases_lt t n) [
  | inl above ↦ ap not (lt-leb n t above) ∙ sym (lt-ltb t n above)
  | inr other ↦ ap not (le-leb n t (omega (arith, other))) ∙ sym (le-ltb t n (omega (arith, other)))
]

-- at most and not below is equal
both_is : (n t : ℕ) → (nat_le n t && not (nat_lt n t)) ≡ (n == t)
both_is n t = elim (cases_eq n t) [
  | inl same ↦ rw (le-leb n t (omega (arith, same)), le-ltb n t (omega (arith, same)), eq-eqb n t same) refl
  | inr other ↦ elim (cases_lt n t) [
    | inl below ↦ rw (le-leb n t (omega (arith, below)), lt-ltb n t below, ne_eqb n t other) refl
    | inr above ↦ rw (lt-leb n t (omega (arith, other, above)), ne_eqb n t other) refl
  ]
]

-- what passes a test of what passes another passes both
filter-filter : {X : Type 0} (p q : X → Bool) (xs : List X) → filter q (filter p xs) ≡ filter (λ x. p x && q x) xs
filter-filter p q [] = refl
filter-filter p q (x ∷ xs) =
    let rest = filter-filter p q xs in
    elim (p x) as (λ b. filter q (cond b (x ∷ filter p xs) (filter p xs)) ≡ cond (b && q x) (x ∷ filter (λ y. p y && q y) xs) (filter (λ y. p y && q y) xs)) [
      | true ↦ ap (λ ys. cond (q x) (x ∷ ys) ys) rest
      | false ↦ rest
    ]

-- whether a test keeps anything
pub keeps_any : {X : Type 0} (p : X → Bool) (xs : List X) → not (length (filter p xs) == 0) ≡ list_any p xs
keeps_any p [] = refl
keeps_any p (x ∷ xs) =
    let rest = keeps_any p xs in
    elim (p x) as (λ b. not (length (cond b (x ∷ filter p xs) (filter p xs)) == 0) ≡ (b || list_any p xs)) [ true ↦ ap not (ne_eqb (length (x ∷ filter p xs)) 0 (omega arith)) | false ↦ rest ]

-- of the callbacks on an object or a lower one, those that are on no lower one are on it
on_of : (callbacks : List Callback) (object : ℕ) → filter (λ callback. not (is_below object callback)) (filter (is_by object) callbacks) ≡ filter (is_on object) callbacks
on_of callbacks object =
    filter-filter (is_by object) (λ callback. not (is_below object callback)) callbacks
    ∙ filter_agree (λ callback. is_by object callback && not (is_below object callback)) (is_on object) (λ callback. both_is callback.object.0 object) callbacks

-- ---- callbacks by object

-- the callbacks from one index on up to another are those on an object, where these part those on lower objects and those on higher ones
pub between_is : (callbacks : List Callback) (object by below : ℕ) → IsPartitionPoint (λ c. is_by object c ≡ true) (λ c. is_by object c ≡ false) callbacks by → by ≤ length callbacks → IsPartitionPoint (λ c. is_below object c ≡ true) (λ c. is_below object c ≡ false) (take by callbacks) below → below ≤ length (take by callbacks) → drop below (take by callbacks) ≡ filter (is_on object) callbacks
between_is callbacks object by below upper within lower inside =
    (parts (is_below object) (take by callbacks) below lower inside).1
    ∙ ap (filter (λ c. not (is_below object c))) (parts (is_by object) callbacks by upper within).0
    ∙ on_of callbacks object

-- one more callback after those of its object and of lower ones
pub with_callback_at : (callbacks : List Callback) (i : ℕ) (new : Callback) → IsPartitionPoint (λ c. is_by new.object.0 c ≡ true) (λ c. is_by new.object.0 c ≡ false) callbacks i → i ≤ length callbacks → insert callbacks i new ≡ with_callback callbacks new
with_callback_at callbacks i new parted within =
    let split = parts (is_by new.object.0) callbacks i parted within in
    ap (λ (cs : List Callback). cs ++ new ∷ drop i callbacks) split.0
    ∙ ap (λ (cs : List Callback). filter (is_by new.object.0) callbacks ++ new ∷ cs) (split.1 ∙ filter_agree (λ c. not (is_by new.object.0 c)) (is_past_goal new.object.0) (λ c. not_by c.object.0 new.object.0) callbacks)

-- callbacks stay by object with it
pub ordered_with : (callbacks : List Callback) (i : ℕ) (new : Callback) → AreOrdered callbacks → i ≤ length callbacks → IsPartitionPoint (λ c. is_by new.object.0 c ≡ true) (λ c. is_by new.object.0 c ≡ false) callbacks i → AreOrdered (insert callbacks i new)
ordered_with callbacks i new ordered within parted =
    IsNonDecreasingBy-insert (λ c. c.object.0) callbacks i new ordered within
    (λ k d h. leb-true _ _ (parted.0 k d (omega arith) h))
    (λ k d h inside. let late = leb-false _ _ (parted.1 k d h inside) in omega (arith, late))

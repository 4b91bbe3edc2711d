-- Objects keep their order under rising numbers.
use Rattle.std.proofs.Common.{◌≡◌, ◌∙◌, ℕ, zero, suc, ◌+◌, ◌≤◌, ◌<◌, nat_lt, Bool, true, false, ◌&&◌, List, [], ◌∷◌, ◌++◌, drop, length, map, take, ap, sym, arith, get_or, refl, inl, inr}
use Rattle.std.specs.Prelude.{nat_le, slice_index_or}
use Rattle.std.specs.List.{list_all}
use Rattle.std.proofs.lemmas.Bool.{cases_lt, leb-true, le-ltb, ltb-true, and_parts}
use Rattle.std.proofs.lemmas.List.{length-append, length-drop, length-map, length-take, get_or-map}
use Rattle.std.proofs.lemmas.List.Folds.{list_all_at}
use Rattle.vp_notify.specs.declared.registry.Callback.{Callback}
use Rattle.vp_notify.specs.Registry.{AreOrdered}
use Rattle.vp_notify.specs.Renumbered.{is_callback_within, moved_callback, number_now, rises, rises_from}

-- both of two hold
pub first_of : (a b : Bool) → (a && b) ≡ true → a ≡ true
first_of true b h = refl
first_of false b h = absurd (cc)

second_of : (a b : Bool) → (a && b) ≡ true → b ≡ true
second_of true b h = h
second_of false b h = absurd (cc)

-- rising numbers are at least the least one
least_at : (least : ℕ) (numbers : List ℕ) → rises_from least numbers ≡ true → (k : ℕ) → k < length numbers → least ≤ slice_index_or numbers k 0
least_at least [] h k l = absurd (omega arith)
least_at least (n ∷ numbers) h zero l = leb-true least n (first_of (nat_le least n) (rises_from (n + 1) numbers) h)
least_at least (n ∷ numbers) h (suc k) l =
    let low : least ≤ n = leb-true least n (first_of (nat_le least n) (rises_from (n + 1) numbers) h) in
    let high : n + 1 ≤ slice_index_or numbers k 0 = least_at (n + 1) numbers (second_of (nat_le least n) (rises_from (n + 1) numbers) h) k (omega arith) in
    omega (arith, low, high)

-- a later number is no lower one
rising_at : (least : ℕ) (numbers : List ℕ) → rises_from least numbers ≡ true → (a b : ℕ) → a ≤ b → b < length numbers → slice_index_or numbers a 0 ≤ slice_index_or numbers b 0
rising_at least [] h a b below l = absurd (omega arith)
rising_at least (n ∷ numbers) h zero zero below l = omega arith
rising_at least (n ∷ numbers) h zero (suc b) below l =
    let high : n + 1 ≤ slice_index_or numbers b 0 = least_at (n + 1) numbers (second_of (nat_le least n) (rises_from (n + 1) numbers) h) b (omega arith) in
    omega (arith, high)
rising_at least (n ∷ numbers) h (suc a) zero below l = absurd (omega arith)
rising_at least (n ∷ numbers) h (suc a) (suc b) below l =
    rising_at (n + 1) numbers (second_of (nat_le least n) (rises_from (n + 1) numbers) h) a b (omega arith) (omega arith)

-- the object of a callback at an index is one of so many
within_at : (count : ℕ) (cs : List Callback) → list_all (is_callback_within count) cs ≡ true → (j : ℕ) (d : Callback) → j < length cs → (get_or cs j d).object.0 < count
within_at count cs h j d l = elim (cases_lt (get_or cs j d).object.0 count) [
  | inl below ↦ below
  | inr other ↦
      let out = list_all_at (is_callback_within count) cs j d l (le-ltb (get_or cs j d).object.0 count other) in
      absurd (cc)
]

-- callbacks by object stay so
pub ordered : (numbers : List ℕ) (cs : List Callback) → rises numbers ≡ true → list_all (is_callback_within (length numbers)) cs ≡ true → AreOrdered cs → AreOrdered (map (moved_callback (number_now numbers)) cs)
ordered numbers cs rising within h i j d below l =
    let f : Callback → Callback = moved_callback (number_now numbers) in
    let long : length (map f cs) ≡ length cs = length-map cs f in
    let first = ap (λ (c : Callback). c.object.0) (get_or-map f cs i d d (omega (arith, long))) in
    let second = ap (λ (c : Callback). c.object.0) (get_or-map f cs j d d (omega (arith, long))) in
    let objects : (get_or cs i d).object.0 ≤ (get_or cs j d).object.0 = h i j d below (omega (arith, long)) in
    let inside : (get_or cs j d).object.0 < length numbers = within_at (length numbers) cs within j d (omega (arith, long)) in
    let numbered = rising_at 0 numbers rising (get_or cs i d).object.0 (get_or cs j d).object.0 objects inside in
    omega (arith, first, second, numbered)

-- a loop that has written the items before an index leaves as many
pub as_many : {X : Type 0} (f : X → X) (xs ys : List X) (i : ℕ) → ys ≡ map f (take i xs) ++ drop i xs → length ys ≡ length xs
as_many f xs ys i is =
    let all = ap length is in
    let both = length-append (map f (take i xs)) (drop i xs) in
    let first = length-map (take i xs) f in
    let taken = length-take i xs in
    let rest = length-drop i xs in
    omega (arith, all, both, first, taken, rest)

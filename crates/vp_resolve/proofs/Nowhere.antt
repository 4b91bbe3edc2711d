-- What is so nowhere in a list: no part gives a place.
use Rattle.std.proofs.Common.{◌≡◌, ℕ, zero, suc, ◌<◌, Bool, true, false, inl, inr, List, [], ◌∷◌, ◌++◌, slice_get, Option, Some, None, refl, sym, ap, ◌∙◌, subst, arith}
use Rattle.std.proofs.lemmas.Bool.{and_from, and_parts}
use Rattle.std.proofs.lemmas.Bool.Decides.{eqb_tells}
use Rattle.std.specs.List.{list_all}
use Rattle.vp_source.specs.declared.source.Source.{Source}
use Rattle.vp_source.specs.Places.{earlier, earliest}
use Rattle.vp_source.specs.laws.Places.{earliest-more}
use Rattle.vp_elab.specs.Tree.{below}
use Rattle.vp_resolve.specs.declared.error.ExprError.{ExprError}
use Rattle.vp_resolve.specs.Checks.{place_if, refused_at}

-- two places are missing where the first of them is
pub earlier_none : (a b : Option ℕ) → earlier a b ≡ None → (a ≡ None) × (b ≡ None)
earlier_none None None h = (refl, refl)
earlier_none None (Some b) h = absurd cc
earlier_none (Some a) None h = absurd cc
earlier_none (Some a) (Some b) h = absurd cc

-- none of a list gives a place where the first of them is missing
pub earliest_none : {X : Type 0} (f : X → Option ℕ) (xs : List X) (k : ℕ) (x : X) → earliest f xs ≡ None → slice_get xs k ≡ Some x → f x ≡ None
earliest_none f [] k x h at = absurd cc
earliest_none f (y ∷ ys) zero x h at =
    let same : y ≡ x = cc in
    subst (λ z. f z ≡ None) same (earlier_none (f y) (earliest f ys) h).0
earliest_none f (y ∷ ys) (suc k) x h at =
    earliest_none f ys k x (earlier_none (f y) (earliest f ys) h).1 at

-- and none of the numbers below one
pub below_none : (f : ℕ → Option ℕ) (n k : ℕ) → earliest f (below n) ≡ None → k < n → f k ≡ None
below_none f zero k h less = absurd (omega arith)
below_none f (suc n) k h less =
    let both = earlier_none (earliest f (below n)) (f n) (sym (earliest-more f (below n) n) ∙ h) in
    elim (eqb_tells k n) as (λ _. f k ≡ None) [
      | inl same ↦ ap f same.1 ∙ both.1
      | inr other ↦ let differs = other.1 in below_none f n k both.0 (omega arith)
    ]

-- a place is missing where it is not so
pub place_none : (so : Bool) (place : ℕ) → place_if so place ≡ None → so ≡ false
place_none true place h = absurd cc
place_none false place h = refl

-- no refusal has no place, and no other refusal after it
pub refused_none : (source : Source) (refusal : ℕ → ExprError) (place : Option ℕ) (other : Option ExprError) → refused_at source refusal place other ≡ None → (place ≡ None) × (other ≡ None)
refused_none source refusal None other h = (refl, h)
refused_none source refusal (Some place) other h = absurd cc

-- ---- what holds of each

-- what a test says of all it says of each
pub all_at : {X : Type 0} (p : X → Bool) (xs : List X) (k : ℕ) (x : X) → list_all p xs ≡ true → slice_get xs k ≡ Some x → p x ≡ true
all_at p [] k x h at = absurd cc
all_at p (y ∷ ys) zero x h at =
    let same : y ≡ x = cc in
    ap p (sym same) ∙ (and_parts (p y) (list_all p ys) h).0
all_at p (y ∷ ys) (suc k) x h at = all_at p ys k x (and_parts (p y) (list_all p ys) h).1 at

-- what it says of each it says of all
pub all_from : {X : Type 0} (p : X → Bool) (xs : List X) → ((k : ℕ) (x : X) → slice_get xs k ≡ Some x → p x ≡ true) → list_all p xs ≡ true
all_from p [] each = refl
all_from p (x ∷ xs) each = and_from (p x) (list_all p xs) (each 0 x refl) (all_from p xs (λ k y at. each (suc k) y at))

-- of two lists, one after the other
pub all_both : {X : Type 0} (p : X → Bool) (xs ys : List X) → list_all p xs ≡ true → list_all p ys ≡ true → list_all p (xs ++ ys) ≡ true
all_both p [] ys h k = k
all_both p (x ∷ xs) ys h k =
    let both = and_parts (p x) (list_all p xs) h in
    and_from (p x) (list_all p (xs ++ ys)) both.0 (all_both p xs ys both.1 k)

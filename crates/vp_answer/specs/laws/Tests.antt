-- Lists whose items all pass a test.
use Rattle.std.proofs.Common.{◌≡◌, ◌∙◌, ℕ, zero, suc, ◌<◌, Bool, true, false, List, [], ◌∷◌, ◌++◌, length, map, Some, refl, ap, arith}
use Rattle.std.specs.Prelude.{◌&&◌, filter, if◌then◌else◌, slice_get, slice_index_or, slice_set}
use Rattle.std.specs.List.{list_all, remove}

-- both of two hold
pub both : (a b : Bool) → a ≡ true → b ≡ true → (a && b) ≡ true
both a b e f = ap (λ c. c && b) e ∙ f

-- the first of both
pub both_first : (a b : Bool) → (a && b) ≡ true → a ≡ true
both_first true b h = refl
both_first false b h = absurd (cc)

-- the second
pub both_second : (a b : Bool) → (a && b) ≡ true → b ≡ true
both_second true b h = h
both_second false b h = absurd (cc)

module _ {X : Type 0} (p : X → Bool) where
  -- the first item, and the others
  all_first : (x : X) (xs : List X) → list_all p (x ∷ xs) ≡ true → p x ≡ true
  all_first x xs e = both_first (p x) (list_all p xs) e

  all_rest : (x : X) (xs : List X) → list_all p (x ∷ xs) ≡ true → list_all p xs ≡ true
  all_rest x xs e = both_second (p x) (list_all p xs) e

  -- two lists, one after the other
  pub all_join : (xs ys : List X) → list_all p xs ≡ true → list_all p ys ≡ true → list_all p (xs ++ ys) ≡ true
  all_join [] ys e f = f
  all_join (x ∷ xs) ys e f = both (p x) (list_all p (xs ++ ys)) (all_first x xs e) (all_join xs ys (all_rest x xs e) f)

  -- what passes another test
  pub all_kept : (q : X → Bool) (xs : List X) → list_all p xs ≡ true → list_all p (filter q xs) ≡ true
  all_kept q [] e = refl
  all_kept q (x ∷ xs) e = by_test (q x) (all_kept q xs (all_rest x xs e)) where
    by_test : (b : Bool) → list_all p (filter q xs) ≡ true → list_all p (if b then x ∷ filter q xs else filter q xs) ≡ true
    by_test true rest = both (p x) (list_all p (filter q xs)) (all_first x xs e) rest
    by_test false rest = rest

  -- it passes both
  pub all_passing : (q : X → Bool) (xs : List X) → list_all p xs ≡ true → list_all (λ x. p x && q x) (filter q xs) ≡ true
  all_passing q [] e = refl
  all_passing q (x ∷ xs) e = by_test (q x) refl (all_passing q xs (all_rest x xs e)) where
    by_test : (b : Bool) → q x ≡ b → list_all (λ y. p y && q y) (filter q xs) ≡ true → list_all (λ y. p y && q y) (if b then x ∷ filter q xs else filter q xs) ≡ true
    by_test true is rest = both (p x && q x) (list_all (λ y. p y && q y) (filter q xs)) (both (p x) (q x) (all_first x xs e) is) rest
    by_test false is rest = rest

  -- one item is exchanged
  pub all_set : (xs : List X) (i : ℕ) (x : X) → list_all p xs ≡ true → p x ≡ true → list_all p (slice_set xs i x) ≡ true
  all_set [] i x e is = e
  all_set (y ∷ xs) zero x e is = both (p x) (list_all p xs) is (all_rest y xs e)
  all_set (y ∷ xs) (suc i) x e is = both (p y) (list_all p (slice_set xs i x)) (all_first y xs e) (all_set xs i x (all_rest y xs e) is)

  -- one is taken out
  pub all_removed : (xs : List X) (i : ℕ) → list_all p xs ≡ true → list_all p (remove xs i) ≡ true
  all_removed [] zero e = e
  all_removed [] (suc i) e = e
  all_removed (y ∷ xs) zero e = all_rest y xs e
  all_removed (y ∷ xs) (suc i) e = both (p y) (list_all p (remove xs i)) (all_first y xs e) (all_removed xs i (all_rest y xs e))

  -- the item at an index
  pub all_at : (xs : List X) (i : ℕ) (x : X) → list_all p xs ≡ true → slice_get xs i ≡ Some x → p x ≡ true
  all_at [] i x e at = absurd (cc)
  all_at (y ∷ xs) zero x e at = let same : y ≡ x = cc in ap p (cc) ∙ all_first y xs e
  all_at (y ∷ xs) (suc i) x e at = all_at xs i x (all_rest y xs e) at

  -- the same by its index
  pub all_index : (xs : List X) (i : ℕ) (d : X) → list_all p xs ≡ true → i < length xs → p (slice_index_or xs i d) ≡ true
  all_index [] i d e l = absurd (omega arith)
  all_index (x ∷ xs) zero d e l = all_first x xs e
  all_index (x ∷ xs) (suc i) d e l = all_index xs i d (all_rest x xs e) (omega arith)

-- what a form makes of all passes another test
pub all_mapped : {X Y : Type 0} (p : X → Bool) (q : Y → Bool) (f : X → Y) → ((x : X) → p x ≡ true → q (f x) ≡ true) → (xs : List X) → list_all p xs ≡ true → list_all q (map f xs) ≡ true
all_mapped p q f h [] e = refl
all_mapped p q f h (x ∷ xs) e =
    both (q (f x)) (list_all q (map f xs)) (h x (both_first (p x) (list_all p xs) e)) (all_mapped p q f h xs (both_second (p x) (list_all p xs) e))

-- where each item that passes one test passes another, so do all
pub all_implied : {X : Type 0} (p q : X → Bool) → ((x : X) → p x ≡ true → q x ≡ true) → (xs : List X) → list_all p xs ≡ true → list_all q xs ≡ true
all_implied p q h [] e = refl
all_implied p q h (x ∷ xs) e =
    both (q x) (list_all q xs) (h x (both_first (p x) (list_all p xs) e)) (all_implied p q h xs (both_second (p x) (list_all p xs) e))

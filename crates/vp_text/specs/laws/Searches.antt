-- Laws of searches in lists.
use Rattle.std.proofs.Common.{◌≡◌, ℕ, ◌+◌, Bool, cond, ◌||◌, List, [], ◌∷◌, map, position, Some, None, refl, ap, ◌∙◌, ltb}
use Rattle.std.specs.Prelude.{not}
use Rattle.std.specs.List.{list_any, position_or_len}
use Rattle.std.proofs.lemmas.List.{length-map}

-- a test of what f gives is a test of the items
pub list_any-map : {X Y : Type 0} (p : Y → Bool) (f : X → Y) (xs : List X) → list_any p (map f xs) ≡ list_any (λ x. p (f x)) xs
list_any-map p f [] = refl
list_any-map p f (x ∷ xs) = ap (λ b. p (f x) || b) (list_any-map p f xs)

position_or_len-map : {X Y : Type 0} (p : Y → Bool) (f : X → Y) (xs : List X) → position_or_len p (map f xs) ≡ position_or_len (λ x. p (f x)) xs
position_or_len-map p f [] = refl
position_or_len-map p f (x ∷ xs) = ap (λ n. cond (not (p (f x))) (1 + n) 0) (position_or_len-map p f xs)

position_by : (n m : ℕ) → n ≡ m → (l k : ℕ) → l ≡ k → cond (ltb n l) (Some n) None ≡ cond (ltb m k) (Some m) None
position_by n m e l k h = ap (λ x. cond (ltb x l) (Some x) None) e ∙ ap (λ x. cond (ltb m x) (Some m) None) h

-- and the place of the first that passes is the same
pub position-map : {X Y : Type 0} (p : Y → Bool) (f : X → Y) (xs : List X) → position p (map f xs) ≡ position (λ x. p (f x)) xs
position-map p f xs = position_by _ _ (position_or_len-map p f xs) _ _ (length-map xs f)

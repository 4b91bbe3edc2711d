-- Lists whose items are changed one after the other.
use Rattle.std.proofs.Common.{◌≡◌, ◌∙◌, ◌<◌, ℕ, zero, suc, List, [], ◌∷◌, ◌++◌, drop, get_or, length, map, take, ap, arith, sym}
use Rattle.std.specs.Prelude.{slice_get, Some}

-- the item at an index of a list of which those before it were changed is that of before
pub untouched_at : {X : Type 0} (f : X → X) (xs ys : List X) (i : ℕ) (x : X) → i < length xs → ys ≡ map f (take i xs) ++ drop i xs → x ≡ get_or ys i x → slice_get xs i ≡ Some x
untouched_at f xs ys i x within is item = by_index f xs i x within (item ∙ ap (λ zs. get_or zs i x) is) where
  by_index : {X : Type 0} (f : X → X) (xs : List X) (i : ℕ) (x : X) → i < length xs → x ≡ get_or (map f (take i xs) ++ drop i xs) i x → slice_get xs i ≡ Some x
  by_index f [] i x within item = absurd (omega arith)
  by_index f (y ∷ xs) zero x within item = ap Some (sym item)
  by_index f (y ∷ xs) (suc i) x within item = by_index f xs i x (omega arith) item

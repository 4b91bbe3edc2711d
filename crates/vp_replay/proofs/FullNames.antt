-- The full name of an object, from its names.
use Rattle.std.proofs.Common.{◌≡◌, ◌∙◌, ℕ, List, [], ◌∷◌, ◌++◌, map, refl, ap}
use mathlib.Core.List.{reverse_aux}
use Rattle.std.specs.Prelude.{reverse}
use Rattle.std.specs.List.{join_by, join_with_byte}
use Rattle.std.proofs.lemmas.List.{append-nil, reverse-reverse}
use Rattle.vp_elab.specs.Tree.{dotted}

map-reverse_aux : {X Y : Type 0} (f : X → Y) (xs following : List X) → map f (reverse_aux xs following) ≡ reverse_aux (map f xs) (map f following)
map-reverse_aux f [] following = refl
map-reverse_aux f (x ∷ xs) following = map-reverse_aux f xs (x ∷ following)

joined : {X : Type 0} (f : X → List ℕ) (xs : List X) → join_by f (46 ∷ []) xs ≡ join_with_byte 46 (map f xs)
joined f [] = refl
joined f (x ∷ []) = append-nil (f x)
joined f (x ∷ y ∷ xs) = ap (λ rest. f x ++ 46 ∷ rest) (joined f (y ∷ xs))

-- names that are turned round and joined are the dotted name
pub dotted_is : {X : Type 0} (f : X → List ℕ) (upward downward : List X) (names : List (List ℕ)) → map f upward ≡ reverse names → downward ≡ reverse upward
    → join_by f (46 ∷ []) downward ≡ dotted names
dotted_is f upward downward names is turned =
    joined f downward ∙ ap (join_with_byte 46) (ap (map f) turned ∙ map-reverse_aux f upward [] ∙ ap reverse is ∙ reverse-reverse names)

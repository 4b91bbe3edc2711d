-- Lists under a map.
use Rattle.std.proofs.Common.{◌≡◌, ◌∙◌, ◌≤◌, ℕ, zero, suc, List, [], ◌∷◌, ◌++◌, append-nil, drop, length, map, replicate, take, refl, ap}
use Rattle.std.specs.List.{remove}
use Rattle.std.proofs.lemmas.List.{drop_all, take_all}

-- an item is taken out below a map
pub map-remove : {A B : Type 0} (f : A → B) (xs : List A) (n : ℕ) → map f (remove xs n) ≡ remove (map f xs) n
map-remove f [] zero = refl
map-remove f [] (suc n) = refl
map-remove f (x ∷ xs) zero = refl
map-remove f (x ∷ xs) (suc n) = ap (λ ys. f x ∷ ys) (map-remove f xs n)

-- a zero for each item
pub replicate_is : {A : Type 0} (xs : List A) → replicate {A = ℕ} (length xs) 0 ≡ map (λ x. 0) xs
replicate_is [] = refl
replicate_is (x ∷ xs) = ap (λ ys. 0 ∷ ys) (replicate_is xs)

-- a loop that is over has written each item
pub map_over_all : {X : Type 0} (f : X → X) (xs ys : List X) (i : ℕ) → length xs ≤ i → ys ≡ map f (take i xs) ++ drop i xs → ys ≡ map f xs
map_over_all f xs ys i over is =
    is
    ∙ ap (λ zs. map f (take i xs) ++ zs) (drop_all i xs over)
    ∙ append-nil (map f (take i xs))
    ∙ ap (map f) (take_all i xs over)

-- a form that leaves each as it is leaves all
pub map_same : {X : Type 0} (f : X → X) → ((x : X) → f x ≡ x) → (xs : List X) → map f xs ≡ xs
map_same f h [] = refl
map_same f h (x ∷ xs) = ap (λ y. y ∷ map f xs) (h x) ∙ ap (λ ys. x ∷ ys) (map_same f h xs)

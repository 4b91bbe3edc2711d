-- The entries of lists, where one is added or exchanged.
use Rattle.std.proofs.Common.{◌≡◌, ◌≢◌, ◌⊎◌, ℕ, zero, suc, List, [], ◌∷◌, ◌++◌, length, map, set, slice_get, Some, refl, sym, ap, ◌∙◌, arith, inl, inr}
use Rattle.std.specs.Option.{option_map_or}

-- an entry of a list with one more is one of the list, or the last
pub last_cases : {X : Type 0} (xs : List X) (y : X) (n : ℕ) (x : X) → slice_get (xs ++ y ∷ []) n ≡ Some x → (slice_get xs n ≡ Some x) ⊎ ((length xs ≡ n) × (y ≡ x))
last_cases [] y zero x h = inr (refl, cc)
last_cases [] y (suc n) x h = absurd cc
last_cases (z ∷ xs) y zero x h = inl h
last_cases (z ∷ xs) y (suc n) x h = elim (last_cases xs y n x h) [ inl g ↦ inl g | inr g ↦ inr (ap (λ (k : ℕ). suc k) g.0, g.1) ]

-- an entry of a list in which one is exchanged is the new one at its place, or one of another place
pub set_cases : {X : Type 0} (xs : List X) (y : X) (i n : ℕ) (x : X) → slice_get (set xs i y) n ≡ Some x → ((n ≡ i) × (y ≡ x)) ⊎ ((n ≢ i) × (slice_get xs n ≡ Some x))
set_cases [] y i n x h = absurd cc
set_cases (z ∷ xs) y zero zero x h = inl (refl, cc)
set_cases (z ∷ xs) y zero (suc n) x h = inr ((λ e. absurd (omega arith)), h)
set_cases (z ∷ xs) y (suc i) zero x h = inr ((λ e. absurd (omega arith)), h)
set_cases (z ∷ xs) y (suc i) (suc n) x h = elim (set_cases xs y i n x h) [ inl g ↦ inl (ap (λ (k : ℕ). suc k) g.0, g.1) | inr g ↦ inr ((λ e. g.0 (omega arith)), g.1) ]

entry_of_map : {X Z W : Type 0} (f : X → Z) (h : Z → W) (d : W) (xs : List X) (n : ℕ) → option_map_or h (slice_get (map f xs) n) d ≡ option_map_or (λ x. h (f x)) (slice_get xs n) d
entry_of_map f h d [] n = refl
entry_of_map f h d (x ∷ xs) zero = refl
entry_of_map f h d (x ∷ xs) (suc n) = entry_of_map f h d xs n

-- of lists that are mapped to one the same follows at each place
pub same_entry : {X Y Z W : Type 0} (f : X → Z) (g : Y → Z) (h : Z → W) (d : W) (xs : List X) (ys : List Y) (n : ℕ) → map f xs ≡ map g ys → option_map_or (λ x. h (f x)) (slice_get xs n) d ≡ option_map_or (λ y. h (g y)) (slice_get ys n) d
same_entry {X} {Y} {Z} f g h d xs ys n same =
    sym (entry_of_map f h d xs n) ∙ ap (λ (zs : List Z). option_map_or h (slice_get zs n) d) same ∙ entry_of_map g h d ys n

-- Two lists side by side, numbered from a number on.
use Rattle.std.proofs.Common.{◌≡◌, ℕ, zero, suc, ◌+◌, ◌<◌, List, [], ◌∷◌, ◌++◌, length, map, slice_get, slice_index_or, Some, None, refl, ap, subst, ◌∙◌, arith}
use Rattle.std.specs.Prelude.{MatchOption}

-- a fact holds of each pair, by its number; and the lists are as long
abbrev pub Zip : {A B : Type 0} → (ℕ → B → A → Type 0) → ℕ → List A → List B → Type 0
Zip P n [] [] = Unit {0}
Zip P n [] (b ∷ bs) = ⊥
Zip P n (x ∷ xs) [] = ⊥
Zip P n (x ∷ xs) (b ∷ bs) = P n b x × Zip P (suc n) xs bs

-- lists that follow each other
pub zip_append : {A B : Type 0} (P : ℕ → B → A → Type 0) (n m : ℕ) (xs ys : List A) (os ps : List B) → m ≡ n + length xs → Zip P n xs os → Zip P m ys ps → Zip P n (xs ++ ys) (os ++ ps)
zip_append P n m [] ys [] ps e h k = let same : m ≡ n = omega arith in subst (λ (i : ℕ). Zip P i ys ps) same k
zip_append P n m [] ys (b ∷ bs) ps e h k = absurd h
zip_append P n m (a ∷ xs) ys [] ps e h k = absurd h
zip_append P n m (a ∷ xs) ys (b ∷ bs) ps e h k = (h.0, zip_append P (suc n) m xs ys bs ps (omega arith) h.1 k)

-- at a number there is a pair, or nothing
pub zip_at : {A B : Type 0} (P : ℕ → B → A → Type 0) (n i m : ℕ) (xs : List A) (os : List B) → m ≡ n + i → Zip P n xs os → MatchOption (slice_get os i) (slice_get xs i ≡ None) (λ o. (x : A) × (slice_get xs i ≡ Some x) × P m o x)
zip_at P n i m [] [] e h = refl
zip_at P n i m [] (b ∷ bs) e h = absurd h
zip_at P n i m (a ∷ xs) [] e h = absurd h
zip_at P n zero m (a ∷ xs) (b ∷ bs) e h = let same : n ≡ m = omega arith in (a, refl, subst (λ (k : ℕ). P k b a) same h.0)
zip_at P n (suc i) m (a ∷ xs) (b ∷ bs) e h = zip_at P (suc n) i m xs bs (omega arith) h.1

-- what all pairs have in common, the lists have
pub zip_map : {A B C : Type 0} (P : ℕ → B → A → Type 0) (f : A → C) (g : B → C) → ((k : ℕ) (b : B) (a : A) → P k b a → g b ≡ f a) → (n : ℕ) (xs : List A) (os : List B) → Zip P n xs os → map g os ≡ map f xs
zip_map P f g same n [] [] h = refl
zip_map P f g same n [] (b ∷ bs) h = absurd h
zip_map P f g same n (a ∷ xs) [] h = absurd h
zip_map P f g same n (a ∷ xs) (b ∷ bs) h = ap (λ c. c ∷ map g bs) (same n b a h.0) ∙ ap (λ cs. f a ∷ cs) (zip_map P f g same (suc n) xs bs h.1)

-- what each pair says of its second, all have
pub zip_all : {A B : Type 0} (P : ℕ → B → A → Type 0) (Q : B → Type 0) → ((k : ℕ) (b : B) (a : A) → P k b a → Q b) → (n : ℕ) (xs : List A) (os : List B) → Zip P n xs os → (i : ℕ) (d : B) → i < length os → Q (slice_index_or os i d)
zip_all P Q each n [] [] h i d l = absurd (omega arith)
zip_all P Q each n [] (b ∷ bs) h i d l = absurd h
zip_all P Q each n (x ∷ xs) [] h i d l = absurd h
zip_all P Q each n (x ∷ xs) (b ∷ bs) h zero d l = each n b x h.0
zip_all P Q each n (x ∷ xs) (b ∷ bs) h (suc i) d l = zip_all P Q each (suc n) xs bs h.1 i d (omega arith)

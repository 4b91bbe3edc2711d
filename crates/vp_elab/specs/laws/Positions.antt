-- Laws of searches in lists.
use Rattle.std.proofs.Common.{◌≡◌, ℕ, ◌+◌, Bool, true, false, cond, List, [], ◌∷◌, ◌++◌, length, map, position, slice_get, Option, Some, None, refl, ap, ◌∙◌, arith}
use Rattle.std.specs.Prelude.{option_map}
use Rattle.std.specs.List.{position_from}
use Rattle.std.proofs.lemmas.Iterator.Adapters.{position_from-zero}

-- what stands after so many
pub slice_get_after : {A : Type 0} (xs : List A) (y : A) (ys : List A) → slice_get (xs ++ y ∷ ys) (length xs) ≡ Some y
slice_get_after [] y ys = refl
slice_get_after (x ∷ xs) y ys = slice_get_after xs y ys

-- ---- searches

-- the first of two answers
abbrev pub or_else : Option ℕ → Option ℕ → Option ℕ
or_else None other = other
or_else (Some i) other = Some i

or_else_at : (b : Bool) (n : ℕ) (all first second : Option ℕ) → all ≡ or_else first second → cond b (Some n) all ≡ or_else (cond b (Some n) first) second
or_else_at true n all first second h = refl
or_else_at false n all first second h = h

-- a search in the parts of a list
pub position_from-append : {A : Type 0} (t : A → Bool) (n m : ℕ) (xs ys : List A) → m ≡ n + length xs → position_from t n (xs ++ ys) ≡ or_else (position_from t n xs) (position_from t m ys)
position_from-append t n m [] ys e = let same : n ≡ m = omega arith in ap (λ (i : ℕ). position_from t i ys) same
position_from-append t n m (x ∷ xs) ys e =
    or_else_at (t x) n (position_from t (n + 1) (xs ++ ys)) (position_from t (n + 1) xs) (position_from t m ys) (position_from-append t (n + 1) m xs ys (omega arith))

shift_at : (b : Bool) (k n m : ℕ) (there here : Option ℕ) → m ≡ k + n → there ≡ option_map (λ i. k + i) here → cond b (Some m) there ≡ option_map (λ i. k + i) (cond b (Some n) here)
shift_at true k n m there here e h = ap (λ (i : ℕ). (let o : Option ℕ = Some i in o)) e
shift_at false k n m there here e h = h

-- a search from another number on
pub position_from-shift : {A : Type 0} (t : A → Bool) (k n m : ℕ) (xs : List A) → m ≡ k + n → position_from t m xs ≡ option_map (λ i. k + i) (position_from t n xs)
position_from-shift t k n m [] e = refl
position_from-shift t k n m (x ∷ xs) e =
    shift_at (t x) k n m (position_from t (m + 1) xs) (position_from t (n + 1) xs) e (position_from-shift t k (n + 1) (m + 1) xs (omega arith))

-- a search by a test that says the same
pub position_from-same : {A B : Type 0} (t : A → Bool) (u : B → Bool) (f : A → B) → ((a : A) → u (f a) ≡ t a) → (n : ℕ) (xs : List A) → position_from u n (map f xs) ≡ position_from t n xs
position_from-same t u f same n [] = refl
position_from-same t u f same n (x ∷ xs) =
    ap (λ (b : Bool). cond b (Some n) (position_from u (n + 1) (map f xs))) (same x)
    ∙ ap (λ (o : Option ℕ). cond (t x) (Some n) o) (position_from-same t u f same (n + 1) xs)

-- a search for what is not there
pub position_from-none : {A B : Type 0} (u : B → Bool) (f : A → B) → ((a : A) → u (f a) ≡ false) → (n : ℕ) (xs : List A) → position_from u n (map f xs) ≡ None
position_from-none u f none n [] = refl
position_from-none u f none n (x ∷ xs) = ap (λ (b : Bool). cond b (Some n) (position_from u (n + 1) (map f xs))) (none x) ∙ position_from-none u f none (n + 1) xs

-- a position is a search from the first on
pub position_is : {A : Type 0} (t : A → Bool) (xs : List A) → position t xs ≡ position_from t 0 xs
position_is t xs = position_from-zero t xs

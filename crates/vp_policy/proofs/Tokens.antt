-- Texts that are compared byte by byte, to the end of the shorter.
use Rattle.std.proofs.Common.{◌≡◌, ◌⊎◌, ℕ, ◌==◌, Bool, true, false, ◌&&◌, List, [], ◌∷◌, length, inl, inr, refl, sym, ap, ◌∙◌, arith}
use Rattle.std.specs.Str.{bytes_eq}

one_more_by : (same : Bool) (x y : ℕ) (xs ys : List ℕ) → ((same && (x == y)) && bytes_eq xs ys) ≡ (same && bytes_eq (x ∷ xs) (y ∷ ys))
one_more_by true x y xs ys = refl
one_more_by false x y xs ys = refl

-- one byte more is compared
pub one_more : (same : Bool) (x y : ℕ) (a xs b ys : List ℕ) → a ≡ x ∷ xs → b ≡ y ∷ ys → ((same && (x == y)) && bytes_eq xs ys) ≡ (same && bytes_eq a b)
one_more same x y a xs b ys h k =
    one_more_by same x y xs ys ∙ ap (λ (t : List ℕ). same && bytes_eq t (y ∷ ys)) (sym h) ∙ ap (λ (t : List ℕ). same && bytes_eq a t) (sym k)

-- as much is left of both after a byte of both
pub even_next : (same e : Bool) (x y : ℕ) (a xs b ys : List ℕ) → a ≡ x ∷ xs → b ≡ y ∷ ys → (same ≡ true → length a ≡ length b) → (same && e) ≡ true → length xs ≡ length ys
even_next true e x y a xs b ys h k even both =
    let more : length (x ∷ xs) ≡ length (y ∷ ys) = sym (ap length h) ∙ even refl ∙ ap length k in
    omega arith
even_next false e x y a xs b ys h k even both = absurd cc

ended_by : (a b : List ℕ) → (length a ≡ 0) ⊎ (length b ≡ 0) → length a ≡ length b → bytes_eq a b ≡ true
ended_by [] [] either even = refl
ended_by [] (y ∷ ys) either even = absurd (omega arith)
ended_by (x ∷ xs) [] either even = absurd (omega arith)
ended_by (x ∷ xs) (y ∷ ys) (inl h) even = absurd (omega arith)
ended_by (x ∷ xs) (y ∷ ys) (inr h) even = absurd (omega arith)

-- at the end of one of the texts all is said
pub ended : (same whole : Bool) (a b : List ℕ) → (same && bytes_eq a b) ≡ whole → (same ≡ true → length a ≡ length b) → (length a ≡ 0) ⊎ (length b ≡ 0) → same ≡ whole
ended true whole a b left even either = sym (ended_by a b either (even refl)) ∙ left
ended false whole a b left even either = left

-- The parts of a text, and its first separator.
use Rattle.std.proofs.Common.{◌≡◌, ℕ, zero, suc, ◌+◌, ◌++◌, get_or, ◌<◌, ◌==◌, Bool, true, false, cond, List, [], ◌∷◌, length, take, drop, refl, ap, ◌∙◌, arith}
use Rattle.std.specs.Prelude.{not}
use Rattle.std.specs.List.{position_or_len, before_first, after_first}
use Rattle.vp_text.specs.Texts.{begun, parts}

-- a byte is the separator
abbrev is_it : ℕ → ℕ → Bool
is_it separator byte = byte == separator

whole_by : (separator byte : ℕ) (bytes : List ℕ) (b : Bool) → is_it separator byte ≡ b → (position_or_len (is_it separator) bytes ≡ length bytes → parts separator bytes ≡ bytes ∷ []) → cond (not b) (1 + position_or_len (is_it separator) bytes) 0 ≡ length (byte ∷ bytes) → parts separator (byte ∷ bytes) ≡ (byte ∷ bytes) ∷ []
whole_by separator byte bytes true e more h = absurd (omega arith)
whole_by separator byte bytes false e more h =
    ap (λ (x : Bool). cond x ([] ∷ parts separator bytes) (begun byte (parts separator bytes))) e ∙ ap (begun byte) (more (omega arith))

-- a text without a separator is its only part
pub whole_part : (separator : ℕ) (text : List ℕ) → position_or_len (is_it separator) text ≡ length text → parts separator text ≡ text ∷ []
whole_part separator [] h = refl
whole_part separator (byte ∷ bytes) h = whole_by separator byte bytes (is_it separator byte) refl (whole_part separator bytes) h

split_by : (separator byte : ℕ) (bytes : List ℕ) (b : Bool) → is_it separator byte ≡ b → (position_or_len (is_it separator) bytes < length bytes → parts separator bytes ≡ before_first (is_it separator) bytes ∷ parts separator (after_first (is_it separator) bytes)) → cond (not b) (1 + position_or_len (is_it separator) bytes) 0 < length (byte ∷ bytes) → parts separator (byte ∷ bytes) ≡ take (cond (not b) (1 + position_or_len (is_it separator) bytes) 0) (byte ∷ bytes) ∷ parts separator (drop (cond (not b) (1 + position_or_len (is_it separator) bytes) 0 + 1) (byte ∷ bytes))
split_by separator byte bytes true e more h = ap (λ (x : Bool). cond x ([] ∷ parts separator bytes) (begun byte (parts separator bytes))) e
split_by separator byte bytes false e more h =
    let n : ℕ = position_or_len (is_it separator) bytes in
    let next : suc n ≡ 1 + n = omega arith in
    let after : suc (n + 1) ≡ 1 + n + 1 = omega arith in
    ap (λ (x : Bool). cond x ([] ∷ parts separator bytes) (begun byte (parts separator bytes))) e ∙ ap (begun byte) (more (omega arith))
    ∙ ap (λ (k : ℕ). take k (byte ∷ bytes) ∷ parts separator (drop (n + 1) bytes)) next
    ∙ ap (λ (k : ℕ). take (1 + n) (byte ∷ bytes) ∷ parts separator (drop k (byte ∷ bytes))) after

-- a text with a separator is what stands before the first, and the parts of what follows it
pub split_part : (separator : ℕ) (text : List ℕ) → position_or_len (is_it separator) text < length text → parts separator text ≡ before_first (is_it separator) text ∷ parts separator (after_first (is_it separator) text)
split_part separator [] h = absurd (omega arith)
split_part separator (byte ∷ bytes) h = split_by separator byte bytes (is_it separator byte) refl (split_part separator bytes) h

-- a list is what stands before a place, what stands there, and what stands after it
pub split_at : (xs : List ℕ) (n : ℕ) → n < length xs → xs ≡ take n xs ++ get_or xs n 0 ∷ drop (n + 1) xs
split_at [] n h = absurd (omega arith)
split_at (x ∷ xs) zero h = refl
split_at (x ∷ xs) (suc n) h =
    let next : suc (n + 1) ≡ suc n + 1 = omega arith in
    ap (λ (ys : List ℕ). x ∷ ys) (split_at xs n (omega arith))
    ∙ ap (λ (k : ℕ). take (suc n) (x ∷ xs) ++ get_or xs n 0 ∷ drop k (x ∷ xs)) next

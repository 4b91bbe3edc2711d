-- Laws of the numbers of vectors.
use Rattle.std.proofs.Common.{◌≡◌, ◌≢◌, ℕ, zero, suc, ◌+◌, ◌-◌, ◌*◌, ◌/◌, ◌%◌, ◌^◌, ◌<◌, ◌≤◌, ◌⊎◌, inl, inr, List, length, replicate, Option, Some, None, option_map, option_and_then, refl, ap, sym, ◌∙◌, arith}
use Rattle.std.specs.Int.Bits.{bit_or, or_zero_l}
use Rattle.std.proofs.Math.Nat.{mul-add-mod_self_right}
use Rattle.std.proofs.lemmas.Nat.{le_or_l, le_or_r, mod-pow-add, mod_low, mod_below, pow-add, pow_pos}
use Rattle.vp_bits.specs.declared.bit.Bit.{Bit}
use Rattle.vp_bits.specs.declared.bit.Bit.TheVariants.{Unknown}
use Rattle.vp_bits.specs.declared.bits.Bits.TheInside.{Inside}
use Rattle.vp_bits.specs.Vector.{bits_of, bit_from, IsStored}
use Rattle.vp_bits.specs.laws.Words.{length-bits_of, half_below}
use Rattle.vp_bits.specs.Arithmetic.{bit_value, number_of, bit_of_digit, bits_of_number, with_numbers, computed}
use Rattle.vp_bits.proofs.Vectors.{bits_of-low}

-- ---- the bits of a number

bit_of_digit-bit_from : (n : ℕ) → bit_of_digit n ≡ bit_from n 0
bit_of_digit-bit_from zero = refl
bit_of_digit-bit_from (suc n) = refl

pub bits_of_number-bits_of : (width n : ℕ) → bits_of_number width n ≡ bits_of width n 0
bits_of_number-bits_of zero n = refl
bits_of_number-bits_of (suc width) n = rw (bit_of_digit-bit_from (n % 2), bits_of_number-bits_of width (n / 2)) refl

-- only the number modulo 2^width counts
pub bits_of_number-mod : (width n m : ℕ) → n % 2 ^ width ≡ m % 2 ^ width → bits_of_number width n ≡ bits_of_number width m
bits_of_number-mod width n m same =
    bits_of_number-bits_of width n ∙ sym (bits_of-low width n 0)
    ∙ ap (λ k. bits_of width k (0 % 2 ^ width)) same
    ∙ bits_of-low width m 0 ∙ sym (bits_of_number-bits_of width m)

-- a number modulo a greater power of 2
pub mod_by_parts : (width rest n : ℕ) → n % 2 ^ (rest + width) % 2 ^ width ≡ n % 2 ^ width
mod_by_parts width rest n =
    let below : n % 2 ^ width < 2 ^ width = mod_below n (2 ^ width) (pow_pos width) in
    rw (mod-pow-add n rest width) (mod_low (n / 2 ^ width % 2 ^ rest) width (n % 2 ^ width) below)

pub bits_of_number-wrapped : (width n : ℕ) → width ≤ 64 → bits_of_number width (n % 2 ^ 64) ≡ bits_of_number width n
bits_of_number-wrapped width n within =
    let rest : (64 - width) + width ≡ 64 = omega arith in
    bits_of_number-mod width (n % 2 ^ 64) n (ap (λ k. n % 2 ^ k % 2 ^ width) (sym rest) ∙ mod_by_parts width (64 - width) n)

-- to borrow from 2^64 is to borrow from 2^width
borrowed : (width rest n m : ℕ) → m < 2 ^ width → (n + (2 ^ (rest + width) - m)) % 2 ^ width ≡ ((n + 2 ^ width) - m) % 2 ^ width
borrowed width rest n m below =
    let power : 2 ^ (rest + width) ≡ 2 ^ rest * 2 ^ width = pow-add 2 rest width in
    let above : 0 < 2 ^ rest = pow_pos rest in
    let more : 2 ^ rest ≡ (2 ^ rest - 1) + 1 = omega arith in
    let split : 2 ^ rest * 2 ^ width ≡ (2 ^ rest - 1) * 2 ^ width + 2 ^ width = ap (λ k. k * 2 ^ width) more ∙ omega arith in
    let sum : n + (2 ^ (rest + width) - m) ≡ (2 ^ rest - 1) * 2 ^ width + ((n + 2 ^ width) - m) = omega arith in
    ap (λ k. k % 2 ^ width) sum ∙ mul-add-mod_self_right (2 ^ rest - 1) (2 ^ width) ((n + 2 ^ width) - m)

pub bits_of_number-borrowed : (width n m : ℕ) → width ≤ 64 → m < 2 ^ width → bits_of_number width (n + (2 ^ 64 - m)) ≡ bits_of_number width ((n + 2 ^ width) - m)
bits_of_number-borrowed width n m within below =
    let rest : (64 - width) + width ≡ 64 = omega arith in
    bits_of_number-mod width (n + (2 ^ 64 - m)) ((n + 2 ^ width) - m)
    (ap (λ k. (n + (2 ^ k - m)) % 2 ^ width) (sym rest) ∙ borrowed width (64 - width) n m below)

-- ---- the number of bits

bit_value-known : (n : ℕ) → n < 2 → bit_value (bit_from n 0) ≡ Some n
bit_value-known zero h = refl
bit_value-known (suc n) h = ap Some (omega arith)

number_of_known : (width aval : ℕ) → aval < 2 ^ width → number_of (bits_of width aval 0) ≡ Some aval
number_of_known zero aval fits = ap Some (omega arith)
number_of_known (suc width) aval fits =
    rw (bit_value-known (aval % 2) (omega arith), number_of_known width (aval / 2) (half_below aval width fits))
    (ap Some (omega arith))

unknown_first : (n m : ℕ) (rest : Option ℕ) → (m ≡ 0 → rest ≡ None) → option_and_then (λ value. option_map (λ number. value + 2 * number) rest) (bit_value (bit_from n m)) ≡ None
unknown_first zero zero rest h = rw (h refl) refl
unknown_first (suc n) zero rest h = rw (h refl) refl
unknown_first zero (suc m) rest h = refl
unknown_first (suc n) (suc m) rest h = refl

number_of_unknown : (width aval bval : ℕ) → bval < 2 ^ width → bval ≢ 0 → number_of (bits_of width aval bval) ≡ None
number_of_unknown zero aval bval fits h = absurd (omega arith)
number_of_unknown (suc width) aval bval fits h =
    unknown_first (aval % 2) (bval % 2) (number_of (bits_of width (aval / 2) (bval / 2)))
    (λ even. let rest : bval / 2 ≢ 0 = omega arith in number_of_unknown width (aval / 2) (bval / 2) (half_below bval width fits) rest)

-- the number of a stored vector, where its word bval is 0 and where it is not
pub number_of_stored : (v : Inside) (bits : List Bit) → bits_of v.width v.aval v.bval ≡ bits → IsStored v.width v.aval v.bval → v.bval ≡ 0 → number_of bits ≡ Some v.aval
number_of_stored v bits is stored known =
    ap number_of (sym is) ∙ ap (λ b. number_of (bits_of v.width v.aval b)) known ∙ number_of_known v.width v.aval stored.aval_fits

pub no_number_of_stored : (v : Inside) (bits : List Bit) → bits_of v.width v.aval v.bval ≡ bits → IsStored v.width v.aval v.bval → v.bval ≢ 0 → number_of bits ≡ None
no_number_of_stored v bits is stored unknown =
    ap number_of (sym is) ∙ number_of_unknown v.width v.aval v.bval stored.bval_fits unknown

-- ---- the numbers of two operands

either_above : (n m : ℕ) → bit_or n m ≢ 0 → (n ≢ 0) ⊎ (m ≢ 0)
either_above zero m h = let here : m ≢ 0 = λ e. h (or_zero_l m ∙ e) in inr here
either_above (suc n) m h = let here : suc n ≢ 0 = omega arith in inl here

none_second : {X : Type 0} (f : ℕ → ℕ → X) (n : Option ℕ) → option_and_then (λ k. option_map (λ m. f k m) None) n ≡ None
none_second f None = refl
none_second f (Some n) = refl

pub with_numbers_known : {X : Type 0} (f : ℕ → ℕ → X) (v o : Inside) (left right : List Bit) → bits_of v.width v.aval v.bval ≡ left → bits_of o.width o.aval o.bval ≡ right → IsStored v.width v.aval v.bval → IsStored o.width o.aval o.bval → bit_or v.bval o.bval ≡ 0 → with_numbers f left right ≡ Some (f v.aval o.aval)
with_numbers_known f v o left right is_left is_right stored_left stored_right known =
    let left_known : v.bval ≡ 0 = omega (arith, le_or_l v.bval o.bval) in
    let right_known : o.bval ≡ 0 = omega (arith, le_or_r v.bval o.bval) in
    rw (number_of_stored v left is_left stored_left left_known, number_of_stored o right is_right stored_right right_known) refl

pub with_numbers_unknown : {X : Type 0} (f : ℕ → ℕ → X) (v o : Inside) (left right : List Bit) → bits_of v.width v.aval v.bval ≡ left → bits_of o.width o.aval o.bval ≡ right → IsStored v.width v.aval v.bval → IsStored o.width o.aval o.bval → bit_or v.bval o.bval ≢ 0 → with_numbers f left right ≡ None
with_numbers_unknown f v o left right is_left is_right stored_left stored_right unknown =
    elim (either_above v.bval o.bval unknown) [
      | inl above ↦ ap (option_and_then (λ n. option_map (λ m. f n m) (number_of right))) (no_number_of_stored v left is_left stored_left above)
      | inr above ↦ ap (λ m. option_and_then (λ n. option_map (λ k. f n k) m) (number_of left)) (no_number_of_stored o right is_right stored_right above) ∙ none_second f (number_of left)
    ]

pub length_of_view : (v : Inside) (bits : List Bit) → bits_of v.width v.aval v.bval ≡ bits → length bits ≡ v.width
length_of_view v bits is = ap length (sym is) ∙ length-bits_of v.width v.aval v.bval

pub computed_known : (f : ℕ → ℕ → ℕ) (v o : Inside) (left right : List Bit) → bits_of v.width v.aval v.bval ≡ left → bits_of o.width o.aval o.bval ≡ right → IsStored v.width v.aval v.bval → IsStored o.width o.aval o.bval → bit_or v.bval o.bval ≡ 0 → computed f left right ≡ bits_of_number v.width (f v.aval o.aval)
computed_known f v o left right is_left is_right stored_left stored_right known =
    rw (with_numbers_known f v o left right is_left is_right stored_left stored_right known, length_of_view v left is_left) refl

pub computed_unknown : (f : ℕ → ℕ → ℕ) (v o : Inside) (left right : List Bit) → bits_of v.width v.aval v.bval ≡ left → bits_of o.width o.aval o.bval ≡ right → IsStored v.width v.aval v.bval → IsStored o.width o.aval o.bval → bit_or v.bval o.bval ≢ 0 → computed f left right ≡ replicate v.width Unknown
computed_unknown f v o left right is_left is_right stored_left stored_right unknown =
    rw (with_numbers_unknown f v o left right is_left is_right stored_left stored_right unknown, length_of_view v left is_left) refl

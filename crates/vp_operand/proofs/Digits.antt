-- Literals, digit by digit.
use Rattle.std.proofs.Common.{◌≡◌, ◌∙◌, ℕ, zero, suc, ◌+◌, ◌*◌, ◌/◌, ◌%◌, ◌^◌, ◌-◌, ◌≤◌, List, [], ◌∷◌, ◌++◌, Option, Some, None, length, take, drop, refl, sym, ap, append_assoc, append-nil, replicate, add-one, length-append, length-take, arith}
use Rattle.std.proofs.lemmas.List.{at_drop_all, take-take, take_all}
use Rattle.std.proofs.Math.Seq.{take-append-add}
use Rattle.vp_bits.specs.declared.bit.Bit.TheVariants.{Zero}
use Rattle.vp_bits.specs.Vector.{resized}
use Rattle.std.proofs.lemmas.Nat.{mod-pow-add}
use Rattle.std.specs.List.{cons_option, filter_map, fold}
use Rattle.std.specs.Option.{option_map_or}
use Rattle.vp_bits.specs.declared.bit.Bit.{Bit}
use Rattle.vp_bits.specs.Arithmetic.{bit_of_digit, bits_of_number}
use Rattle.vp_operand.specs.Literals.{digit_at, digit_bits, digits_bits, with_digit}
use Rattle.vp_operand.specs.LiteralSteps.{number_with, pushed, with_byte}

-- ---- bases 2, 8 and 16

-- a cut below a cut
take_within : (n m : ℕ) (a b : List Bit) → n ≤ m → take n (a ++ take m b) ≡ take n (a ++ b)
take_within zero m a b h = refl
take_within (suc n) m [] b h = take-take (suc n) m b h
take_within (suc n) m (x ∷ a) b h = ap (λ (l : List Bit). x ∷ l) (take_within n m a b (omega arith))

length-pushed : (value digit : List Bit) → length (pushed value digit) ≡ length value
length-pushed value digit = omega (arith, length-take (length value) (digit ++ value), length-append digit value)

pushed_below : (value digit rest : List Bit) → take (length (pushed value digit)) (rest ++ pushed value digit) ≡ take (length value) ((rest ++ digit) ++ value)
pushed_below value digit rest =
    ap (λ (n : ℕ). take n (rest ++ pushed value digit)) (length-pushed value digit)
    ∙ take_within (length value) (length value) rest (digit ++ value) (omega arith)
    ∙ ap (take (length value)) (sym (append_assoc rest digit value))

-- a digit that is narrower than the vector
pub pushed_short : (value digit : List Bit) (kept : ℕ) → length digit ≤ length value → kept ≡ length value - length digit → digit ++ resized kept value ≡ pushed value digit
pushed_short value digit kept h is =
    let none : kept - length value ≡ 0 = omega arith in
    let whole : length digit + kept ≡ length value = omega arith in
    ap (λ (n : ℕ). digit ++ (take kept value ++ replicate n Zero)) none
    ∙ ap (λ (l : List Bit). digit ++ l) (append-nil (take kept value))
    ∙ sym (take-append-add digit value kept)
    ∙ ap (λ (n : ℕ). take n (digit ++ value)) whole

-- one more byte, by the digit that it stands for
read_next : (width : ℕ) (value : List Bit) (digits : List ℕ) (found : Option ℕ) → take (length (option_map_or (λ digit. pushed value (digit_bits width digit)) found value)) (digits_bits width digits ++ option_map_or (λ digit. pushed value (digit_bits width digit)) found value) ≡ take (length value) (digits_bits width (cons_option found digits) ++ value)
read_next width value digits None = refl
read_next width value digits (Some d) = pushed_below value (digit_bits width d) (digits_bits width digits)

-- the digits of bytes, put after a vector one by one, are its lowest bits
pub all_read : (width : ℕ) (value : List Bit) (bytes : List ℕ) → fold (with_byte width) value bytes ≡ take (length value) (digits_bits width (filter_map digit_at bytes) ++ value)
all_read width value [] = sym (take_all (length value) value (omega arith))
all_read width value (byte ∷ bytes) =
    all_read width (with_byte width value byte) bytes ∙ read_next width value (filter_map digit_at bytes) (digit_at byte)

-- a vector, where none of the bytes is left
pub read : (width : ℕ) (value start : List Bit) (size i : ℕ) (bytes : List ℕ) → length bytes ≤ i → fold (with_byte width) value (drop i bytes) ≡ fold (with_byte width) start bytes → length start ≡ size → value ≡ take size (digits_bits width (filter_map digit_at bytes) ++ start)
read width value start size i bytes h is sized =
    sym (at_drop_all (fold (with_byte width) value) bytes i h)
    ∙ is ∙ all_read width start bytes
    ∙ ap (λ (n : ℕ). take n (digits_bits width (filter_map digit_at bytes) ++ start)) sized

-- ---- base 10

number_more : (digits : List ℕ) (number : ℕ) (found : Option ℕ) → fold with_digit (option_map_or (with_digit number) found number) digits ≡ fold with_digit number (cons_option found digits)
number_more digits number None = refl
number_more digits number (Some d) = refl

-- the number of the digits of bytes, read one by one
pub all_numbers : (number : ℕ) (bytes : List ℕ) → fold number_with number bytes ≡ fold with_digit number (filter_map digit_at bytes)
all_numbers number [] = refl
all_numbers number (byte ∷ bytes) =
    all_numbers (number_with number byte) bytes ∙ number_more (filter_map digit_at bytes) number (digit_at byte)

-- ---- numbers modulo a greater power of 2

low_step : (n width : ℕ) → n % 2 ^ suc width ≡ n / 2 % 2 ^ width * 2 + n % 2
low_step n width = ap (λ (m : ℕ). n % 2 ^ m) (sym (add-one width)) ∙ mod-pow-add n width 1

first_of_low : (n width : ℕ) → n % 2 ^ suc width % 2 ≡ n % 2
first_of_low n width = rw (low_step n width) (omega arith)

rest_of_low : (n width : ℕ) → n % 2 ^ suc width / 2 ≡ n / 2 % 2 ^ width
rest_of_low n width = rw (low_step n width) (omega arith)

low : (width rest n : ℕ) → bits_of_number width (n % 2 ^ (width + rest)) ≡ bits_of_number width n
low zero rest n = refl
low (suc width) rest n =
    let e : suc width + rest ≡ suc (width + rest) = omega arith in
    ap (λ (m : ℕ). bits_of_number (suc width) (n % 2 ^ m)) e
    ∙ ap (λ (b : ℕ). bit_of_digit b ∷ bits_of_number width (n % 2 ^ suc (width + rest) / 2)) (first_of_low n (width + rest))
    ∙ ap (λ (b : ℕ). bit_of_digit (n % 2) ∷ bits_of_number width b) (rest_of_low n (width + rest))
    ∙ ap (λ (l : List Bit). bit_of_digit (n % 2) ∷ l) (low width rest (n / 2))

-- the lowest digits of a number are those of the number modulo 2^64
pub low_digits : (width n : ℕ) → width ≤ 64 → bits_of_number width (n % 2 ^ 64) ≡ bits_of_number width n
low_digits width n h =
    let e : width + (64 - width) ≡ 64 = omega arith in
    ap (λ (m : ℕ). bits_of_number width (n % 2 ^ m)) (sym e) ∙ low width (64 - width) n

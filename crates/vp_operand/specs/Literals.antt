-- The values of literals.
use Rattle.std.specs.Prelude.{ℕ, ◌+◌, ◌-◌, ◌*◌, ◌==◌, ◌||◌, nat_lt, Bool, if◌then◌else◌, List, [], ◌∷◌, ◌++◌, drop, replicate, slice_index, take, Option, Some, None}
use Rattle.std.specs.Char.{is_ascii_whitespace}
use Rattle.std.specs.List.{filter_map, fold}
use Rattle.vp_bits.specs.declared.bit.Bit.{Bit}
use Rattle.vp_bits.specs.declared.bit.Bit.TheVariants.{Zero, Unknown, HighImpedance}
use Rattle.vp_bits.specs.Arithmetic.{bits_of_number}
use Rattle.vp_operand.specs.Arena.{is_width}
use Rattle.vp_operand.specs.Values.{no_value}

-- ---- digits

-- the digit that a byte after the base letter stands for: `?` is `z`; white space and `_` stand for none (clause 3.5.1)
abbrev pub digit_at : ℕ → Option ℕ
digit_at byte =
    (if is_ascii_whitespace byte || (byte == 95) then None else
    (if byte == 63 then Some 122 else Some byte))

-- the digits of a base part: what stands after its apostrophe and base letter (clause 3.5.1)
abbrev pub digits_of : List ℕ → List ℕ
digits_of text = filter_map digit_at (drop 2 text)

-- x, in either case
abbrev pub is_x : ℕ → Bool
is_x digit = (digit == 120) || (digit == 88)

-- z, in either case
abbrev pub is_z : ℕ → Bool
is_z digit = (digit == 122) || (digit == 90)

-- the number of a digit 0 to 9, a to f or A to F (clause 3.5.1)
abbrev pub digit_value : ℕ → ℕ
digit_value digit = (if nat_lt digit 58 then digit - 48 else (if nat_lt digit 71 then digit - 55 else digit - 87))

-- how many bits a digit has, by the base letter: b, o or h; none of another, as d (clause 3.5.1)
abbrev pub digit_width : ℕ → Option ℕ
digit_width letter =
    (if (letter == 98) || (letter == 66) then Some 1 else
    (if (letter == 111) || (letter == 79) then Some 3 else
    (if (letter == 104) || (letter == 72) then Some 4 else
    None)))

-- ---- bases 2, 8 and 16

-- the bits of a digit, so many: x and z stand for as many x and z (clause 3.5.1)
abbrev pub digit_bits : ℕ → ℕ → List Bit
digit_bits width digit =
    (if is_x digit then replicate width Unknown else
    (if is_z digit then replicate width HighImpedance else
    bits_of_number width (digit_value digit)))

-- the bits of digits with so many bits each, the first digit the most significant (clause 3.5.1)
abbrev pub digits_bits : ℕ → List ℕ → List Bit
digits_bits width [] = []
digits_bits width (d ∷ ds) = digits_bits width ds ++ digit_bits width d

-- the bit that fills a literal on the left: x or z, if its first digit is, else 0 (clause 3.5.1)
abbrev pub pad_of : List ℕ → Bit
pad_of [] = Zero
pad_of (d ∷ ds) = (if is_x d then Unknown else (if is_z d then HighImpedance else Zero))

-- the bits of digits, filled or cut on the left to a size (clause 3.5.1)
abbrev pub sized_bits : (width size : ℕ) → List ℕ → List Bit
sized_bits width size digits = take size (digits_bits width digits ++ replicate size (pad_of digits))

-- ---- base 10

-- a number, and one more digit after it (clause 3.5.1)
abbrev pub with_digit : ℕ → ℕ → ℕ
with_digit number digit = number * 10 + digit_value digit

-- the number of decimal digits (clause 3.5.1)
abbrev pub decimal_of : List ℕ → ℕ
decimal_of digits = fold with_digit 0 digits

-- ---- literals

-- the value of digits, by how many bits each has; of decimal ones where that is none
abbrev pub digits_value : (size : ℕ) → Option ℕ → List ℕ → List Bit
digits_value size None digits = bits_of_number size (decimal_of digits)
digits_value size (Some width) digits = sized_bits width size digits

-- the value of a literal of a size in bits, by the text of its base part; one unknown bit for a size that no vector has
-- (clause 3.5.1)
abbrev pub literal_bits : (size : ℕ) → (text : List ℕ) → List Bit
literal_bits size text =
    if is_width size then digits_value size (digit_width (slice_index text 1)) (digits_of text) else no_value

-- a base part without a size, and a number without a base, have so many bits (clause 3.5.1, profile)
abbrev pub unsized_width : ℕ
unsized_width = 32

-- the value of a base part without a size, by its text (clause 3.5.1)
abbrev pub based_bits : (text : List ℕ) → List Bit
based_bits text = literal_bits unsized_width text

-- the value of a number without a base, which is signed (clause 3.5.1)
abbrev pub number_bits : ℕ → List Bit
number_bits number = bits_of_number unsized_width number

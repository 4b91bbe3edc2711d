-- The numbers of vectors, and arithmetic on them.
use Rattle.std.specs.Prelude.{ℕ, zero, suc, ◌+◌, ◌-◌, ◌*◌, ◌/◌, ◌%◌, ◌^◌, List, [], ◌∷◌, Option, Some, None, option_map, option_and_then, length, replicate}
use Rattle.vp_bits.specs.declared.bit.Bit.{Bit}
use Rattle.vp_bits.specs.declared.bit.Bit.TheVariants.{Zero, One, Unknown, HighImpedance}

-- the number of a bit that is known (IEEE Std 1364-2005, 4.1)
abbrev pub bit_value : Bit → Option ℕ
bit_value Zero = Some 0
bit_value One = Some 1
bit_value Unknown = None
bit_value HighImpedance = None

-- the number of bits that are all known, the least significant first (IEEE Std 1364-2005, 4.3.1, unsigned)
abbrev pub number_of : List Bit → Option ℕ
number_of [] = Some 0
number_of (bit ∷ bits) = option_and_then (λ value. option_map (λ number. value + 2 * number) (number_of bits)) (bit_value bit)

-- the bit of a number's last binary digit (IEEE Std 1364-2005, 3.5.1)
abbrev pub bit_of_digit : ℕ → Bit
bit_of_digit zero = Zero
bit_of_digit (suc digit) = One

-- the lowest binary digits of a number, so many: the number modulo 2^width (IEEE Std 1364-2005, 4.3.1)
abbrev pub bits_of_number : ℕ → ℕ → List Bit
bits_of_number zero number = []
bits_of_number (suc width) number = bit_of_digit (number % 2) ∷ bits_of_number width (number / 2)

-- the bits of a number, or all x where there is none (IEEE Std 1364-2005, 5.1.5)
abbrev pub bits_or_unknown : ℕ → Option ℕ → List Bit
bits_or_unknown width None = replicate width Unknown
bits_or_unknown width (Some number) = bits_of_number width number

-- a function of the two numbers, where there are both (IEEE Std 1364-2005, 5.1.5)
abbrev pub with_numbers : {X : Type 0} → (ℕ → ℕ → X) → List Bit → List Bit → Option X
with_numbers operation left right =
    option_and_then (λ n. option_map (λ m. operation n m) (number_of right)) (number_of left)

-- in the left operand's width; all x if any bit is x or z (IEEE Std 1364-2005, 5.1.5)
abbrev pub computed : (ℕ → ℕ → ℕ) → List Bit → List Bit → List Bit
computed operation left right = bits_or_unknown (length left) (with_numbers operation left right)

-- binary + (IEEE Std 1364-2005, 5.1.5)
abbrev pub added : List Bit → List Bit → List Bit
added left right = computed (λ n m. n + m) left right

-- binary -, which borrows from 2^width (IEEE Std 1364-2005, 5.1.5 and 4.3.1)
abbrev pub subtracted : List Bit → List Bit → List Bit
subtracted left right = computed (λ n m. (n + 2 ^ length left) - m) left right

-- binary * (IEEE Std 1364-2005, 5.1.5)
abbrev pub multiplied : List Bit → List Bit → List Bit
multiplied left right = computed (λ n m. n * m) left right

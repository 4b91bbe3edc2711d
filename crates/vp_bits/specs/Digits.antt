-- The digits of bits.
use Rattle.std.specs.Prelude.{ℕ, ◌==◌, ◌||◌, if◌then◌else◌, List, [], ◌∷◌, Option, Some, None, option_map, option_and_then}
use Rattle.vp_bits.specs.declared.bit.Bit.{Bit}
use Rattle.vp_bits.specs.declared.bit.Bit.TheVariants.{Zero, One, Unknown, HighImpedance}

-- the bit of a digit: 48 and 49 are 0 and 1, 120 and 88 are x and X, 122 and 90 are z and Z (IEEE Std 1364-2005, 3.5.1)
abbrev pub bit_of : ℕ → Option Bit
bit_of digit =
    (if digit == 48 then Some Zero else
    (if digit == 49 then Some One else
    (if (digit == 120) || (digit == 88) then Some Unknown else
    (if (digit == 122) || (digit == 90) then Some HighImpedance else
    None))))

-- the bits of digits, in their order, where each is a digit (IEEE Std 1364-2005, 3.5.1)
abbrev pub digits_bits : List ℕ → Option (List Bit)
digits_bits [] = Some []
digits_bits (digit ∷ digits) =
    option_and_then (λ bit. option_map (λ bits. bit ∷ bits) (digits_bits digits)) (bit_of digit)

-- the lower case digit of a bit (IEEE Std 1364-2005, 3.5.1)
abbrev pub digit_of : Bit → ℕ
digit_of Zero = 48
digit_of One = 49
digit_of Unknown = 120
digit_of HighImpedance = 122

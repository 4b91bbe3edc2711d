-- A vector as the list of its bits, the least significant first.
use Rattle.std.specs.Prelude.{ℕ, zero, suc, ◌+◌, ◌-◌, ◌*◌, ◌/◌, ◌%◌, ◌^◌, ◌<◌, ◌≤◌, ◌==◌, ◌&&◌, nat_lt, Bool, if◌then◌else◌, Option, Some, None, List, [], ◌∷◌, ◌++◌, length, take, replicate}
use Rattle.std.specs.Cmp.Lexicographic.{pointwise}
use Rattle.vp_bits.specs.declared.bit.Bit.{Bit}
use Rattle.vp_bits.specs.declared.bit.Bit.TheVariants.{Zero, One, Unknown, HighImpedance}

-- a vector may have so many bits (profile)
abbrev pub IsWidth : ℕ → Type 0
IsWidth width = (1 ≤ width) × (width ≤ 64)

-- the bit for these bits of the words aval and bval (IEEE Std 1364-2005, 27, s_vpi_vecval)
abbrev pub bit_from : ℕ → ℕ → Bit
bit_from zero zero = Zero
bit_from (suc aval) zero = One
bit_from zero (suc bval) = HighImpedance
bit_from (suc aval) (suc bval) = Unknown

-- the bits for the lowest bits of the two words, so many, the least significant first (IEEE Std 1364-2005, 27, s_vpi_vecval)
abbrev pub bits_of : ℕ → ℕ → ℕ → List Bit
bits_of zero aval bval = []
bits_of (suc width) aval bval = bit_from (aval % 2) (bval % 2) ∷ bits_of width (aval / 2) (bval / 2)

-- a bit in the word aval (IEEE Std 1364-2005, 27, s_vpi_vecval)
abbrev pub aval_bit : Bit → ℕ
aval_bit Zero = 0
aval_bit One = 1
aval_bit Unknown = 1
aval_bit HighImpedance = 0

-- a bit in the word bval (IEEE Std 1364-2005, 27, s_vpi_vecval)
abbrev pub bval_bit : Bit → ℕ
bval_bit Zero = 0
bval_bit One = 0
bval_bit Unknown = 1
bval_bit HighImpedance = 1

-- the word aval of a list of bits (IEEE Std 1364-2005, 27, s_vpi_vecval)
abbrev pub aval_of : List Bit → ℕ
aval_of [] = 0
aval_of (bit ∷ bits) = aval_bit bit + 2 * aval_of bits

-- the word bval of a list of bits (IEEE Std 1364-2005, 27, s_vpi_vecval)
abbrev pub bval_of : List Bit → ℕ
bval_of [] = 0
bval_of (bit ∷ bits) = bval_bit bit + 2 * bval_of bits

-- the bits of two words; none where a word has a bit above the width (IEEE Std 1364-2005, 27, s_vpi_vecval)
abbrev pub bits_of_words : ℕ → ℕ → ℕ → Option (List Bit)
bits_of_words width aval bval =
    if nat_lt aval (2 ^ width) && nat_lt bval (2 ^ width) then Some (bits_of width aval bval) else None

-- the words have no bit above the width (profile)
pub record IsStored (width aval bval : ℕ) : Type 0 where
  pub has_width : IsWidth width
  pub aval_fits : aval < 2 ^ width
  pub bval_fits : bval < 2 ^ width

-- the lowest bits, so many, with zeros above the greatest (IEEE Std 1364-2005, 5.5.3 and 5.6)
abbrev pub resized : ℕ → List Bit → List Bit
resized width bits = take width bits ++ replicate (width - length bits) Zero

-- the two bits are one (profile)
abbrev pub same_bit : Bit → Bit → Bool
same_bit bit other = (aval_bit bit == aval_bit other) && (bval_bit bit == bval_bit other)

-- the two lists have the same bits, and as many (profile)
abbrev pub same_bits : List Bit → List Bit → Bool
same_bits bits others = pointwise same_bit bits others

-- The definitions at rows that are worked out by hand. Byte codes: 48 is 0, 49 is 1, 120 is x, 122 is z, 88 is X, 90 is Z.
use Rattle.std.proofs.Common.{◌≡◌, List, [], ◌∷◌, Some, None, is_some, true, map, reverse, refl}
use Rattle.vp_bits.specs.declared.bit.Bit.{Bit}
use Rattle.vp_bits.specs.declared.bit.Bit.TheVariants.{Zero, One, Unknown, HighImpedance}
use Rattle.vp_bits.specs.Digits.{bit_of, digits_bits, digit_of}
use Rattle.vp_bits.specs.Vector.{bits_of, bits_of_words, aval_of, bval_of, resized}

-- 1x0z, the greatest bit first
pub row-digits_bits : digits_bits (49 ∷ 120 ∷ 48 ∷ 122 ∷ []) ≡ Some (One ∷ Unknown ∷ Zero ∷ HighImpedance ∷ [])
row-digits_bits = refl

-- XZ01
pub row-digits_bits_upper : digits_bits (88 ∷ 90 ∷ 48 ∷ 49 ∷ []) ≡ Some (Unknown ∷ HighImpedance ∷ Zero ∷ One ∷ [])
row-digits_bits_upper = refl

-- 12 has a byte that is no digit
pub row-digits_bits_none : digits_bits (49 ∷ 50 ∷ []) ≡ None
row-digits_bits_none = refl

-- 1x0z has the words 1100 and 0101
pub row-bits_of : bits_of 4 12 5 ≡ HighImpedance ∷ Zero ∷ Unknown ∷ One ∷ []
row-bits_of = refl

pub row-aval_of : aval_of (HighImpedance ∷ Zero ∷ Unknown ∷ One ∷ []) ≡ 12
row-aval_of = refl

pub row-bval_of : bval_of (HighImpedance ∷ Zero ∷ Unknown ∷ One ∷ []) ≡ 5
row-bval_of = refl

-- the words 1100 and 0101 in four bits are 1x0z
pub row-bits_of_words : bits_of_words 4 12 5 ≡ Some (HighImpedance ∷ Zero ∷ Unknown ∷ One ∷ [])
row-bits_of_words = refl

-- four bits have no word 10000
pub row-bits_of_words_aval : bits_of_words 4 16 0 ≡ None
row-bits_of_words_aval = refl

pub row-bits_of_words_bval : bits_of_words 4 0 16 ≡ None
row-bits_of_words_bval = refl

-- in 64 bits each word fits
pub row-bits_of_words_64 : is_some (bits_of_words 64 0xffff_ffff_ffff_ffff 0xffff_ffff_ffff_ffff) ≡ true
row-bits_of_words_64 = refl

-- 1x0z is written as it was read
pub row-digit_of : map digit_of (reverse (bits_of 4 12 5)) ≡ 49 ∷ 120 ∷ 48 ∷ 122 ∷ []
row-digit_of = refl

-- 1x0z cut to two bits is 0z
pub row-resized_cut : resized 2 (bits_of 4 12 5) ≡ HighImpedance ∷ Zero ∷ []
row-resized_cut = refl

-- 1x0z extended to six bits is 001x0z
pub row-resized_extended : resized 6 (bits_of 4 12 5) ≡ HighImpedance ∷ Zero ∷ Unknown ∷ One ∷ Zero ∷ Zero ∷ []
row-resized_extended = refl

-- ---- a round trip

bit_of-digit_of : (bit : Bit) → bit_of (digit_of bit) ≡ Some bit
bit_of-digit_of Zero = refl
bit_of-digit_of One = refl
bit_of-digit_of Unknown = refl
bit_of-digit_of HighImpedance = refl

-- the digits that are written for bits are read as those bits
pub digits_bits-map : (bits : List Bit) → digits_bits (map digit_of bits) ≡ Some bits
digits_bits-map [] = refl
digits_bits-map (bit ∷ bits) = rw (bit_of-digit_of bit, digits_bits-map bits) refl

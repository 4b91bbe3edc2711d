-- The bits of two words, the two words of bits, and when two lists have the same bits.
use Rattle.std.proofs.Common.{◌≡◌, true, ℕ, zero, suc, ◌/◌, ◌%◌, ◌^◌, ◌<◌, List, length, refl, ap, sym, ◌∙◌, arith}
use Rattle.std.proofs.Math.Nat.{pow-suc}
use Rattle.std.specs.Bool.{Decides}
use Rattle.std.specs.Cmp.{IsEquivalence, decided}
use Rattle.std.specs.Cmp.Lexicographic.{pointwise_decides}
use Rattle.vp_bits.specs.declared.bit.Bit.{Bit}
use Rattle.vp_bits.specs.declared.bit.Bit.TheVariants.{Zero, One, Unknown, HighImpedance}
use Rattle.vp_bits.specs.Vector.{bits_of, bit_from, aval_bit, bval_bit, aval_of, bval_of, same_bit, same_bits}

-- a vector has as many bits as its width
pub length-bits_of : (width aval bval : ℕ) → length (bits_of width aval bval) ≡ width
length-bits_of zero aval bval = refl
length-bits_of (suc width) aval bval = ap suc (length-bits_of width (aval / 2) (bval / 2))

-- a bit is put back into the words that it came from
pub aval_bit-bit_from : (a b : ℕ) → a < 2 → aval_bit (bit_from a b) ≡ a
aval_bit-bit_from zero zero h = refl
aval_bit-bit_from (suc a) zero h = omega arith
aval_bit-bit_from zero (suc b) h = refl
aval_bit-bit_from (suc a) (suc b) h = omega arith

pub bval_bit-bit_from : (a b : ℕ) → b < 2 → bval_bit (bit_from a b) ≡ b
bval_bit-bit_from zero zero h = refl
bval_bit-bit_from (suc a) zero h = refl
bval_bit-bit_from zero (suc b) h = omega arith
bval_bit-bit_from (suc a) (suc b) h = omega arith

-- a word is halved where its last bit is left out
pub half_below : (n k : ℕ) → n < 2 ^ suc k → n / 2 < 2 ^ k
half_below n k h = omega (arith, pow-suc 2 k)

-- the word aval comes back from the bits
pub aval_of-bits_of : (width aval bval : ℕ) → aval < 2 ^ width → aval_of (bits_of width aval bval) ≡ aval
aval_of-bits_of zero aval bval h = omega arith
aval_of-bits_of (suc width) aval bval h =
    omega (arith, aval_bit-bit_from (aval % 2) (bval % 2), aval_of-bits_of width (aval / 2) (bval / 2) (half_below aval width h))

-- the word bval comes back from the bits
pub bval_of-bits_of : (width aval bval : ℕ) → bval < 2 ^ width → bval_of (bits_of width aval bval) ≡ bval
bval_of-bits_of zero aval bval h = omega arith
bval_of-bits_of (suc width) aval bval h =
    omega (arith, bval_bit-bit_from (aval % 2) (bval % 2), bval_of-bits_of width (aval / 2) (bval / 2) (half_below bval width h))

-- ---- the same bits

pub same_bit-same : (bit other : Bit) → same_bit bit other ≡ true → bit ≡ other
same_bit-same Zero Zero h = refl
same_bit-same Zero One h = cc
same_bit-same Zero Unknown h = cc
same_bit-same Zero HighImpedance h = cc
same_bit-same One Zero h = cc
same_bit-same One One h = refl
same_bit-same One Unknown h = cc
same_bit-same One HighImpedance h = cc
same_bit-same Unknown Zero h = cc
same_bit-same Unknown One h = cc
same_bit-same Unknown Unknown h = refl
same_bit-same Unknown HighImpedance h = cc
same_bit-same HighImpedance Zero h = cc
same_bit-same HighImpedance One h = cc
same_bit-same HighImpedance Unknown h = cc
same_bit-same HighImpedance HighImpedance h = refl

same_bit_own : (bit : Bit) → same_bit bit bit ≡ true
same_bit_own Zero = refl
same_bit_own One = refl
same_bit_own Unknown = refl
same_bit_own HighImpedance = refl

-- the test of equal bits decides equality
pub same_bits-Decides : (bits others : List Bit) → Decides (same_bits bits others) (bits ≡ others)
same_bits-Decides bits others =
    pointwise_decides (λ bit other. (same_bit-same bit other, λ e. ap (same_bit bit) (sym e) ∙ same_bit_own bit)) bits others

-- to have the same bits is an equivalence
pub same_bits_equiv : IsEquivalence same_bits
same_bits_equiv = decided same_bits same_bits-Decides

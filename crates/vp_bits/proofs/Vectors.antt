-- Laws of vectors: the lowest bits, one bit, other widths, ones, one more bit, and when two are one.
use Rattle.std.proofs.Common.{◌≡◌, ℕ, zero, suc, ◌+◌, ◌-◌, ◌*◌, ◌/◌, ◌%◌, ◌^◌, ◌<◌, ◌≤◌, ◌∷◌, Some, length, replicate, slice_get, bit_and, ◌==◌, ◌&&◌, refl, ap, sym, ◌∙◌, arith, add-one, lit<}
use Rattle.std.proofs.Math.Nat.{pow-suc}
use Rattle.std.proofs.lemmas.Nat.{mod-pow-add, pow_pos}
use Rattle.std.proofs.lemmas.Nat.Bits.{shr_and_one, bit_at_lowest, bit_at-suc}
use Rattle.std.proofs.lemmas.Bool.Decides.{Decides-and, Decides-eqb, Decides-like}
use Rattle.std.specs.Bool.{Decides}
use Rattle.vp_bits.specs.declared.bit.Bit.{Bit}
use Rattle.vp_bits.specs.declared.bit.Bit.TheVariants.{Zero, One, Unknown, HighImpedance}
use Rattle.vp_bits.specs.Vector.{bits_of, bit_from, aval_bit, bval_bit, aval_of, bval_of, resized}
use Rattle.vp_bits.specs.laws.Words.{length-bits_of, aval_of-bits_of, bval_of-bits_of, half_below}

-- ---- the lowest bits of a word

-- a word below the width is its rest and its first bit
low_step : (n width : ℕ) → n % 2 ^ suc width ≡ n / 2 % 2 ^ width * 2 + n % 2
low_step n width = ap (λ m. n % 2 ^ m) (sym (add-one width)) ∙ mod-pow-add n width 1

first_of_low : (n width : ℕ) → n % 2 ^ suc width % 2 ≡ n % 2
first_of_low n width = rw (low_step n width) (omega arith)

rest_of_low : (n width : ℕ) → n % 2 ^ suc width / 2 ≡ n / 2 % 2 ^ width
rest_of_low n width = rw (low_step n width) (omega arith)

-- the bits above the width do not count
pub bits_of-low : (width aval bval : ℕ) → bits_of width (aval % 2 ^ width) (bval % 2 ^ width) ≡ bits_of width aval bval
bits_of-low zero aval bval = refl
bits_of-low (suc width) aval bval =
    rw (first_of_low aval width, first_of_low bval width, rest_of_low aval width, rest_of_low bval width, bits_of-low width (aval / 2) (bval / 2)) refl

pub bits_of-low_known : (width aval : ℕ) → bits_of width (aval % 2 ^ width) 0 ≡ bits_of width aval 0
bits_of-low_known width aval =
    let none : 0 % 2 ^ width ≡ 0 = omega arith in
    ap (bits_of width (aval % 2 ^ width)) (sym none) ∙ bits_of-low width aval 0

-- ---- one bit

pub slice_get-bits_of : (width aval bval k : ℕ) → k < width → slice_get (bits_of width aval bval) k ≡ Some (bit_from (bit_and (aval / 2 ^ k) 1) (bit_and (bval / 2 ^ k) 1))
slice_get-bits_of zero aval bval k h = absurd (omega arith)
slice_get-bits_of (suc width) aval bval zero h = simp (shr_and_one, bit_at_lowest) refl
slice_get-bits_of (suc width) aval bval (suc k) h =
    let rest : k < width = omega arith in
    rw (shr_and_one aval (suc k), shr_and_one bval (suc k), bit_at-suc aval k, bit_at-suc bval k, ← shr_and_one (aval / 2) k, ← shr_and_one (bval / 2) k)
    (slice_get-bits_of width (aval / 2) (bval / 2) k rest)

-- ---- other widths

pub bits_of_zeros : (width : ℕ) → bits_of width 0 0 ≡ replicate width Zero
bits_of_zeros zero = refl
bits_of_zeros (suc width) = ap (λ bits. Zero ∷ bits) (bits_of_zeros width)

pub bits_of-resized : (other width aval bval : ℕ) → aval < 2 ^ width → bval < 2 ^ width → bits_of other aval bval ≡ resized other (bits_of width aval bval)
bits_of-resized zero width aval bval p q = let none : 0 - length (bits_of width aval bval) ≡ 0 = omega arith in rw none refl
bits_of-resized (suc other) zero aval bval p q =
    let no_a : aval ≡ 0 = omega arith in
    let no_b : bval ≡ 0 = omega arith in
    let all : suc other - 0 ≡ suc other = omega arith in
    rw (no_a, no_b, all) (bits_of_zeros (suc other))
bits_of-resized (suc other) (suc width) aval bval p q =
    let rest : suc other - suc (length (bits_of width (aval / 2) (bval / 2))) ≡ other - length (bits_of width (aval / 2) (bval / 2)) = omega arith in
    rw rest
    (ap (λ bits. bit_from (aval % 2) (bval % 2) ∷ bits) (bits_of-resized other width (aval / 2) (bval / 2) (half_below aval width p) (half_below bval width q)))

-- ---- ones

pub first_of_ones : (n : ℕ) → (2 ^ suc n - 1) % 2 ≡ 1
first_of_ones n = omega (arith, pow-suc 2 n, pow_pos n)

pub rest_of_ones : (n : ℕ) → (2 ^ suc n - 1) / 2 ≡ 2 ^ n - 1
rest_of_ones n = omega (arith, pow-suc 2 n, pow_pos n)

pub bits_of_ones : (width n : ℕ) → width ≤ n → bits_of width (2 ^ n - 1) (2 ^ n - 1) ≡ replicate width Unknown
bits_of_ones zero n h = refl
bits_of_ones (suc width) zero h = absurd (omega arith)
bits_of_ones (suc width) (suc n) h =
    let rest : width ≤ n = omega arith in
    rw (first_of_ones n, rest_of_ones n, bits_of_ones width n rest) refl

-- the bits of a word of zeros and one of ones
pub bits_of_zeros_ones : (width n : ℕ) → width ≤ n → bits_of width 0 (2 ^ n - 1) ≡ replicate width HighImpedance
bits_of_zeros_ones zero n h = refl
bits_of_zeros_ones (suc width) zero h = absurd (omega arith)
bits_of_zeros_ones (suc width) (suc n) h =
    let rest : width ≤ n = omega arith in
    rw (first_of_ones n, rest_of_ones n, bits_of_zeros_ones width n rest) refl

-- the bits of a word of ones and one of zeros
pub bits_of_known_ones : (width n : ℕ) → width ≤ n → bits_of width (2 ^ n - 1) 0 ≡ replicate width One
bits_of_known_ones zero n h = refl
bits_of_known_ones (suc width) zero h = absurd (omega arith)
bits_of_known_ones (suc width) (suc n) h =
    let rest : width ≤ n = omega arith in
    rw (first_of_ones n, rest_of_ones n, bits_of_known_ones width n rest) refl

-- ---- one more bit, below the others

doubled_half : (n d : ℕ) → d < 2 → (n * 2 + d) / 2 ≡ n
doubled_half n d h = omega arith

doubled_first : (n d : ℕ) → d < 2 → (n * 2 + d) % 2 ≡ d
doubled_first n d h = omega arith

pub aval_bit_below : (bit : Bit) → aval_bit bit < 2
aval_bit_below Zero = lit< tt
aval_bit_below One = lit< tt
aval_bit_below Unknown = lit< tt
aval_bit_below HighImpedance = lit< tt

pub bval_bit_below : (bit : Bit) → bval_bit bit < 2
bval_bit_below Zero = lit< tt
bval_bit_below One = lit< tt
bval_bit_below Unknown = lit< tt
bval_bit_below HighImpedance = lit< tt

bit_from_parts : (bit : Bit) → bit_from (aval_bit bit) (bval_bit bit) ≡ bit
bit_from_parts Zero = refl
bit_from_parts One = refl
bit_from_parts Unknown = refl
bit_from_parts HighImpedance = refl

pub bits_of_more : (width aval bval : ℕ) (bit : Bit) → bits_of (width + 1) (aval * 2 + aval_bit bit) (bval * 2 + bval_bit bit) ≡ bit ∷ bits_of width aval bval
bits_of_more width aval bval bit =
    rw (add-one, doubled_first aval (aval_bit bit) (aval_bit_below bit), doubled_first bval (bval_bit bit) (bval_bit_below bit), doubled_half aval (aval_bit bit) (aval_bit_below bit), doubled_half bval (bval_bit bit) (bval_bit_below bit), bit_from_parts bit) refl

pub more_below : (n k d : ℕ) → n < 2 ^ k → d < 2 → n * 2 + d < 2 ^ (k + 1)
more_below n k d p q = omega (arith, pow-suc 2 k, ap (λ m. 2 ^ m) (add-one k))

-- ---- two vectors

-- vectors are one exactly where their words are
pub same_words-Decides : (width aval bval other_width other_aval other_bval : ℕ) → aval < 2 ^ width → bval < 2 ^ width → other_aval < 2 ^ other_width → other_bval < 2 ^ other_width → Decides ((width == other_width) && (aval == other_aval) && (bval == other_bval)) (bits_of width aval bval ≡ bits_of other_width other_aval other_bval)
same_words-Decides width aval bval other_width other_aval other_bval aval_fits bval_fits other_a_fits other_b_fits =
    let words = Decides-and ((width == other_width) && (aval == other_aval)) (bval == other_bval) (Decides-and (width == other_width) (aval == other_aval) (Decides-eqb width other_width) (Decides-eqb aval other_aval)) (Decides-eqb bval other_bval) in
    Decides-like ((width == other_width) && (aval == other_aval) && (bval == other_bval))
    (λ e. rw (e.0.0, e.0.1, e.1) refl)
    (λ e. (
      (
        sym (length-bits_of width aval bval) ∙ ap length e ∙ length-bits_of other_width other_aval other_bval,
        sym (aval_of-bits_of width aval bval aval_fits) ∙ ap aval_of e ∙ aval_of-bits_of other_width other_aval other_bval other_a_fits,
      ),
      sym (bval_of-bits_of width aval bval bval_fits) ∙ ap bval_of e ∙ bval_of-bits_of other_width other_aval other_bval other_b_fits,
    ))
    words

-- Formulas of and, or and exclusive or over the words of two vectors, which are the same formulas bit by bit.
use Rattle.std.proofs.Common.{◌≡◌, ℕ, zero, suc, ◌/◌, ◌%◌, ◌^◌, ◌<◌, ◌&&◌, Bool, true, false, List, [], ◌∷◌, bit_and, refl, ◌∙◌, arith}
use Rattle.std.specs.Int.Bits.{bit_or, bit_xor, and_lt}
use Rattle.std.proofs.lemmas.Nat.{and_shr, or_shr, xor_shr, and_mod, or_mod, xor_mod, or_lt, xor_lt}
use Rattle.vp_bits.specs.declared.bit.Bit.{Bit}
use Rattle.vp_bits.specs.declared.bit.Bit.TheVariants.{Zero, One, Unknown, HighImpedance}
use Rattle.vp_bits.specs.Vector.{bits_of, bit_from, aval_bit, bval_bit, same_bit}
use Rattle.vp_bits.specs.Tables.{bitwise}
use Rattle.vp_bits.specs.laws.Words.{same_bit-same, aval_bit-bit_from, bval_bit-bit_from}

-- a formula over the words of two vectors
pub data Formula : Type 0 where
  Aval : Formula
  Bval : Formula
  OtherAval : Formula
  OtherBval : Formula
  And : (left right : Formula) → Formula
  Or : (left right : Formula) → Formula
  Xor : (left right : Formula) → Formula

-- its value for the words aval and bval of each of the two
abbrev pub value : Formula → ℕ → ℕ → ℕ → ℕ → ℕ
value Aval a b c d = a
value Bval a b c d = b
value OtherAval a b c d = c
value OtherBval a b c d = d
value (And left right) a b c d = bit_and (value left a b c d) (value right a b c d)
value (Or left right) a b c d = bit_or (value left a b c d) (value right a b c d)
value (Xor left right) a b c d = bit_xor (value left a b c d) (value right a b c d)

-- its value for two bits
abbrev pub value_at : Formula → Bit → Bit → ℕ
value_at formula bit other = value formula (aval_bit bit) (bval_bit bit) (aval_bit other) (bval_bit other)

-- the bit whose words are the values of two formulas
abbrev pub bit_at_both : Formula → Formula → Bit → Bit → Bit
bit_at_both f g bit other = bit_from (value_at f bit other) (value_at g bit other)

pub value-half : (f : Formula) (a b c d : ℕ) → value f a b c d / 2 ≡ value f (a / 2) (b / 2) (c / 2) (d / 2)
value-half Aval a b c d = refl
value-half Bval a b c d = refl
value-half OtherAval a b c d = refl
value-half OtherBval a b c d = refl
value-half (And f g) a b c d = and_shr (value f a b c d) (value g a b c d) 1 ∙ rw (value-half f a b c d, value-half g a b c d) refl
value-half (Or f g) a b c d = or_shr (value f a b c d) (value g a b c d) 1 ∙ rw (value-half f a b c d, value-half g a b c d) refl
value-half (Xor f g) a b c d = xor_shr (value f a b c d) (value g a b c d) 1 ∙ rw (value-half f a b c d, value-half g a b c d) refl

pub value-first : (f : Formula) (a b c d : ℕ) → value f a b c d % 2 ≡ value f (a % 2) (b % 2) (c % 2) (d % 2)
value-first Aval a b c d = refl
value-first Bval a b c d = refl
value-first OtherAval a b c d = refl
value-first OtherBval a b c d = refl
value-first (And f g) a b c d = and_mod (value f a b c d) (value g a b c d) 1 ∙ rw (value-first f a b c d, value-first g a b c d) refl
value-first (Or f g) a b c d = or_mod (value f a b c d) (value g a b c d) 1 ∙ rw (value-first f a b c d, value-first g a b c d) refl
value-first (Xor f g) a b c d = xor_mod (value f a b c d) (value g a b c d) 1 ∙ rw (value-first f a b c d, value-first g a b c d) refl

-- no bit above the width comes out where none goes in
pub value-below : (f : Formula) (k a b c d : ℕ) → a < 2 ^ k → b < 2 ^ k → c < 2 ^ k → d < 2 ^ k → value f a b c d < 2 ^ k
value-below Aval k a b c d p q r s = p
value-below Bval k a b c d p q r s = q
value-below OtherAval k a b c d p q r s = r
value-below OtherBval k a b c d p q r s = s
value-below (And f g) k a b c d p q r s = and_lt k (value f a b c d) (value g a b c d) (value-below f k a b c d p q r s) (value-below g k a b c d p q r s)
value-below (Or f g) k a b c d p q r s = or_lt k (value f a b c d) (value g a b c d) (value-below f k a b c d p q r s) (value-below g k a b c d p q r s)
value-below (Xor f g) k a b c d p q r s = xor_lt k (value f a b c d) (value g a b c d) (value-below f k a b c d p q r s) (value-below g k a b c d p q r s)

-- the first bits of words are the words of the first bits
pub value-first_at : (f : Formula) (a b c d : ℕ) → value f a b c d % 2 ≡ value_at f (bit_from (a % 2) (b % 2)) (bit_from (c % 2) (d % 2))
value-first_at f a b c d =
    value-first f a b c d
    ∙ rw (aval_bit-bit_from (a % 2) (b % 2) (omega arith), bval_bit-bit_from (a % 2) (b % 2) (omega arith), aval_bit-bit_from (c % 2) (d % 2) (omega arith), bval_bit-bit_from (c % 2) (d % 2) (omega arith)) refl

-- formulas of words are the formulas bit by bit
pub bits_of-values : (f g : Formula) (width a b c d : ℕ) → bits_of width (value f a b c d) (value g a b c d) ≡ bitwise (bit_at_both f g) (bits_of width a b) (bits_of width c d)
bits_of-values f g zero a b c d = refl
bits_of-values f g (suc width) a b c d =
    rw (value-first_at f a b c d, value-first_at g a b c d, value-half f a b c d, value-half g a b c d, bits_of-values f g width (a / 2) (b / 2) (c / 2) (d / 2)) refl

-- ---- tables of 16 rows

-- whether a test passes at each bit
abbrev pub at_each_bit : (Bit → Bool) → Bool
at_each_bit test = test Zero && test One && test Unknown && test HighImpedance

and-left : (p q : Bool) → (p && q) ≡ true → p ≡ true
and-left true q h = refl
and-left false q h = h

and-right : (p q : Bool) → (p && q) ≡ true → q ≡ true
and-right true q h = h
and-right false q h = cc

pub at_each_bit-at : (test : Bit → Bool) → at_each_bit test ≡ true → (bit : Bit) → test bit ≡ true
at_each_bit-at test h Zero = and-left (test Zero) (test One) (and-left (test Zero && test One) (test Unknown) (and-left (test Zero && test One && test Unknown) (test HighImpedance) h))
at_each_bit-at test h One = and-right (test Zero) (test One) (and-left (test Zero && test One) (test Unknown) (and-left (test Zero && test One && test Unknown) (test HighImpedance) h))
at_each_bit-at test h Unknown = and-right (test Zero && test One) (test Unknown) (and-left (test Zero && test One && test Unknown) (test HighImpedance) h)
at_each_bit-at test h HighImpedance = and-right (test Zero && test One && test Unknown) (test HighImpedance) h

-- whether a test passes at each of the 16 pairs of bits
abbrev pub at_each_pair : (Bit → Bit → Bool) → Bool
at_each_pair test = at_each_bit (λ bit. at_each_bit (test bit))

pub at_each_pair-at : (test : Bit → Bit → Bool) → at_each_pair test ≡ true → (bit other : Bit) → test bit other ≡ true
at_each_pair-at test h bit other = at_each_bit-at (test bit) (at_each_bit-at (λ b. at_each_bit (test b)) h bit) other

-- whether two tables have the same 16 rows
abbrev pub same_rows : (Bit → Bit → Bit) → (Bit → Bit → Bit) → Bool
same_rows table wanted = at_each_pair (λ bit other. same_bit (table bit other) (wanted bit other))

pub bitwise-same_rows : (table wanted : Bit → Bit → Bit) → same_rows table wanted ≡ true → (bits others : List Bit) → bitwise table bits others ≡ bitwise wanted bits others
bitwise-same_rows table wanted h [] others = refl
bitwise-same_rows table wanted h (bit ∷ bits) [] = refl
bitwise-same_rows table wanted h (bit ∷ bits) (other ∷ others) =
    rw (same_bit-same (table bit other) (wanted bit other) (at_each_pair-at (λ b o. same_bit (table b o) (wanted b o)) h bit other), bitwise-same_rows table wanted h bits others) refl

-- formulas whose 16 rows are a table's make that table bit by bit
pub bits_of-table : (f g : Formula) (table : Bit → Bit → Bit) → same_rows (bit_at_both f g) table ≡ true → (width a b c d : ℕ) → bits_of width (value f a b c d) (value g a b c d) ≡ bitwise table (bits_of width a b) (bits_of width c d)
bits_of-table f g table h width a b c d = bits_of-values f g width a b c d ∙ bitwise-same_rows (bit_at_both f g) table h (bits_of width a b) (bits_of width c d)

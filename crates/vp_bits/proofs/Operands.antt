-- Laws of operations on the words of two operands.
use Rattle.std.proofs.Common.{◌≡◌, true, ℕ, ◌+◌, ◌-◌, ◌*◌, ◌^◌, ◌<◌, List, [], ◌∷◌, length, map, replicate, bit_and, refl, ap, sym, ◌∙◌, arith}
use Rattle.std.specs.Int.Bits.{bit_or, bit_xor, xor_add_and, and_self}
use Rattle.std.proofs.lemmas.Nat.{and-not, and_comm, and_assoc, pow_pos}
use Rattle.vp_bits.specs.declared.bit.Bit.{Bit}
use Rattle.vp_bits.specs.declared.bit.Bit.TheVariants.{Zero, One, Unknown, HighImpedance}
use Rattle.vp_bits.specs.declared.bits.Bits.TheInside.{Inside}
use Rattle.vp_bits.specs.Vector.{bits_of, IsStored}
use Rattle.vp_bits.specs.Tables.{bitwise, not_bit}
use Rattle.vp_bits.specs.laws.Words.{length-bits_of}
use Rattle.vp_bits.proofs.Formulas.{Formula, Aval, Bval, OtherAval, Or, Xor, value, value-below, bit_at_both, same_rows, bits_of-values, bits_of-table}
use Rattle.vp_bits.proofs.Vectors.{bits_of_known_ones}

-- the bits of a word that are not in the other, as an exclusive or
pub and-not_is_xor : (w word other : ℕ) → word < 2 ^ w → other < 2 ^ w → bit_and word (2 ^ w - 1 - other) ≡ bit_xor word (bit_and word other)
and-not_is_xor w word other p q =
    let parts : bit_and (2 ^ w - 1 - other) word + bit_and other word ≡ word = and-not w other word q p in
    let turned : bit_and (2 ^ w - 1 - other) word ≡ bit_and word (2 ^ w - 1 - other) = and_comm (2 ^ w - 1 - other) word in
    let turned_too : bit_and other word ≡ bit_and word other = and_comm other word in
    let inside : bit_and word (bit_and word other) ≡ bit_and word other =
    sym (and_assoc other word word) ∙ ap (λ n. bit_and n other) (and_self word) in
    let sum : bit_xor word (bit_and word other) + bit_and word (bit_and word other) * 2 ≡ word + bit_and word other = xor_add_and word (bit_and word other) in
    omega arith

-- two vectors of one length have one width
pub same_width : (v o : Inside) (left right : List Bit) → bits_of v.width v.aval v.bval ≡ left → bits_of o.width o.aval o.bval ≡ right → length left ≡ length right → o.width ≡ v.width
same_width v o left right is_left is_right same =
    sym (length-bits_of o.width o.aval o.bval) ∙ ap length is_right ∙ sym same ∙ ap length (sym is_left) ∙ length-bits_of v.width v.aval v.bval

-- the values of formulas are stored as a vector of the left operand's width
pub stored_by_formulas : (f g : Formula) (v o : Inside) → IsStored v.width v.aval v.bval → IsStored o.width o.aval o.bval → o.width ≡ v.width → IsStored v.width (value f v.aval v.bval o.aval o.bval) (value g v.aval v.bval o.aval o.bval)
stored_by_formulas f g v o left right same =
    let a : o.aval < 2 ^ v.width = rw (← same) right.aval_fits in
    let b : o.bval < 2 ^ v.width = rw (← same) right.bval_fits in
    record {
      has_width = left.has_width;
      aval_fits = value-below f v.width v.aval v.bval o.aval o.bval left.aval_fits left.bval_fits a b;
      bval_fits = value-below g v.width v.aval v.bval o.aval o.bval left.aval_fits left.bval_fits a b;
    }

-- the values of formulas whose 16 rows are a table's are the words of the table bit by bit
pub made_by_formulas : (f g : Formula) (table : Bit → Bit → Bit) → same_rows (bit_at_both f g) table ≡ true → (v o : Inside) (left right : List Bit) → bits_of v.width v.aval v.bval ≡ left → bits_of o.width o.aval o.bval ≡ right → length left ≡ length right → bits_of v.width (value f v.aval v.bval o.aval o.bval) (value g v.aval v.bval o.aval o.bval) ≡ bitwise table left right
made_by_formulas f g table rows v o left right is_left is_right same =
    bits_of-table f g table rows v.width v.aval v.bval o.aval o.bval
    ∙ ap (λ bits. bitwise table bits (bits_of v.width o.aval o.bval)) is_left
    ∙ ap (λ width. bitwise table left (bits_of width o.aval o.bval)) (sym (same_width v o left right is_left is_right same))
    ∙ ap (bitwise table left) is_right

-- ---- negation

abbrev negation : Formula
negation = Or (Xor Aval OtherAval) Bval

not_row : (bit : Bit) → bit_at_both negation Bval bit One ≡ not_bit bit
not_row Zero = refl
not_row One = refl
not_row Unknown = refl
not_row HighImpedance = refl

not_rows : (bits : List Bit) → bitwise (bit_at_both negation Bval) bits (replicate (length bits) One) ≡ map not_bit bits
not_rows [] = refl
not_rows (bit ∷ bits) = rw (not_row bit, not_rows bits) refl

pub negated_words : (width aval bval : ℕ) → bits_of width (bit_or (bit_xor aval (2 ^ width - 1)) bval) bval ≡ map not_bit (bits_of width aval bval)
negated_words width aval bval =
    bits_of-values negation Bval width aval bval (2 ^ width - 1) 0
    ∙ ap (bitwise (bit_at_both negation Bval) (bits_of width aval bval)) (bits_of_known_ones width width (omega arith) ∙ ap (λ n. replicate n One) (sym (length-bits_of width aval bval)))
    ∙ not_rows (bits_of width aval bval)

pub negated_below : (width aval bval : ℕ) → aval < 2 ^ width → bval < 2 ^ width → bit_or (bit_xor aval (2 ^ width - 1)) bval < 2 ^ width
negated_below width aval bval p q =
    let all : 2 ^ width - 1 < 2 ^ width = omega (arith, pow_pos width) in
    let none : 0 < 2 ^ width = pow_pos width in
    value-below negation width aval bval (2 ^ width - 1) 0 p q all none

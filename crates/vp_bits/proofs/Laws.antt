-- Laws of the definitions of operations.
use Rattle.std.proofs.Common.{◌≡◌, ◌||◌, Bool, true, false, List, [], ◌∷◌, length, refl, ap, sym, ◌∙◌, arith}
use Rattle.std.specs.List.{list_any}
use Rattle.vp_bits.specs.declared.bit.Bit.{Bit}
use Rattle.vp_bits.specs.Tables.{bitwise, xor_bit, not_bit, and_of_all}
use Rattle.vp_bits.specs.Comparing.{is_unknown, has_unknown, is_known_difference, has_known_difference, equal}
use Rattle.vp_bits.proofs.Comparisons.{is_zero, folded_and, same_truth, same_truth-same}
use Rattle.vp_bits.proofs.Formulas.{at_each_pair-at}

-- the bit of ~^
abbrev xnor_bit : Bit → Bit → Bit
xnor_bit bit other = not_bit (xor_bit bit other)

zero_at : (bit other : Bit) → is_zero (xnor_bit bit other) ≡ is_known_difference bit other
zero_at bit other =
    same_truth-same (is_zero (xnor_bit bit other)) (is_known_difference bit other)
    (at_each_pair-at (λ b o. same_truth (is_zero (xnor_bit b o)) (is_known_difference b o)) refl bit other)

unknown_at : (bit other : Bit) → is_unknown (xnor_bit bit other) ≡ (is_unknown bit || is_unknown other)
unknown_at bit other =
    same_truth-same (is_unknown (xnor_bit bit other)) (is_unknown bit || is_unknown other)
    (at_each_pair-at (λ b o. same_truth (is_unknown (xnor_bit b o)) (is_unknown b || is_unknown o)) refl bit other)

some_zero : (bits others : List Bit) → list_any is_zero (bitwise xnor_bit bits others) ≡ has_known_difference bits others
some_zero [] others = refl
some_zero (bit ∷ bits) [] = refl
some_zero (bit ∷ bits) (other ∷ others) = rw (zero_at bit other, some_zero bits others) refl

or-swap : (a b c d : Bool) → (a || b || (c || d)) ≡ (a || c || (b || d))
or-swap true b c d = refl
or-swap false true true d = refl
or-swap false true false d = refl
or-swap false false true d = refl
or-swap false false false d = refl

some_unknown : (bits others : List Bit) → length bits ≡ length others → has_unknown (bitwise xnor_bit bits others) ≡ (has_unknown bits || has_unknown others)
some_unknown [] [] same = refl
some_unknown [] (other ∷ others) same = absurd (omega arith)
some_unknown (bit ∷ bits) [] same = absurd (omega arith)
some_unknown (bit ∷ bits) (other ∷ others) same =
    let rest : length bits ≡ length others = omega arith in
    rw (unknown_at bit other, some_unknown bits others rest) (or-swap (is_unknown bit) (is_unknown other) (has_unknown bits) (has_unknown others))

-- == is the reduction & of the bits of ~^
pub equal_by_reduction : (bits others : List Bit) → length bits ≡ length others → equal bits others ≡ and_of_all (bitwise xnor_bit bits others)
equal_by_reduction bits others same =
    ap (λ bit. bit ∷ [])
    (sym (folded_and (bitwise xnor_bit bits others) ∙ rw (some_zero bits others, some_unknown bits others same) refl))

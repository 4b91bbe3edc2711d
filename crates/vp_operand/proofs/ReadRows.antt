-- What expressions read, at rows that are worked out by hand.
use Rattle.std.proofs.Common.{◌≡◌, false, List, [], ◌∷◌, map, refl}
use Rattle.vp_bits.specs.declared.bit.Bit.TheVariants.{One}
use Rattle.vp_operand.specs.declared.operand.Binary.TheVariants as binary
use Rattle.vp_operand.specs.declared.operand.Infix.TheVariants as pair
use Rattle.vp_operand.specs.declared.operand.Operand.{Operand}
use Rattle.vp_operand.specs.declared.operand.Operand.TheVariants as operand
use Rattle.vp_operand.specs.Arena.{term_at}
use Rattle.vp_operand.specs.Reads.{reads, slot_at}
use Rattle.vp_operand.specs.Terms.{Object, Constant, BitSelect, PartSelect, Combined, Conditional, Concatenated, Appended, Replicated}

-- by slots: 3[1 + 5] is read in 3 and 5
index_is_read : reads (BitSelect 3 0 (Combined binary.Add (Constant (One ∷ []) false) (Object 5 4))) ≡ 3 ∷ 5 ∷ []
index_is_read = refl

-- 2 ? 1[3:0] : 2, in which one is read twice
each_time : reads (Conditional (Object 2 1) (PartSelect 1 0 4) (Object 2 1)) ≡ 2 ∷ 1 ∷ 2 ∷ []
each_time = refl

-- {2{4, 1, 1'b1}}
in_braces : reads (Replicated 2 (Appended (Appended (Concatenated (Object 4 1)) (Object 1 8)) (Constant (One ∷ []) false))) ≡ 4 ∷ 1 ∷ []
in_braces = refl

-- 3[1 + 5] ? 7 : 3, part by part in a list, in which 3 is read twice; the place past the end reads nothing
abbrev operands : List Operand
operands =
    operand.Constant (One ∷ []) false
    ∷ operand.Object (slot_at 5) 4
    ∷ operand.Paired (pair.Combined binary.Add) 0 1
    ∷ operand.BitSelect (slot_at 3) 0 2
    ∷ operand.Object (slot_at 7) 1
    ∷ operand.Object (slot_at 3) 1
    ∷ operand.Conditional 3 4 5
    ∷ []

slots_at_a_place : map slot_at (reads (term_at operands 6)) ≡ slot_at 3 ∷ slot_at 5 ∷ slot_at 7 ∷ slot_at 3 ∷ []
slots_at_a_place = refl

slots_of_a_part : map slot_at (reads (term_at operands 2)) ≡ slot_at 5 ∷ []
slots_of_a_part = refl

none_after_the_end : map slot_at (reads (term_at operands 7)) ≡ []
none_after_the_end = refl

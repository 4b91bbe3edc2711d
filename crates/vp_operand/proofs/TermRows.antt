-- The values of expressions at rows that are worked out by hand.
use Rattle.std.proofs.Common.{◌≡◌, ℕ, true, false, List, [], ◌∷◌, Some, None, refl}
use Rattle.vp_bits.specs.declared.bit.Bit.{Bit}
use Rattle.vp_bits.specs.declared.bit.Bit.TheVariants.{Zero, One, Unknown, HighImpedance}
use Rattle.vp_operand.specs.declared.operand.Unary.TheVariants as unary
use Rattle.vp_operand.specs.declared.operand.Reduction.TheVariants as reduction
use Rattle.vp_operand.specs.declared.operand.Binary.TheVariants as binary
use Rattle.vp_operand.specs.declared.operand.Shift.TheVariants as shift
use Rattle.vp_operand.specs.declared.operand.Comparison.TheVariants as comparison
use Rattle.vp_operand.specs.declared.operand.Logical.TheVariants as logical
use Rattle.vp_operand.specs.Arena.{value_in}
use Rattle.vp_operand.specs.Terms.{Term, Constant, BitSelect, PartSelect, Applied, Reduced, Combined, Shifted, Compared, Joined, Conditional, Concatenated, Appended, Replicated, is_signed, value, own_value, assigned, with_part_at}
use Rattle.vp_operand.proofs.Setting.{with_bit_at}

-- an unsigned constant by its bits, the least significant first
abbrev constant : List Bit → Term
constant bits = Constant bits false

-- the object of slot 0 has 4 bits of value 0110, any other one unknown bit
abbrev at : ℕ → List Bit
at = value_in ((Zero ∷ One ∷ One ∷ Zero ∷ []) ∷ [])

-- 4'b1100 + 4'b0101 at 4 and 5 bits
sum_at_4 : value at 4 (Combined binary.Add (constant (Zero ∷ Zero ∷ One ∷ One ∷ [])) (constant (One ∷ Zero ∷ One ∷ Zero ∷ []))) ≡ One ∷ Zero ∷ Zero ∷ Zero ∷ []
sum_at_4 = refl

sum_at_5 : value at 5 (Combined binary.Add (constant (Zero ∷ Zero ∷ One ∷ One ∷ [])) (constant (One ∷ Zero ∷ One ∷ Zero ∷ []))) ≡ One ∷ Zero ∷ Zero ∷ Zero ∷ One ∷ []
sum_at_5 = refl

-- (4'b1000 + 4'b1000) >> 1 at 4 and 5 bits
shifted_sum_at_4 : value at 4 (Shifted shift.Right (Combined binary.Add (constant (Zero ∷ Zero ∷ Zero ∷ One ∷ [])) (constant (Zero ∷ Zero ∷ Zero ∷ One ∷ []))) (Constant (One ∷ []) true)) ≡ Zero ∷ Zero ∷ Zero ∷ Zero ∷ []
shifted_sum_at_4 = refl

shifted_sum_at_5 : value at 5 (Shifted shift.Right (Combined binary.Add (constant (Zero ∷ Zero ∷ Zero ∷ One ∷ [])) (constant (Zero ∷ Zero ∷ Zero ∷ One ∷ []))) (Constant (One ∷ []) true)) ≡ Zero ∷ Zero ∷ Zero ∷ One ∷ Zero ∷ []
shifted_sum_at_5 = refl

-- 1'bx ? 4'b0011 : 4'b0101
merged : own_value at (Conditional (constant (Unknown ∷ [])) (constant (One ∷ One ∷ Zero ∷ Zero ∷ [])) (constant (One ∷ Zero ∷ One ∷ Zero ∷ []))) ≡ One ∷ Unknown ∷ Unknown ∷ Zero ∷ []
merged = refl

-- 4'b1001 << 1'bx
shift_by_unknown : own_value at (Shifted shift.Left (constant (One ∷ Zero ∷ Zero ∷ One ∷ [])) (constant (Unknown ∷ []))) ≡ Unknown ∷ Unknown ∷ Unknown ∷ Unknown ∷ []
shift_by_unknown = refl

-- 4'b1001 >> 2'd1
shift_right : own_value at (Shifted shift.Right (constant (One ∷ Zero ∷ Zero ∷ One ∷ [])) (constant (One ∷ Zero ∷ []))) ≡ Zero ∷ Zero ∷ One ∷ Zero ∷ []
shift_right = refl

-- -4'd1
minus_one : own_value at (Applied unary.Minus (constant (One ∷ Zero ∷ Zero ∷ Zero ∷ []))) ≡ One ∷ One ∷ One ∷ One ∷ []
minus_one = refl

-- +4'bx1z0
plus_keeps_unknown : own_value at (Applied unary.Plus (constant (Zero ∷ HighImpedance ∷ One ∷ Unknown ∷ []))) ≡ Zero ∷ HighImpedance ∷ One ∷ Unknown ∷ []
plus_keeps_unknown = refl

-- {2{2'b10}}
twice : own_value at (Replicated 2 (Concatenated (constant (Zero ∷ One ∷ [])))) ≡ Zero ∷ One ∷ Zero ∷ One ∷ []
twice = refl

-- {2'b1x, 1'bz}
side_by_side : own_value at (Appended (Concatenated (constant (Unknown ∷ One ∷ []))) (constant (HighImpedance ∷ []))) ≡ HighImpedance ∷ Unknown ∷ One ∷ []
side_by_side = refl

-- &3'b0x1, |3'b0x1, ^3'b1x0 and ~&4'b1111
reduction_and : own_value at (Reduced reduction.And (constant (One ∷ Unknown ∷ Zero ∷ []))) ≡ Zero ∷ []
reduction_and = refl

reduction_or : own_value at (Reduced reduction.Or (constant (One ∷ Unknown ∷ Zero ∷ []))) ≡ One ∷ []
reduction_or = refl

reduction_xor : own_value at (Reduced reduction.Xor (constant (Zero ∷ Unknown ∷ One ∷ []))) ≡ Unknown ∷ []
reduction_xor = refl

reduction_nand : own_value at (Reduced reduction.Nand (constant (One ∷ One ∷ One ∷ One ∷ []))) ≡ Zero ∷ []
reduction_nand = refl

-- 4'b0011 < 4'b010x
less_unknown : own_value at (Compared comparison.Less (constant (One ∷ One ∷ Zero ∷ Zero ∷ [])) (constant (Unknown ∷ Zero ∷ One ∷ Zero ∷ []))) ≡ Unknown ∷ []
less_unknown = refl

-- 1'bx == 1'bx is x, and 1'bx === 1'bx is 1
unknown_equals_itself : own_value at (Compared comparison.Equal (constant (Unknown ∷ [])) (constant (Unknown ∷ []))) ≡ Unknown ∷ []
unknown_equals_itself = refl

unknown_case_equals_itself : own_value at (Compared comparison.CaseEqual (constant (Unknown ∷ [])) (constant (Unknown ∷ []))) ≡ One ∷ []
unknown_case_equals_itself = refl

-- 4'b1x00 == 4'b0x00
known_difference : own_value at (Compared comparison.Equal (constant (Zero ∷ Zero ∷ Unknown ∷ One ∷ [])) (constant (Zero ∷ Zero ∷ Unknown ∷ Zero ∷ []))) ≡ Zero ∷ []
known_difference = refl

-- 4'd8 - 4'd4 - 4'd2, whose left difference is an operand
difference_from_the_left : own_value at (Combined binary.Subtract (Combined binary.Subtract (constant (Zero ∷ Zero ∷ Zero ∷ One ∷ [])) (constant (Zero ∷ Zero ∷ One ∷ Zero ∷ []))) (constant (Zero ∷ One ∷ Zero ∷ Zero ∷ []))) ≡ Zero ∷ One ∷ Zero ∷ Zero ∷ []
difference_from_the_left = refl

-- 4'd8 - (4'd4 - 4'd2)
difference_from_the_right : own_value at (Combined binary.Subtract (constant (Zero ∷ Zero ∷ Zero ∷ One ∷ [])) (Combined binary.Subtract (constant (Zero ∷ Zero ∷ One ∷ Zero ∷ [])) (constant (Zero ∷ One ∷ Zero ∷ Zero ∷ [])))) ≡ Zero ∷ One ∷ One ∷ Zero ∷ []
difference_from_the_right = refl

-- 4'b0001 < 5'b10000, at 5 bits
wider_comparison : own_value at (Compared comparison.Less (constant (One ∷ Zero ∷ Zero ∷ Zero ∷ [])) (constant (Zero ∷ Zero ∷ Zero ∷ Zero ∷ One ∷ []))) ≡ One ∷ []
wider_comparison = refl

-- !4'b0x10, 4'b0x00 && 1'b0 and 4'b0x00 || 1'b0
truth_of_a_known_one : own_value at (Reduced reduction.LogicalNegation (constant (Zero ∷ One ∷ Unknown ∷ Zero ∷ []))) ≡ Zero ∷ []
truth_of_a_known_one = refl

both_truths : own_value at (Joined logical.And (constant (Zero ∷ Zero ∷ Unknown ∷ Zero ∷ [])) (constant (Zero ∷ []))) ≡ Zero ∷ []
both_truths = refl

either_truth : own_value at (Joined logical.Or (constant (Zero ∷ Zero ∷ Unknown ∷ Zero ∷ [])) (constant (Zero ∷ []))) ≡ Unknown ∷ []
either_truth = refl

-- the bit 3 of a reg [4:1] of value 0110, the bits 5 and 0, which it lacks, and the bit x
bit_in_range : own_value at (BitSelect 0 1 (constant (One ∷ One ∷ Zero ∷ []))) ≡ One ∷ []
bit_in_range = refl

bit_above : own_value at (BitSelect 0 1 (constant (One ∷ Zero ∷ One ∷ []))) ≡ Unknown ∷ []
bit_above = refl

bit_below : own_value at (BitSelect 0 1 (constant (Zero ∷ Zero ∷ Zero ∷ []))) ≡ Unknown ∷ []
bit_below = refl

bit_unknown : own_value at (BitSelect 0 1 (constant (One ∷ Unknown ∷ Zero ∷ []))) ≡ Unknown ∷ []
bit_unknown = refl

-- two bits of 0110 from place 1 on
part : own_value at (PartSelect 0 1 2) ≡ One ∷ One ∷ []
part = refl

-- 4'b1100 + 4'b0101 assigned to 4 and 5 bits, and 5'b10001 to 4
assigned_cut : assigned at 4 (Combined binary.Add (constant (Zero ∷ Zero ∷ One ∷ One ∷ [])) (constant (One ∷ Zero ∷ One ∷ Zero ∷ []))) ≡ One ∷ Zero ∷ Zero ∷ Zero ∷ []
assigned_cut = refl

assigned_wider : assigned at 5 (Combined binary.Add (constant (Zero ∷ Zero ∷ One ∷ One ∷ [])) (constant (One ∷ Zero ∷ One ∷ Zero ∷ []))) ≡ One ∷ Zero ∷ Zero ∷ Zero ∷ One ∷ []
assigned_wider = refl

assigned_narrower : assigned at 4 (constant (One ∷ Zero ∷ Zero ∷ Zero ∷ One ∷ [])) ≡ One ∷ Zero ∷ Zero ∷ Zero ∷ []
assigned_narrower = refl

-- a 1 written to the bit 4 of a reg [4:1] of value 0110, and to the bits 5 and x
bit_written : with_bit_at (at 0) 1 (Some 4) (One ∷ []) ≡ Zero ∷ One ∷ One ∷ One ∷ []
bit_written = refl

bit_written_above : with_bit_at (at 0) 1 (Some 5) (One ∷ []) ≡ Zero ∷ One ∷ One ∷ Zero ∷ []
bit_written_above = refl

bit_written_unknown : with_bit_at (at 0) 1 None (One ∷ []) ≡ Zero ∷ One ∷ One ∷ Zero ∷ []
bit_written_unknown = refl

-- 01 written to two bits of 0110 from place 1 on
part_written : with_part_at (at 0) 1 2 (One ∷ Zero ∷ []) ≡ Zero ∷ One ∷ Zero ∷ Zero ∷ []
part_written = refl

-- 1 + 1 is signed; 1 + 1'b1, {1} and 1 < 1 are not; 1 << 1'b1 is
signed_sum : is_signed (Combined binary.Add (Constant (One ∷ []) true) (Constant (One ∷ []) true)) ≡ true
signed_sum = refl

unsigned_sum : is_signed (Combined binary.Add (Constant (One ∷ []) true) (constant (One ∷ []))) ≡ false
unsigned_sum = refl

unsigned_braces : is_signed (Concatenated (Constant (One ∷ []) true)) ≡ false
unsigned_braces = refl

unsigned_comparison : is_signed (Compared comparison.Less (Constant (One ∷ []) true) (Constant (One ∷ []) true)) ≡ false
unsigned_comparison = refl

signed_shift : is_signed (Shifted shift.Left (Constant (One ∷ []) true) (constant (One ∷ []))) ≡ true
signed_shift = refl

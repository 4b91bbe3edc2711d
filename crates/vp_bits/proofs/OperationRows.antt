-- The definitions of operations at rows that are worked out by hand, bits least significant first.
use Rattle.std.proofs.Common.{◌≡◌, [], ◌∷◌, Some, None, true, false, refl}
use Rattle.vp_bits.specs.declared.bit.Bit.TheVariants.{Zero, One, Unknown, HighImpedance}
use Rattle.vp_bits.specs.Tables.{bitwise, and_bit, or_bit, xor_bit, merge_bit, negated, and_of_all, or_of_all, xor_of_all}
use Rattle.vp_bits.specs.Arithmetic.{number_of, bits_of_number, added, subtracted, multiplied}
use Rattle.vp_bits.specs.Comparing.{less, equal, case_equal, casez_matches}
use Rattle.vp_bits.specs.Shaping.{shifted_left, shifted_right, concatenated, repeated, selected, with_selected}

-- 4'b01xz & 1'bz in each place is 4'b0xxx
pub row-and : bitwise and_bit (HighImpedance ∷ Unknown ∷ One ∷ Zero ∷ []) (HighImpedance ∷ HighImpedance ∷ HighImpedance ∷ HighImpedance ∷ []) ≡ Unknown ∷ Unknown ∷ Unknown ∷ Zero ∷ []
row-and = refl

-- 4'b01xz | 4'b1111 is 4'b1111, and 4'b01xz | 4'b0000 is 4'b01xx
pub row-or_ones : bitwise or_bit (HighImpedance ∷ Unknown ∷ One ∷ Zero ∷ []) (One ∷ One ∷ One ∷ One ∷ []) ≡ One ∷ One ∷ One ∷ One ∷ []
row-or_ones = refl

pub row-or_zeros : bitwise or_bit (HighImpedance ∷ Unknown ∷ One ∷ Zero ∷ []) (Zero ∷ Zero ∷ Zero ∷ Zero ∷ []) ≡ Unknown ∷ Unknown ∷ One ∷ Zero ∷ []
row-or_zeros = refl

-- 4'b01xz ^ 4'b1111 is 4'b10xx
pub row-xor : bitwise xor_bit (HighImpedance ∷ Unknown ∷ One ∷ Zero ∷ []) (One ∷ One ∷ One ∷ One ∷ []) ≡ Unknown ∷ Unknown ∷ Zero ∷ One ∷ []
row-xor = refl

-- ~4'b01xz is 4'b10xx
pub row-not : negated (HighImpedance ∷ Unknown ∷ One ∷ Zero ∷ []) ≡ Unknown ∷ Unknown ∷ Zero ∷ One ∷ []
row-not = refl

-- 1'bx ? 4'b0011 : 4'b0101 is 4'b0xx1
pub row-merge : bitwise merge_bit (One ∷ One ∷ Zero ∷ Zero ∷ []) (One ∷ Zero ∷ One ∷ Zero ∷ []) ≡ One ∷ Unknown ∷ Unknown ∷ Zero ∷ []
row-merge = refl

-- &3'b0x1 is 0
pub row-reduce_and : and_of_all (One ∷ Unknown ∷ Zero ∷ []) ≡ Zero ∷ []
row-reduce_and = refl

-- &4'b1111 is 1
pub row-reduce_and_ones : and_of_all (One ∷ One ∷ One ∷ One ∷ []) ≡ One ∷ []
row-reduce_and_ones = refl

-- |3'b0x1 is 1
pub row-reduce_or : or_of_all (One ∷ Unknown ∷ Zero ∷ []) ≡ One ∷ []
row-reduce_or = refl

-- ^3'b1x0 is x
pub row-reduce_xor : xor_of_all (Zero ∷ Unknown ∷ One ∷ []) ≡ Unknown ∷ []
row-reduce_xor = refl

-- 4'b1100 is 12, and 4'b1x00 has no number
pub row-number_of : number_of (Zero ∷ Zero ∷ One ∷ One ∷ []) ≡ Some 12
row-number_of = refl

pub row-number_of_unknown : number_of (Zero ∷ Zero ∷ Unknown ∷ One ∷ []) ≡ None
row-number_of_unknown = refl

-- 4'b1100 + 4'b0101 is 4'b0001 in four bits
pub row-add : added (Zero ∷ Zero ∷ One ∷ One ∷ []) (One ∷ Zero ∷ One ∷ Zero ∷ []) ≡ One ∷ Zero ∷ Zero ∷ Zero ∷ []
row-add = refl

-- 5'b01100 + 5'b00101 is 5'b10001
pub row-add_wider : added (Zero ∷ Zero ∷ One ∷ One ∷ Zero ∷ []) (One ∷ Zero ∷ One ∷ Zero ∷ Zero ∷ []) ≡ One ∷ Zero ∷ Zero ∷ Zero ∷ One ∷ []
row-add_wider = refl

-- 2'b1x + 2'b01 is 2'bxx
pub row-add_unknown : added (Unknown ∷ One ∷ []) (One ∷ Zero ∷ []) ≡ Unknown ∷ Unknown ∷ []
row-add_unknown = refl

-- -4'd1, which is 4'd0 - 4'd1, is 4'b1111
pub row-sub : subtracted (Zero ∷ Zero ∷ Zero ∷ Zero ∷ []) (One ∷ Zero ∷ Zero ∷ Zero ∷ []) ≡ One ∷ One ∷ One ∷ One ∷ []
row-sub = refl

-- 4'd7 * 4'd3 is 4'd5, 21 modulo 16
pub row-mul : multiplied (bits_of_number 4 7) (bits_of_number 4 3) ≡ bits_of_number 4 5
row-mul = refl

-- 4'b0011 < 4'b010x is x
pub row-less_unknown : less (One ∷ One ∷ Zero ∷ Zero ∷ []) (Unknown ∷ Zero ∷ One ∷ Zero ∷ []) ≡ Unknown ∷ []
row-less_unknown = refl

-- 2'd1 < 2'd2 is 1, and 2'd2 < 2'd2 is 0
pub row-less : less (One ∷ Zero ∷ []) (Zero ∷ One ∷ []) ≡ One ∷ []
row-less = refl

pub row-less_same : less (Zero ∷ One ∷ []) (Zero ∷ One ∷ []) ≡ Zero ∷ []
row-less_same = refl

-- 1'bx == 1'bx is x
pub row-equal_x : equal (Unknown ∷ []) (Unknown ∷ []) ≡ Unknown ∷ []
row-equal_x = refl

-- 4'b1x00 == 4'b0x00 is 0
pub row-equal_differs : equal (Zero ∷ Zero ∷ Unknown ∷ One ∷ []) (Zero ∷ Zero ∷ Unknown ∷ Zero ∷ []) ≡ Zero ∷ []
row-equal_differs = refl

-- 4'b1x00 == 4'b1x00 is x
pub row-equal_unknown : equal (Zero ∷ Zero ∷ Unknown ∷ One ∷ []) (Zero ∷ Zero ∷ Unknown ∷ One ∷ []) ≡ Unknown ∷ []
row-equal_unknown = refl

-- 4'b1x00 === 4'b1x00 is 1
pub row-case_equal : case_equal (Zero ∷ Zero ∷ Unknown ∷ One ∷ []) (Zero ∷ Zero ∷ Unknown ∷ One ∷ []) ≡ One ∷ []
row-case_equal = refl

-- 4'b1x0z === 4'b1x0z is 1, and 1'bx === 1'bz is 0
pub row-case_equal_z : case_equal (HighImpedance ∷ Zero ∷ Unknown ∷ One ∷ []) (HighImpedance ∷ Zero ∷ Unknown ∷ One ∷ []) ≡ One ∷ []
row-case_equal_z = refl

pub row-case_equal_differs : case_equal (Unknown ∷ []) (HighImpedance ∷ []) ≡ Zero ∷ []
row-case_equal_differs = refl

-- in casez 4'b1z0x matches 4'b110x and 4'bzz0x, and not 4'b1100
pub row-casez : casez_matches (Unknown ∷ Zero ∷ HighImpedance ∷ One ∷ []) (Unknown ∷ Zero ∷ One ∷ One ∷ []) ≡ true
row-casez = refl

pub row-casez_either_side : casez_matches (Unknown ∷ Zero ∷ HighImpedance ∷ One ∷ []) (Unknown ∷ Zero ∷ HighImpedance ∷ HighImpedance ∷ []) ≡ true
row-casez_either_side = refl

pub row-casez_unknown : casez_matches (Unknown ∷ Zero ∷ HighImpedance ∷ One ∷ []) (Zero ∷ Zero ∷ One ∷ One ∷ []) ≡ false
row-casez_unknown = refl

-- 4'b1001 << 1'bx is 4'bxxxx
pub row-shl_unknown : shifted_left (One ∷ Zero ∷ Zero ∷ One ∷ []) (Unknown ∷ []) ≡ Unknown ∷ Unknown ∷ Unknown ∷ Unknown ∷ []
row-shl_unknown = refl

-- 4'b1001 >> 2'd1 is 4'b0100
pub row-shr : shifted_right (One ∷ Zero ∷ Zero ∷ One ∷ []) (One ∷ Zero ∷ []) ≡ Zero ∷ Zero ∷ One ∷ Zero ∷ []
row-shr = refl

-- (4'b1000 + 4'b1000) >> 1 is 4'b0000 in four bits and 5'b01000 in five
pub row-sum_shr : shifted_right (added (Zero ∷ Zero ∷ Zero ∷ One ∷ []) (Zero ∷ Zero ∷ Zero ∷ One ∷ [])) (One ∷ []) ≡ Zero ∷ Zero ∷ Zero ∷ Zero ∷ []
row-sum_shr = refl

pub row-sum_shr_wider : shifted_right (added (Zero ∷ Zero ∷ Zero ∷ One ∷ Zero ∷ []) (Zero ∷ Zero ∷ Zero ∷ One ∷ Zero ∷ [])) (One ∷ []) ≡ Zero ∷ Zero ∷ Zero ∷ One ∷ Zero ∷ []
row-sum_shr_wider = refl

-- 4'b1x01 << 1 is 4'bx010, and << 5 is 4'b0000
pub row-shl : shifted_left (One ∷ Zero ∷ Unknown ∷ One ∷ []) (One ∷ []) ≡ Zero ∷ One ∷ Zero ∷ Unknown ∷ []
row-shl = refl

pub row-shl_over : shifted_left (One ∷ Zero ∷ Unknown ∷ One ∷ []) (One ∷ Zero ∷ One ∷ []) ≡ Zero ∷ Zero ∷ Zero ∷ Zero ∷ []
row-shl_over = refl

-- {2'b1x, 1'bz} is 3'b1xz
pub row-concat : concatenated (Unknown ∷ One ∷ []) (HighImpedance ∷ []) ≡ HighImpedance ∷ Unknown ∷ One ∷ []
row-concat = refl

-- {2{2'b10}} is 4'b1010
pub row-replicate : repeated 2 (Zero ∷ One ∷ []) ≡ Zero ∷ One ∷ Zero ∷ One ∷ []
row-replicate = refl

-- the bits [2:1] of 4'b1x0z are 2'bx0
pub row-select : selected (HighImpedance ∷ Zero ∷ Unknown ∷ One ∷ []) 1 2 ≡ Zero ∷ Unknown ∷ []
row-select = refl

-- 4'b1x0z with 2'b01 in the bits [2:1] is 4'b101z
pub row-with_select : with_selected (HighImpedance ∷ Zero ∷ Unknown ∷ One ∷ []) 1 (One ∷ Zero ∷ []) ≡ HighImpedance ∷ One ∷ Zero ∷ One ∷ []
row-with_select = refl

-- Expressions as trees over objects: their sizes, their signs and their values in a context.
use Rattle.std.specs.Prelude.{ℕ, ◌+◌, ◌-◌, ◌*◌, ◌&&◌, max, nat_le, nat_lt, Bool, false, if◌then◌else◌, List, [], ◌∷◌, Option, Some, None, length, replicate}
use Rattle.vp_bits.specs.declared.bit.Bit.{Bit}
use Rattle.vp_bits.specs.declared.bit.Bit.TheVariants.{Zero, One, Unknown, HighImpedance}
use Rattle.vp_bits.specs.Vector.{resized}
use Rattle.vp_bits.specs.Tables.{and_bit, or_bit, xor_bit, merge_bit, bitwise, negated, and_of_all, or_of_all, truth, xor_of_all}
use Rattle.vp_bits.specs.Arithmetic.{number_of, added, subtracted, multiplied}
use Rattle.vp_bits.specs.Comparing.{less, equal, case_equal}
use Rattle.vp_bits.specs.Shaping.{concatenated, shifted_left, shifted_right, repeated, selected, with_selected}
use Rattle.vp_operand.specs.declared.operand.Unary.{Unary}
use Rattle.vp_operand.specs.declared.operand.Unary.TheVariants as unary
use Rattle.vp_operand.specs.declared.operand.Reduction.{Reduction}
use Rattle.vp_operand.specs.declared.operand.Reduction.TheVariants as reduction
use Rattle.vp_operand.specs.declared.operand.Binary.{Binary}
use Rattle.vp_operand.specs.declared.operand.Binary.TheVariants as binary
use Rattle.vp_operand.specs.declared.operand.Shift.{Shift}
use Rattle.vp_operand.specs.declared.operand.Shift.TheVariants as shift
use Rattle.vp_operand.specs.declared.operand.Comparison.{Comparison}
use Rattle.vp_operand.specs.declared.operand.Comparison.TheVariants as comparison
use Rattle.vp_operand.specs.declared.operand.Logical.{Logical}
use Rattle.vp_operand.specs.declared.operand.Logical.TheVariants as logical

-- an expression over the objects of an instance, each by its slot, how far it stands after the instance: an object, which has a
-- width; a constant with its sign; a bit of an object by its index, where the least significant bit has the lowest; a part of an
-- object from a place on; operators; concatenations (IEEE Std 1364-2005, 5)
pub data Term : Type 0 where
  Object : (slot width : ℕ) → Term
  Constant : (bits : List Bit) → (is_signed : Bool) → Term
  BitSelect : (slot lowest : ℕ) → Term → Term
  PartSelect : (slot place width : ℕ) → Term
  Applied : Unary → Term → Term
  Reduced : Reduction → Term → Term
  Combined : Binary → Term → Term → Term
  Shifted : Shift → Term → Term → Term
  Compared : Comparison → Term → Term → Term
  Joined : Logical → Term → Term → Term
  Conditional : (condition first second : Term) → Term
  Concatenated : Term → Term
  Appended : (list part : Term) → Term
  Replicated : (count : ℕ) → Term → Term

-- ---- sizes

-- the size of a term in bits (IEEE Std 1364-2005, 5.4.1, table 5-22)
abbrev pub size : Term → ℕ
size (Object slot width) = width
size (Constant bits is_signed) = length bits
size (BitSelect slot lowest index) = 1
size (PartSelect slot place width) = width
size (Applied o a) = size a
size (Reduced o a) = 1
size (Combined o a b) = max (size a) (size b)
size (Shifted o a b) = size a
size (Compared o a b) = 1
size (Joined o a b) = 1
size (Conditional c a b) = max (size a) (size b)
size (Concatenated a) = size a
size (Appended list a) = size list + size a
size (Replicated count list) = count * size list

-- ---- signs

-- a term is signed where each operand is that its context sizes (IEEE Std 1364-2005, 5.5.1)
abbrev pub is_signed : Term → Bool
is_signed (Object slot width) = false
is_signed (Constant bits s) = s
is_signed (BitSelect slot lowest index) = false
is_signed (PartSelect slot place width) = false
is_signed (Applied o a) = is_signed a
is_signed (Reduced o a) = false
is_signed (Combined o a b) = is_signed a && is_signed b
is_signed (Shifted o a b) = is_signed a
is_signed (Compared o a b) = false
is_signed (Joined o a b) = false
is_signed (Conditional c a b) = is_signed a && is_signed b
is_signed (Concatenated a) = false
is_signed (Appended list a) = false
is_signed (Replicated count list) = false

-- ---- operators on values

-- an operator of one operand (IEEE Std 1364-2005, 5.1.5 and 5.1.10)
abbrev pub applied : Unary → List Bit → List Bit
applied unary.Plus a = a
applied unary.Minus a = subtracted (replicate (length a) Zero) a
applied unary.Negation a = negated a

-- an operator whose value has one bit (IEEE Std 1364-2005, 5.1.9 and 5.1.11)
abbrev pub reduced : Reduction → List Bit → List Bit
reduced reduction.LogicalNegation a = negated (truth a ∷ [])
reduced reduction.And a = and_of_all a
reduced reduction.Nand a = negated (and_of_all a)
reduced reduction.Or a = or_of_all a
reduced reduction.Nor a = negated (or_of_all a)
reduced reduction.Xor a = xor_of_all a
reduced reduction.Xnor a = negated (xor_of_all a)

-- an operator of two operands of one size (IEEE Std 1364-2005, 5.1.5 and 5.1.10)
abbrev pub combined : Binary → List Bit → List Bit → List Bit
combined binary.Add a b = added a b
combined binary.Subtract a b = subtracted a b
combined binary.Multiply a b = multiplied a b
combined binary.And a b = bitwise and_bit a b
combined binary.Or a b = bitwise or_bit a b
combined binary.Xor a b = bitwise xor_bit a b
combined binary.Xnor a b = negated (bitwise xor_bit a b)

-- a shift (IEEE Std 1364-2005, 5.1.12)
abbrev pub shifted_by : Shift → List Bit → List Bit → List Bit
shifted_by shift.Left a b = shifted_left a b
shifted_by shift.Right a b = shifted_right a b

-- a comparison of operands of one size (IEEE Std 1364-2005, 5.1.7 and 5.1.8)
abbrev pub compared : Comparison → List Bit → List Bit → List Bit
compared comparison.Less a b = less a b
compared comparison.LessOrEqual a b = negated (less b a)
compared comparison.Greater a b = less b a
compared comparison.GreaterOrEqual a b = negated (less a b)
compared comparison.Equal a b = equal a b
compared comparison.Unequal a b = negated (equal a b)
compared comparison.CaseEqual a b = case_equal a b
compared comparison.CaseUnequal a b = negated (case_equal a b)

-- a logical operator on the truths of its operands (IEEE Std 1364-2005, 5.1.9)
abbrev pub joined : Logical → Bit → Bit → Bit
joined logical.And a b = and_bit a b
joined logical.Or a b = or_bit a b

-- the value of ?: by the truth of its condition (IEEE Std 1364-2005, 5.1.13)
abbrev pub chosen : Bit → List Bit → List Bit → List Bit
chosen One a b = a
chosen Zero a b = b
chosen Unknown a b = bitwise merge_bit a b
chosen HighImpedance a b = bitwise merge_bit a b

-- an index is one of a vector's whose least significant bit has the lowest (IEEE Std 1364-2005, 4.3.1)
abbrev pub has_index : List Bit → (lowest index : ℕ) → Bool
has_index bits lowest index = nat_le lowest index && nat_lt index (lowest + length bits)

-- the bit at an index; x where the index is unknown or out of range (IEEE Std 1364-2005, 5.2.1)
abbrev pub bit_at : List Bit → (lowest : ℕ) → Option ℕ → List Bit
bit_at bits lowest None = Unknown ∷ []
bit_at bits lowest (Some index) =
    if has_index bits lowest index then selected bits (index - lowest) 1 else Unknown ∷ []

-- the part from a place on; all x where it is not inside the vector (IEEE Std 1364-2005, 5.2.1)
abbrev pub part_at : List Bit → (place width : ℕ) → List Bit
part_at bits place width = if nat_le (place + width) (length bits) then selected bits place width else replicate width Unknown

-- ---- values

-- the value of a term in a context of a size, by the values of objects: what the context sizes is extended by zeros before its
-- operator is applied, and what sizes itself after it (IEEE Std 1364-2005, 5.4 and 5.5)
abbrev pub value : (ℕ → List Bit) → ℕ → Term → List Bit
value at n (Object slot width) = resized n (at slot)
value at n (Constant bits s) = resized n bits
value at n (BitSelect slot lowest i) = resized n (bit_at (at slot) lowest (number_of (value at (size i) i)))
value at n (PartSelect slot place width) = resized n (part_at (at slot) place width)
value at n (Applied o a) = applied o (value at n a)
value at n (Reduced o a) = resized n (reduced o (value at (size a) a))
value at n (Combined o a b) = combined o (value at n a) (value at n b)
value at n (Shifted o a b) = shifted_by o (value at n a) (value at (size b) b)
value at n (Compared o a b) =
    resized n (compared o (value at (max (size a) (size b)) a) (value at (max (size a) (size b)) b))
value at n (Joined o a b) =
    resized n (joined o (truth (value at (size a) a)) (truth (value at (size b) b)) ∷ [])
value at n (Conditional c a b) =
    chosen (truth (value at (size c) c)) (value at n a) (value at n b)
value at n (Concatenated a) = resized n (value at (size a) a)
value at n (Appended list a) =
    resized n (concatenated (value at (size list) list) (value at (size a) a))
value at n (Replicated count list) = resized n (repeated count (value at (size list) list))

-- the value of a term that sizes itself (IEEE Std 1364-2005, 5.4.1)
abbrev pub own_value : (ℕ → List Bit) → Term → List Bit
own_value at t = value at (size t) t

-- ---- assignments

-- the value that an assignment gives its target: the right side at the greater of both sizes, cut on the left (IEEE Std 1364-2005,
-- 5.4.1 and 5.6)
abbrev pub assigned : (ℕ → List Bit) → (target : ℕ) → Term → List Bit
assigned at target t = resized target (value at (max target (size t)) t)

-- the place of the bit at an index of a vector whose least significant bit has the lowest; none where the index is unknown or out
-- of range (IEEE Std 1364-2005, 5.2.1)
abbrev pub index_place : List Bit → (lowest : ℕ) → Option ℕ → Option ℕ
index_place bits lowest None = None
index_place bits lowest (Some index) = if has_index bits lowest index then Some (index - lowest) else None

-- what an assignment to the part from a place on leaves of a vector; the vector itself where the part is not inside it
-- (IEEE Std 1364-2005, 5.2.1)
abbrev pub with_part_at : List Bit → (place width : ℕ) → List Bit → List Bit
with_part_at bits place width part =
    if nat_le 1 width && nat_le (place + width) (length bits) then with_selected bits place (resized width part) else bits

-- a vector with the bits of another from a place on, if there is a place (clause 5.2.1)
abbrev pub set_in : List Bit → (place : Option ℕ) → (part : List Bit) → List Bit
set_in bits None part = bits
set_in bits (Some place) part = with_part_at bits place (length part) part

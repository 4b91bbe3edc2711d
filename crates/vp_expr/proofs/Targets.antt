-- What a target's bits are set to at the place that an assignment sets is what the assignment gives the object as a whole.
use Rattle.std.proofs.Common.{◌≡◌, ℕ, ◌≤◌, List, length, ap, arith}
use Rattle.vp_bits.specs.declared.bit.Bit.{Bit}
use Rattle.vp_bits.specs.Vector.{resized}
use Rattle.vp_bits.specs.Arithmetic.{number_of}
use Rattle.vp_expr.specs.declared.tables.Tables.{Tables}
use Rattle.vp_expr.specs.declared.tables.Target.{Target}
use Rattle.vp_expr.specs.declared.tables.Target.TheVariants as target
use Rattle.vp_operand.specs.Arena.{value_in}
use Rattle.vp_expr.specs.Evaluation.{own_eval, place_set, slot_of}
use Rattle.vp_operand.specs.laws.Terms.{length-resized}
use Rattle.vp_expr.specs.Tables.{target_width}
use Rattle.vp_operand.specs.Terms.{set_in, with_part_at}
use Rattle.vp_operand.proofs.Setting.{at_index, whole, with_bit_at}

-- what an assignment of a value gives the object of its target: all of it, or its value with a bit or a part set (clause 5.2.1)
abbrev pub given_to : Tables → List (List Bit) → Target → List Bit → List Bit
given_to tables values (target.Whole slot width) value = value
given_to tables values (target.Bit slot lowest index) value =
    with_bit_at (value_in values slot.0) lowest (number_of (own_eval tables values index)) value
given_to tables values (target.Part slot place width) value = with_part_at (value_in values slot.0) place width value

-- the object of a target has the width that the target says
abbrev pub IsWide : List (List Bit) → Target → Type 0
IsWide values (target.Whole slot width) = (1 ≤ width) × (length (value_in values slot.0) ≡ width)
IsWide values (target.Bit slot lowest index) = Unit {0}
IsWide values (target.Part slot place width) = Unit {0}

-- the bits of a target, set in its object at the place, are what the assignment gives the object
pub set_is_given : (tables : Tables) (values : List (List Bit)) (t : Target) (value : List Bit) → IsWide values t → set_in (value_in values (slot_of t)) (place_set tables values t) (resized (target_width t) value) ≡ given_to tables values t (resized (target_width t) value)
set_is_given tables values (target.Whole slot width) value h =
    let n = length-resized width value in
    let up = h.0 in
    let same = h.1 in
    whole (value_in values slot.0) (resized width value) (omega arith) (omega arith)
set_is_given tables values (target.Bit slot lowest index) value h =
    at_index (value_in values slot.0) lowest (number_of (own_eval tables values index)) (resized 1 value) (length-resized 1 value)
set_is_given tables values (target.Part slot place width) value h =
    ap (λ (n : ℕ). with_part_at (value_in values slot.0) place n (resized width value)) (length-resized width value)

-- The value of an expression of a design in an instance, from the values of the instance's objects: those of all objects from the
-- instance on.
use Rattle.std.specs.Prelude.{ℕ, List, Option, Some}
use Rattle.vp_bits.specs.declared.bit.Bit.{Bit}
use Rattle.vp_bits.specs.Arithmetic.{number_of}
use Rattle.vp_expr.specs.declared.tables.Tables.{Tables}
use Rattle.vp_expr.specs.declared.tables.Target.{Target}
use Rattle.vp_expr.specs.declared.tables.Target.TheVariants as target
use Rattle.vp_operand.specs.Arena.{term_at, value_at, value_in}
use Rattle.vp_operand.specs.Terms.{index_place, own_value}
use Rattle.vp_operand.specs.Ids.{Sized}

-- the value of an expression, by its place and the size of its context (clause 5.4); one unknown bit past the end
abbrev pub eval : Tables → List (List Bit) → Sized → List Bit
eval tables values e = value_at tables.operands values e.place e.size

-- the value of an expression that sizes itself, by its place (clause 5.4)
abbrev pub own_eval : Tables → List (List Bit) → ℕ → List Bit
own_eval tables values place = own_value (value_in values) (term_at tables.operands place)

-- the slot of the object of a target
abbrev pub slot_of : Target → ℕ
slot_of (target.Whole slot width) = slot.0
slot_of (target.Bit slot lowest index) = slot.0
slot_of (target.Part slot place width) = slot.0

-- the place of the lowest bit of its object that an assignment sets, where the least significant bit has place 0; none where no
-- bit is selected, as by an index that is unknown or out of range (clause 5.2.1)
abbrev pub place_set : Tables → List (List Bit) → Target → Option ℕ
place_set tables values (target.Whole slot width) = Some 0
place_set tables values (target.Bit slot lowest index) =
    index_place (value_in values slot.0) lowest (number_of (own_eval tables values index))
place_set tables values (target.Part slot place width) = Some place

-- What changes where an object is given a value, and where some of its bits are set.
use Rattle.std.specs.Prelude.{ℕ, if◌then◌else◌, List, length, slice_get, slice_set, Option, Some, None, option_and_then}
use Rattle.vp_bits.specs.declared.bit.Bit.{Bit}
use Rattle.vp_bits.specs.Vector.{resized, same_bits}
use Rattle.vp_elab.specs.declared.object.ObjectId.{ObjectId}
use Rattle.vp_expr.specs.declared.tables.Process.{Process}
use Rattle.vp_expr.specs.declared.tables.Process.TheVariants.{Procedure, Assignment, Connection}
use Rattle.vp_operand.specs.Terms.{set_in}
use Rattle.vp_expr.specs.declared.change.Change.{Change}

-- what changes where an object that has a value is given another: nothing, if that is the same at the object's width
-- (clauses 5.6 and 9.2.1)
abbrev pub change_of : ℕ → Option (List Bit) → List Bit → Option Change
change_of object None value = None
change_of object (Some old) value =
    if same_bits old (resized (length old) value)
    then None
    else Some (record { object = record { 0 = object }; value = resized (length old) value })

-- what changes where bits of an object that has a value are set from a place on, or none where there is no place (clauses 5.2.1 and
-- 9.2)
abbrev pub set_change_of : (object : ℕ) → Option (List Bit) → Option ℕ → (value : List Bit) → Option Change
set_change_of object None place value = None
set_change_of object (Some old) place value = change_of object (Some old) (set_in old place value)

-- the same by the values of all objects; a number that is no object changes nothing
abbrev pub set_change : List (List Bit) → (object : ℕ) → Option ℕ → (value : List Bit) → Option Change
set_change values object place value = set_change_of object (slice_get values object) place value

-- the values after a change
abbrev pub values_with : List (List Bit) → Option Change → List (List Bit)
values_with values None = values
values_with values (Some change) = slice_set values change.object.0 change.value

-- the net that a process drives; a procedure drives none (clauses 6.1 and 12.3.9.2)
abbrev pub net_of : Process → Option ObjectId
net_of (Procedure object instance repeats body) = None
net_of (Assignment object net instance value) = Some net
net_of (Connection port net) = Some net

-- the net that the process of a number drives
abbrev pub net_at : List Process → ℕ → Option ObjectId
net_at processes process = option_and_then net_of (slice_get processes process)

-- what the update of a net changes, if there is one (clause 11.2)
abbrev pub updated_by : List (List Bit) → Option ObjectId → List Bit → Option Change
updated_by values None value = None
updated_by values (Some net) value = change_of net.0 (slice_get values net.0) value

-- The objects that the names of a module name.
use Rattle.std.specs.Prelude.{ℕ, ◌-◌, slice_get, Option, Some, option_and_then}
use Rattle.std.specs.Option.{option_map_or, unwrap_or}
use Rattle.vp_source.specs.Places.{word_at}
use Rattle.vp_source.specs.declared.source.Module as declared
use Rattle.vp_elab.specs.Built.{Elaborated}
use Rattle.vp_elab.specs.Tree.{Node, find_in, first_of}
use Rattle.vp_operand.specs.declared.operand.Slot.{Slot}

-- the object in which the names of a module are looked up: its first, since a name has the same slot in each instance of a
-- module; none where the module has no object (clauses 12.1.2 and 12.5)
abbrev pub scope_of : Elaborated → declared.Module → Option ℕ
scope_of design m = first_of design.tree.nodes (word_at design.source m.name)

-- the object of the name at a place, by the object of the module in which it stands (clause 12.5)
abbrev pub object_named : Elaborated → (scope : Option ℕ) → (place : ℕ) → Option ℕ
object_named design scope place =
    option_and_then (λ s. find_in design.tree.nodes (Some s) (word_at design.source place)) scope

-- the node of the name at a place
abbrev pub node_named : Elaborated → (scope : Option ℕ) → (place : ℕ) → Option Node
node_named design scope place = option_and_then (slice_get design.tree.nodes) (object_named design scope place)

-- how far an object stands after the object of its module: in each instance of the module as far (clause 12.1.2)
abbrev pub slot_in : (scope : Option ℕ) → (object : ℕ) → Slot
slot_in scope object = record { 0 = object - unwrap_or scope 0 }

-- how many bits an object has; 0 where there is none
abbrev pub width_in : Elaborated → ℕ → ℕ
width_in design object = option_map_or (λ (n : Node). n.width) (slice_get design.tree.nodes object) 0

-- the index of the least significant bit of an object; 0 where it has none
abbrev pub lowest_in : Elaborated → ℕ → ℕ
lowest_in design object = unwrap_or (option_and_then (λ (n : Node). n.lowest) (slice_get design.tree.nodes object)) 0

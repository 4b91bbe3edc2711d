-- The constants of a design: the values that its localparams have in every state of it.
use Rattle.std.specs.Prelude.{ℕ, List, Option, option_and_then, replicate, slice_get}
use Rattle.std.specs.Option.{option_map_or}
use Rattle.vp_bits.specs.declared.bit.Bit.{Bit}
use Rattle.vp_bits.specs.declared.bit.Bit.TheVariants.{Unknown}
use Rattle.vp_bits.specs.Vector.{resized}
use Rattle.vp_source.specs.declared.expression.Expression.{Expression}
use Rattle.vp_source.specs.declared.expression.Expression.TheVariants as expression
use Rattle.vp_source.specs.Places.{word_at}
use Rattle.vp_source.specs.declared.source.Source.{Source}
use Rattle.vp_source.specs.declared.source.Item.{Item}
use Rattle.vp_source.specs.declared.source.Item.TheVariants as item
use Rattle.vp_elab.specs.Built.{Elaborated}
use Rattle.vp_elab.specs.Items.{node_item}
use Rattle.vp_elab.specs.Tree.{Node}
use Rattle.vp_operand.specs.Literals.{literal_bits}

-- so many bits of the value of a literal with a size; of any other expression so many x (clause 3.5.1)
abbrev pub literal_constant : Source → (width : ℕ) → Expression → List Bit
literal_constant source width (expression.Literal place size digits) =
    resized width (literal_bits size (word_at source digits))
literal_constant source width _ = replicate width Unknown

-- the constant of an item of so many bits: that of a localparam is the value of its literal; any other has so many x (clause 4.10.2)
abbrev pub item_constant : Source → (width : ℕ) → Item → List Bit
item_constant source width (item.LocalParameter name value) =
    option_map_or (literal_constant source width) (slice_get source.expressions value) (replicate width Unknown)
item_constant source width _ = replicate width Unknown

-- so many bits of the constant of what an object declares, by its item; so many x where there is none (clause 4.10.2)
abbrev pub constant_among : Source → (width : ℕ) → Option Item → List Bit
constant_among source width i = option_map_or (item_constant source width) i (replicate width Unknown)

-- the constant of an object, of as many bits as it has (clause 4.10.2)
abbrev pub constant_of : Elaborated → Node → List Bit
constant_of design node = constant_among design.source node.width (node_item design.source node)

-- so many bits of the constant of the object of a number (clause 4.10.2)
abbrev pub constant_at : Elaborated → (id width : ℕ) → List Bit
constant_at design id width =
    constant_among design.source width (option_and_then (node_item design.source) (slice_get design.tree.nodes id))

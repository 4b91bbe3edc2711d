-- What names are used for.
use Rattle.std.specs.Prelude.{Bool}
use Rattle.vp_source.specs.declared.source.Item.{Item}
use Rattle.vp_modules.specs.declared.operands.Purpose.{Purpose}
use Rattle.vp_modules.specs.declared.operands.Purpose.TheVariants as purpose
use Rattle.vp_modules.specs.Items.{is_operand, is_reg, is_signal}
use Rattle.vp_modules.specs.Refusals.{is_assignable}

-- an item is of use for a purpose
abbrev pub fits : Purpose → Item → Bool
fits purpose.Operand = is_operand
fits purpose.Variable = is_reg
fits purpose.Driven = is_assignable
fits purpose.Event = is_signal

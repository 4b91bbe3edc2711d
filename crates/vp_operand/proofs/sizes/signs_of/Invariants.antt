use Rattle.std.proofs.Common.{◌≡◌, map, take}
use Rattle.vp_operand.specs.Arena.{terms_of}
use Rattle.vp_operand.specs.Terms.{is_signed}
use Rattle.vp_operand.proofs.sizes.signs_of.Given as goal

-- the signs of the operands so far
abbrev pub invariant-loop-operand : goal.invariant-loop-operand
invariant-loop-operand l = l.signs.items ≡ map is_signed (terms_of (take l.operand-index l.operands))

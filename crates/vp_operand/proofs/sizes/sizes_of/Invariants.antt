use Rattle.vp_operand.proofs.Arenas.{AreFirst}
use Rattle.vp_operand.proofs.sizes.sizes_of.Given as goal

-- the sizes of the operands so far
abbrev pub invariant-loop-operand : goal.invariant-loop-operand
invariant-loop-operand l = AreFirst l.operands l.operand-index l.sizes.items

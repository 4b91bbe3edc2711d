use Rattle.std.proofs.Common.{◌≡◌, ◌++◌, drop, map}
use Rattle.vp_resolve.specs.Names.{scope_of}
use Rattle.vp_resolve.specs.Operands.{operand_of, operands_in}
use Rattle.vp_resolve.proofs.resolving.add_operands.Given as goal

-- the operands so far, and those of what is left of the module
abbrev pub invariant-loop-expression : goal.invariant-loop-expression
invariant-loop-expression l =
    l.operands.items ++ map (operand_of l.design (scope_of l.design l.fn.module)) (drop l.expression-index l.expression-items)
    ≡ l.fn.operands.items ++ operands_in l.design l.fn.module

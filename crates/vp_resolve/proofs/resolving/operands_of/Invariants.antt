use Rattle.std.proofs.Common.{◌≡◌, ◌++◌, drop}
use Rattle.std.specs.List.{flat_map}
use Rattle.vp_resolve.specs.Operands.{operands_in, operands_of}
use Rattle.vp_resolve.proofs.resolving.operands_of.Given as goal

-- the operands so far, and those of the modules that are left
abbrev pub invariant-loop-number : goal.invariant-loop-number
invariant-loop-number l =
    l.operands.items ++ flat_map (operands_in l.design) (drop l.number l.design.source.modules) ≡ operands_of l.design

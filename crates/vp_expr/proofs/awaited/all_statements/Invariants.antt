use Rattle.std.proofs.Common.{◌≡◌, ◌++◌, drop}
use Rattle.std.specs.List.{flat_map}
use Rattle.vp_modules.specs.Items.{statements_in}
use Rattle.vp_expr.specs.Awaits.{statements_of}
use Rattle.vp_expr.proofs.awaited.all_statements.Given as goal

-- the statements so far, and those of the modules that are left
abbrev pub invariant-loop-module : goal.invariant-loop-module
invariant-loop-module l =
    l.statements.items ++ flat_map (statements_in l.source) (drop l.module-index l.source.modules) ≡ statements_of l.source

use Rattle.std.proofs.Common.{◌≡◌, drop, map}
use Rattle.std.specs.List.{fold}
use Rattle.vp_expr.specs.Awaits.{awaited_by, awaits_in, laid_after, reads_in}
use Rattle.vp_resolve.specs.Names.{scope_of}
use Rattle.vp_expr.proofs.awaited.add_awaits.Given as goal

-- the changes so far, and after them those of the statements of the module that are left
abbrev pub invariant-loop-statement : goal.invariant-loop-statement
invariant-loop-statement l =
    let read = reads_in l.design.source l.operands l.statements in
    fold laid_after (l.awaits.awaited.items, l.awaits.ends.items)
    (map (awaited_by l.design (scope_of l.design l.fn.module) l.operands read) (drop l.statement-index l.statement-items))
    ≡ fold laid_after (l.fn.awaits.awaited.items, l.fn.awaits.ends.items) (awaits_in l.design l.operands read l.fn.module)

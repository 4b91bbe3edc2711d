use Rattle.std.proofs.Common.{◌≡◌, drop}
use Rattle.std.specs.List.{flat_map, fold}
use Rattle.vp_expr.specs.Awaits.{awaits_in, awaits_of, laid_after, laid_of, reads_of}
use Rattle.vp_expr.proofs.awaited.awaits_of.Given as goal

-- the changes so far, and after them those of the modules that are left
abbrev pub invariant-loop-number : goal.invariant-loop-number
invariant-loop-number l =
    fold laid_after (l.awaits.awaited.items, l.awaits.ends.items)
    (flat_map (awaits_in l.design l.operands (reads_of l.design.source l.operands)) (drop l.number l.module-items))
    ≡ laid_of (awaits_of l.design l.operands)

use Rattle.vp_resolve.proofs.Fitting.{AreWidths}
use Rattle.vp_expr.proofs.tables.widths_of.Given as goal

-- the widths of the objects so far
abbrev pub invariant-loop-object : goal.invariant-loop-object
invariant-loop-object l = AreWidths l.object-items l.object-index l.widths.items

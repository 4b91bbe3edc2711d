use Rattle.std.proofs.Common.{◌≡◌}
use Rattle.std.specs.List.{flat_map}
use Rattle.vp_elab.specs.Tree.{below}
use Rattle.vp_expr.specs.Origins.{origins_at}
use Rattle.vp_expr.specs.Tables.{processes_from}
use Rattle.vp_expr.proofs.process.processes_of.Given as goal

-- the processes of the objects so far
abbrev pub invariant-loop-id : goal.invariant-loop-id
invariant-loop-id l = l.processes.items ≡ processes_from l.design l.sizes (flat_map (origins_at l.design.source l.design.tree.nodes) (below l.id))

use Rattle.std.proofs.Common.{◌≡◌, ◌++◌, drop}
use Rattle.vp_expr.specs.Origins.{port_origins}
use Rattle.vp_expr.specs.Tables.{processes_from}
use Rattle.vp_expr.proofs.process.add_port_processes.Given as goal

-- the processes so far, before those of the ports that are left
abbrev pub invariant-loop-index : goal.invariant-loop-index
invariant-loop-index l =
    l.processes.items ++ processes_from l.design l.sizes (port_origins l.design.source l.design.tree.nodes l.placed.instance.0 l.placed.object.0 l.connections l.index (drop l.index l.ports))
    ≡ l.fn.processes.items ++ processes_from l.design l.sizes (port_origins l.design.source l.design.tree.nodes l.placed.instance.0 l.placed.object.0 l.connections 0 l.ports)

use Rattle.std.proofs.Common.{◌++◌, None, Option, ◌∙◌, ap}
use Rattle.vp_source.specs.declared.source.Direction.TheVariants as direction
use Rattle.vp_source.specs.declared.source.Item.TheVariants as item
use Rattle.vp_expr.specs.declared.tables.Process.{Process}
use Rattle.vp_expr.specs.Origins.{listed, port_origins}
use Rattle.vp_expr.specs.Tables.{processes_from}
use Rattle.vp_expr.proofs.PortSteps.{port_step}
use Rattle.vp_expr.proofs.process.add_port_processes.Goals as goal

pub loop-index-preserved : goal.loop-index-preserved
loop-index-preserved c =
    let d = c.args.design.now in
    let p = c.args.placed in
    let before = c.loop-index.processes.items in
    port_step d c.args.sizes.now p.instance.0 p.object.0 c.args.connections.now c.ports_of-ports.result.now c.loop-index.index (item.Port 0 direction.Input None)
    before c.add_process.new.processes.items
    (c.args.processes.now.items ++ processes_from d c.args.sizes.now (port_origins d.source d.tree.nodes p.instance.0 p.object.0 c.args.connections.now 0 c.ports_of-ports.result.now))
    c.loop-index-test.true (c.in_ok-add_process.ensures ∙ ap (λ (o : Option Process). before ++ listed o) c.process_at_port-process.ensures) c.loop-index.invariant

use Rattle.std.proofs.Common.{◌++◌, List, ap, sym, ◌∙◌}
use Rattle.std.specs.List.{flat_map}
use Rattle.std.proofs.lemmas.List.Elements.{filter_map-append}
use Rattle.vp_elab.specs.Tree.{below}
use Rattle.vp_expr.specs.declared.tables.Process.{Process}
use Rattle.vp_expr.specs.Origins.{Origin, origins_at}
use Rattle.vp_expr.specs.Tables.{process_of, processes_from}
use Rattle.vp_expr.proofs.PortSteps.{flat_map_below}
use Rattle.vp_expr.proofs.process.processes_of.Goals as goal

pub loop-id-preserved : goal.loop-id-preserved
loop-id-preserved c =
    let d = c.args.design.now in
    let sizes = c.args.sizes.now in
    let own = origins_at d.source d.tree.nodes in
    let id = c.loop-id.id in
    c.in_ok-add_processes.ensures ∙ ap (λ (xs : List Process). xs ++ processes_from d sizes (own id)) c.loop-id.invariant
    ∙ sym (filter_map-append (process_of d sizes) (flat_map own (below id)) (own id))
    ∙ ap (λ (os : List Origin). processes_from d sizes os) (sym (flat_map_below own id))

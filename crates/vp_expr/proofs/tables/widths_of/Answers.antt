use Rattle.std.proofs.Common.{◌∙◌, Some, ap, sym}
use Rattle.vp_operand.specs.Arena.{fitting, is_width}
use Rattle.vp_operand.proofs.Arenas.{not_fitted}
use Rattle.vp_resolve.proofs.Fitting.{objects_unfit, widths_all, widths_more}
use Rattle.vp_expr.proofs.tables.widths_of.Goals as goal

pub returns-in_default : goal.returns-in_default
returns-in_default c =
    let bad = not_fitted (is_width c.from.result) c.from.result (sym c.in_default.is ∙ c.fitted.ensures) in
    sym (objects_unfit c.objects-object-items.result.now c.loop-object.object-index _ c.loop-object-test.true (ap is_width (sym c.from.ensures) ∙ bad))
    ∙ ap fitting c.objects-object-items.ensures.widths

pub loop-object-preserved : goal.loop-object-preserved
loop-object-preserved c =
    rw c.in_ok-push.ensures.items
    (widths_more c.objects-object-items.result.now c.loop-object.object-index _ c.loop-object.widths.items c.from.result c.fitted.result c.in-Some.width c.loop-object-test.true c.loop-object.invariant c.from.ensures c.fitted.ensures c.in-Some.is)

pub returns : goal.returns
returns c =
    ap Some c.from_vec.ensures
    ∙ widths_all c.objects-object-items.result.now c.loop-object.object-index c.loop-object.widths.items c.loop-object-test.false c.loop-object.invariant
    ∙ ap fitting c.objects-object-items.ensures.widths

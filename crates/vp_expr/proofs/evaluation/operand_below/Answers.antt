use Rattle.std.proofs.Common.{◌≡◌, List, Some, subst}
use Rattle.std.specs.Prelude.{slice_get, IfSome}
use Rattle.vp_operand.specs.declared.operand.Operand.{Operand}
use Rattle.vp_operand.proofs.Arenas.{found_fits}
use Rattle.vp_expr.proofs.evaluation.operand_below.Goals as goal

pub returns-clause-fits : goal.returns-clause-fits
returns-clause-fits c =
    let t = c.args.tables.now in
    found_fits t.operands t.sizes c.args.place c.operand_before.result c.requires
    (subst (λ (os : List Operand). IfSome c.operand_before.result (λ o. Some o ≡ slice_get os c.args.place)) c.as_slice.ensures c.operand_before.ensures.found)

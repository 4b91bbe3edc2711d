use Rattle.std.proofs.Common.{◌≡◌, ◌∙◌, Some, ap, sym}
use Rattle.vp_operand.specs.Arena.{fitting, sizes_in}
use Rattle.vp_expr.specs.Awaits.{awaits_of, laid_of}
use Rattle.vp_expr.specs.Tables.{actions_of, processes_of}
use Rattle.vp_resolve.specs.Operands.{widths_of}
use Rattle.vp_expr.proofs.Sized.{design_fits, tables_checked}
use Rattle.vp_expr.proofs.tables.tables_of.Goals as goal
use Rattle.vp_expr.proofs.tables.tables_of.Goals.{After-from_vec-2}

-- the widths are those of the design, which fit
wide : (c : After-from_vec-2) → fitting (widths_of c.args.design.now) ≡ Some c.in-Some.widths
wide c = sym c.in_ok-widths.ensures ∙ c.in-Some.is

-- the sizes are those of the operands, which fit
sized : (c : After-from_vec-2) → fitting (sizes_in c.args.operands) ≡ Some c.in-Some-2.sizes
sized c = ap (λ os. fitting (sizes_in os)) (sym c.as_slice.ensures) ∙ sym c.in_ok-sizes.ensures ∙ c.in-Some-2.is

pub returns-clause-tables : goal.returns-clause-tables
returns-clause-tables c =
    tables_checked c.args.design.now c.args.operands c.in-Some.widths c.in-Some-2.sizes c.requires.operands (wide c) (sized c) _ _
    _ _
    (c.in_ok-actions.ensures ∙ ap (actions_of c.args.design.now) c.as_slice-2.ensures)
    (c.in_ok-processes.ensures ∙ ap (processes_of c.args.design.now) c.as_slice-3.ensures)
    (rw (c.from_vec.ensures, c.from_vec-2.ensures) (c.in_ok-awaits.ensures ∙ ap (λ os. laid_of (awaits_of c.args.design.now os)) c.as_slice-4.ensures))
    c.requires.accepted

pub returns-clause-fit : goal.returns-clause-fit
returns-clause-fit c = design_fits c.args.design.now c.args.operands c.in-Some.widths c.in-Some-2.sizes c.requires.operands (wide c) (sized c)

use Rattle.std.proofs.Common.{◌∙◌, sym, ap}
use Rattle.std.specs.List.{list_all}
use Rattle.vp_expr.specs.declared.tables.Tables.{Tables}
use Rattle.vp_operand.specs.Arena.{is_width}
use Rattle.vp_expr.specs.Tables.{tables_of}
use Rattle.vp_resolve.proofs.Fitting.{object_fits}
use Rattle.vp_expr.proofs.checked.Checked.objects.Goals as goal

pub returns-clause-fit : goal.returns-clause-fit
unfolding tables_of
returns-clause-fit c = λ i d h.
    object_fits c.objects.result.now i d h
    (ap (list_all is_width) (c.objects.ensures.widths ∙ sym (ap (λ (t : Tables). t.widths) c.self.invariant.tables_are))
    ∙ c.self.invariant.wide)

use Rattle.std.proofs.Common.{◌≡◌, ◌∙◌, true, ap, sym, subst}
use Rattle.std.specs.List.{list_all}
use Rattle.vp_operand.specs.Arena.{is_width}
use Rattle.vp_resolve.specs.Operands.{sizes_of, widths_of}
use Rattle.vp_expr.specs.declared.tables.Tables.{Tables}
use Rattle.vp_expr.specs.Resolved.{NamesAreFound, StatementsAreActions}
use Rattle.vp_expr.specs.Tables.{tables_of}
use Rattle.vp_expr.proofs.Resolving.{names_found, statements_there}
use Rattle.vp_expr.proofs.checked.Checked.nothing_is_lost.Goals as goal

pub returns-clause-names : goal.returns-clause-names
returns-clause-names c =
    subst NamesAreFound c.self.view_is
    (names_found c.self.inside.design c.modules_are_right.ensures c.items_are_found.ensures)

pub returns-clause-statements : goal.returns-clause-statements
unfolding tables_of
returns-clause-statements c =
    let checked = c.self.invariant in
    let wide : list_all is_width (widths_of c.self.inside.design) ≡ true = sym (ap (λ (s : Tables). list_all is_width s.widths) checked.tables_are) ∙ checked.wide in
    let fit : list_all is_width (sizes_of c.self.inside.design) ≡ true = sym (ap (λ (s : Tables). list_all is_width s.sizes) checked.tables_are) ∙ checked.fit in
    subst StatementsAreActions c.self.view_is
    (statements_there c.self.inside.design wide fit checked.accepted
    (names_found c.self.inside.design c.modules_are_right.ensures c.items_are_found.ensures))

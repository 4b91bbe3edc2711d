use Rattle.std.proofs.Common.{◌∙◌, ℕ, ap}
use Rattle.vp_expr.specs.declared.tables.Tables.{Tables}
use Rattle.vp_operand.specs.Arena.{term_below, value_in}
use Rattle.vp_expr.specs.Evaluation.{own_eval}
use Rattle.vp_operand.specs.Terms.{Term, own_value}
use Rattle.vp_operand.proofs.Arenas.{term_whole}
use Rattle.vp_expr.proofs.Sized.{tables_sized}
use Rattle.vp_expr.proofs.evaluation.own_eval.Goals as goal

pub returns : goal.returns
returns c =
    let t = c.tables-tables.result.now in
    let v = c.args.values.now in
    c.own_value.ensures.value
    ∙ ap (λ (n : ℕ). own_value (value_in v) (term_below t.operands n c.args.place)) c.len.ensures
    ∙ ap (λ (x : Term). own_value (value_in v) x) (term_whole t.operands c.args.place)
    ∙ ap (λ (x : Tables). own_eval x v c.args.place) c.tables-tables.ensures.tables

pub own_value-requires : goal.own_value-requires
own_value-requires c =
    tables_sized c.args.checked.now c.tables-tables.result.now c.tables-tables.ensures.tables c.tables-tables.ensures.fit

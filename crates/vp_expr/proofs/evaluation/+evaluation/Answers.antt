use Rattle.std.proofs.Common.{◌∙◌, ap, length}
use Rattle.vp_operand.specs.Arena.{term_made, value_in}
use Rattle.vp_operand.specs.laws.Terms.{length-value}
use Rattle.vp_expr.proofs.evaluation.+evaluation.Goals as goal

pub value_below-returns-in-Some-clause-width : goal.value_below-returns-in-Some-clause-width
value_below-returns-in-Some-clause-width t c =
    ap length c.value_of.ensures
    ∙ length-value (value_in c.args.values.now) c.args.context (term_made c.args.tables.now.operands c.args.place c.in-Some.operand)

use Rattle.vp_parse_expr.proofs.Read.{expression_found, expression_none}
use Rattle.vp_parse_expr.proofs.parsing.expression.Goals as goal

pub returns-clause-found : goal.returns-clause-found
returns-clause-found c = expression_found c.args.depth c.args.expressions.now.items c.args.symbols.now _ c.expression_at.result c.expression_at.ensures.read

pub returns-clause-none : goal.returns-clause-none
returns-clause-none c = expression_none c.args.depth c.args.expressions.now.items c.args.symbols.now _ c.expression_at.result c.expression_at.ensures.read

use Rattle.vp_parse_expr.proofs.Read.{selection_found, selection_none}
use Rattle.vp_parse_expr.proofs.parsing.selection.Goals as goal

pub returns-clause-found : goal.returns-clause-found
returns-clause-found c = selection_found c.args.depth c.args.expressions.now.items c.args.symbols.now _ c.select.result c.select.ensures.read

pub returns-clause-none : goal.returns-clause-none
returns-clause-none c = selection_none c.args.depth c.args.expressions.now.items c.args.symbols.now _ c.select.result c.select.ensures.read

use Rattle.vp_parse_expr.proofs.Read.{literal_found, literal_none}
use Rattle.vp_parse_expr.proofs.parsing.literal.Goals as goal

pub returns-clause-found : goal.returns-clause-found
returns-clause-found c = literal_found c.args.expressions.now.items c.args.symbols.now _ c.literal_at.result c.literal_at.ensures.read

pub returns-clause-none : goal.returns-clause-none
returns-clause-none c = literal_none c.args.expressions.now.items c.args.symbols.now _ c.literal_at.result c.literal_at.ensures.read

use Rattle.vp_parse_expr.proofs.Read.{range_found, range_none}
use Rattle.vp_parse_expr.proofs.bounds.range.Goals as goal

pub returns-clause-found : goal.returns-clause-found
returns-clause-found c = range_found c.args.symbols.now _ c.bounds.result c.bounds.ensures.read

pub returns-clause-none : goal.returns-clause-none
returns-clause-none c = range_none c.args.symbols.now _ c.bounds.result c.bounds.ensures.read c.bounds.ensures.told

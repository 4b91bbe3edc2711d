use Rattle.vp_parse_stmt.specs.Placing.{lists_in}
use Rattle.vp_parse_stmt.proofs.Read.{statement_found, statement_none}
use Rattle.vp_parse_stmt.proofs.parsing.statement.Goals as goal

pub returns-clause-found : goal.returns-clause-found
returns-clause-found c = statement_found c.args.limit c.args.depth (lists_in c.args.arena.now) c.args.symbols.now _ c.statement_at.result c.statement_at.ensures.read

pub returns-clause-none : goal.returns-clause-none
returns-clause-none c = statement_none c.args.limit c.args.depth (lists_in c.args.arena.now) c.args.symbols.now _ c.statement_at.result c.statement_at.ensures.read

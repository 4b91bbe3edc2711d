use Rattle.std.proofs.Common.{◌≤◌, length}
use Rattle.vp_parse_stmt.specs.Placing.{stmt_into}
use Rattle.vp_parse.specs.Weight.{weight}
use Rattle.vp_parse.specs.Placing.{lists_in, items_into}
use Rattle.vp_parse.proofs.Loops.{ItemsGoOn}
use Rattle.vp_parse.proofs.items.items.Given as goal

abbrev pub invariant-loop-arena : goal.invariant-loop-arena
invariant-loop-arena l = record {
  lighter : weight l.arena l.rest ≤ weight l.initial.arena l.symbols;
  no_longer : length l.rest ≤ length l.symbols;
  goes_on : ItemsGoOn l.limit (stmt_into l.limit l.limit) (lists_in l.arena) l.rest (items_into l.limit (stmt_into l.limit l.limit) (length l.symbols) (lists_in l.initial.arena) l.symbols);
}

abbrev pub decreases-loop-arena : goal.decreases-loop-arena
decreases-loop-arena l = length l.rest

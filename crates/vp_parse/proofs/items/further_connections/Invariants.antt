use Rattle.std.proofs.Common.{◌≤◌, length}
use Rattle.vp_parse.specs.Weight.{weight}
use Rattle.vp_parse.specs.Placing.{connection_into, further_into, lists_in}
use Rattle.vp_parse.proofs.Loops.{FurtherGoesOn}
use Rattle.vp_parse.proofs.items.further_connections.Given as goal

abbrev pub invariant-loop-rest : goal.invariant-loop-rest
invariant-loop-rest l = record {
  lighter : weight l.arena l.rest ≤ weight l.initial.arena l.symbols;
  no_longer : length l.rest ≤ length l.symbols;
  goes_on : FurtherGoesOn (connection_into l.limit l.by_name) (lists_in l.arena) l.rest (further_into (connection_into l.limit l.by_name) (length l.symbols) (lists_in l.initial.arena) l.symbols);
}

abbrev pub decreases-loop-rest : goal.decreases-loop-rest
decreases-loop-rest l = length l.rest

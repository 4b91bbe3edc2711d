use Rattle.std.proofs.Common.{◌≤◌, length}
use Rattle.vp_parse.specs.Weight.{weight}
use Rattle.vp_parse.specs.Placing.{lists_in, ports_into, type_shown}
use Rattle.vp_parse.proofs.Loops.{PortsGoOn}
use Rattle.vp_parse.proofs.ports.further_ports.Given as goal

abbrev pub invariant-loop-before : goal.invariant-loop-before
invariant-loop-before l = record {
  lighter : weight l.arena l.rest ≤ weight l.initial.arena l.symbols;
  no_longer : length l.rest ≤ length l.symbols;
  goes_on : PortsGoOn (type_shown l.before) (lists_in l.arena) l.rest (ports_into (type_shown l.fn.first) (length l.symbols) (lists_in l.initial.arena) l.symbols);
}

abbrev pub decreases-loop-before : goal.decreases-loop-before
decreases-loop-before l = length l.rest

use Rattle.std.proofs.Common.{◌≤◌, [], length}
use Rattle.vp_parse.specs.Weight.{weight}
use Rattle.vp_parse.specs.Placing.{lists_in, modules_into}
use Rattle.vp_parse.proofs.Loops.{ModulesGoOn}
use Rattle.vp_parse.proofs.parsing.modules.Given as goal

abbrev pub invariant-loop-rest : goal.invariant-loop-rest
invariant-loop-rest l = record {
  lighter : weight l.arena l.rest ≤ weight l.initial.arena l.symbols;
  goes_on : ModulesGoOn l.limit l.modules.items (lists_in l.arena) l.rest (modules_into l.limit (length l.symbols) [] (lists_in l.initial.arena) l.symbols);
}

abbrev pub decreases-loop-rest : goal.decreases-loop-rest
decreases-loop-rest l = length l.rest

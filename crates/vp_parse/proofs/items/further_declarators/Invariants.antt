use Rattle.std.proofs.Common.{◌≤◌, length}
use Rattle.vp_parse.specs.Weight.{weight}
use Rattle.vp_parse.specs.Placing.{declarator_into, further_into, lists_in}
use Rattle.vp_parse.proofs.Loops.{FurtherGoesOn}
use Rattle.vp_parse.proofs.items.further_declarators.Given as goal

abbrev pub invariant-loop-declaration : goal.invariant-loop-declaration
invariant-loop-declaration l = record {
  lighter : weight l.arena l.rest ≤ weight l.initial.arena l.symbols;
  no_longer : length l.rest ≤ length l.symbols;
  goes_on : FurtherGoesOn (declarator_into l.limit l.declaration) (lists_in l.arena) l.rest (further_into (declarator_into l.limit l.declaration) (length l.symbols) (lists_in l.initial.arena) l.symbols);
}

abbrev pub decreases-loop-declaration : goal.decreases-loop-declaration
decreases-loop-declaration l = length l.rest

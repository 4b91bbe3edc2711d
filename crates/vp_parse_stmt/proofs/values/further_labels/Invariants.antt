use Rattle.std.proofs.Common.{◌+◌, ◌≤◌, length}
use Rattle.std.specs.Prelude.{vec_len}
use Rattle.vp_parse_stmt.specs.Weight.{weight}
use Rattle.vp_parse_stmt.specs.Placing.{lists_in, further_labels_into}
use Rattle.vp_parse_stmt.proofs.Loops.{LabelsGoOn}
use Rattle.vp_parse_stmt.proofs.values.further_labels.Given as goal

abbrev pub invariant-loop-arena : goal.invariant-loop-arena
invariant-loop-arena l = record {
  lighter : weight l.arena l.rest + vec_len l.labels ≤ weight l.initial.arena l.symbols + vec_len l.initial.labels;
  no_heavier : weight l.arena l.rest ≤ weight l.initial.arena l.symbols;
  no_longer : length l.rest ≤ length l.symbols;
  goes_on : LabelsGoOn l.limit l.labels.items (lists_in l.arena) l.rest (further_labels_into l.limit (length l.symbols) l.initial.labels.items (lists_in l.initial.arena) l.symbols);
}

abbrev pub decreases-loop-arena : goal.decreases-loop-arena
decreases-loop-arena l = length l.rest

use Rattle.std.proofs.Common.{◌≡◌, ◌+◌, ◌++◌, drop}
use Rattle.std.specs.Prelude.{vec_len}
use Rattle.vp_source.specs.StmtLayout.{choices_of}
use Rattle.vp_parse_stmt.proofs.values.add_choices_of.Given as goal

abbrev pub invariant-loop-label : goal.invariant-loop-label
invariant-loop-label l = record {
  len : vec_len l.choices ≡ vec_len l.fn.choices + l.label-index;
  added : l.choices.items ++ choices_of (drop l.label-index l.labels) l.body ≡ l.fn.choices.items ++ choices_of l.fn.labels l.fn.body;
}

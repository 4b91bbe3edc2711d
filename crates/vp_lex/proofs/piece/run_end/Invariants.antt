use Rattle.std.proofs.Common.{◌≡◌, ◌+◌, ◌-◌, ◌≤◌, length, drop, take_while}
use Rattle.vp_lex.specs.Scanning.{class_test}
use Rattle.vp_lex.proofs.piece.run_end.Given as goal

abbrev pub invariant-loop-end : goal.invariant-loop-end
invariant-loop-end l = record {
  within : l.end ≤ length l.bytes;
  so_far : l.start + length (take_while (class_test l.class) (drop l.start l.bytes)) ≡ l.end + length (take_while (class_test l.class) (drop l.end l.bytes));
}

abbrev pub decreases-loop-end : goal.decreases-loop-end
decreases-loop-end l = length l.bytes - l.end

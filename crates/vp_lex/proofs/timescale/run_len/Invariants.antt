use Rattle.std.proofs.Common.{◌≡◌, ◌+◌, ◌-◌, ◌≤◌, length, drop, take_while}
use Rattle.vp_lex.specs.Timescales.{is_on}
use Rattle.vp_lex.proofs.timescale.run_len.Given as goal

abbrev pub invariant-loop-end : goal.invariant-loop-end
invariant-loop-end l = record {
  within : l.end ≤ length l.tokens;
  so_far : length (take_while (is_on l.line) l.tokens) ≡ l.end + length (take_while (is_on l.line) (drop l.end l.tokens));
}

abbrev pub decreases-loop-end : goal.decreases-loop-end
decreases-loop-end l = length l.tokens - l.end

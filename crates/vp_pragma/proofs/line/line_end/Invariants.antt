use Rattle.std.proofs.Common.{◌≡◌, ◌+◌, drop}
use Rattle.std.specs.List.{prefix_len}
use Rattle.vp_pragma.specs.Pragmas.{is_on}
use Rattle.vp_pragma.proofs.line.line_end.Given as goal

abbrev pub invariant-loop-place : goal.invariant-loop-place
invariant-loop-place l =
    l.place + prefix_len (is_on l.line) (drop l.place l.tokens) ≡ l.from + prefix_len (is_on l.line) (drop l.from l.tokens)

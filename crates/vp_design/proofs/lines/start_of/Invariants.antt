use Rattle.std.proofs.Common.{◌≡◌, ◌+◌, ◌-◌, drop}
use Rattle.vp_design.specs.Lines.{after_newlines}
use Rattle.vp_design.proofs.lines.start_of.Given as goal

abbrev pub invariant-loop-at : goal.invariant-loop-at
invariant-loop-at l = after_newlines (l.fn.number - 1) l.bytes ≡ l.at + after_newlines l.missing (drop l.at l.bytes)

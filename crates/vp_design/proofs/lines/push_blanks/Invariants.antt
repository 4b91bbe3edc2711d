use Rattle.std.proofs.Common.{◌≡◌, ◌++◌, string_bytes, take}
use Rattle.vp_design.specs.Lines.{blanks}
use Rattle.vp_design.proofs.lines.push_blanks.Given as goal

abbrev pub invariant-loop-byte : goal.invariant-loop-byte
invariant-loop-byte l = string_bytes l.text ≡ string_bytes l.initial.text ++ blanks (take l.byte-index l.byte-items)

use Rattle.std.proofs.Common.{◌≡◌, false, drop}
use Rattle.vp_lex.specs.Cutting.{string_front}
use Rattle.vp_lex.specs.Scanning.{end_of}
use Rattle.vp_lex.proofs.piece.string_end.Given as goal

abbrev pub invariant-loop-i : goal.invariant-loop-i
invariant-loop-i l = end_of l.start (string_front false (drop l.start l.bytes)) ≡ end_of l.i (string_front l.escaped (drop l.i l.bytes))

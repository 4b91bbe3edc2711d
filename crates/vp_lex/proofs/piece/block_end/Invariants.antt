use Rattle.std.proofs.Common.{◌≡◌, false, drop}
use Rattle.vp_lex.specs.Cutting.{block_front}
use Rattle.vp_lex.specs.Scanning.{end_of}
use Rattle.vp_lex.proofs.piece.block_end.Given as goal

abbrev pub invariant-loop-at : goal.invariant-loop-at
invariant-loop-at l = end_of l.start (block_front false (drop l.start l.bytes)) ≡ end_of l.at (block_front l.starred (drop l.at l.bytes))

use Rattle.std.proofs.Common.{◌≡◌, drop}
use Rattle.vp_lex.specs.Words.{found_in}
use Rattle.vp_lex.proofs.keyword.beside.Given as goal

abbrev pub invariant-loop-entry : goal.invariant-loop-entry
invariant-loop-entry l = found_in l.table l.word ≡ found_in (drop l.entry-index l.table) l.word

use Rattle.std.proofs.Common.{◌≡◌, drop, map}
use Rattle.vp_lex.specs.Texts.{text_of}
use Rattle.vp_lex.specs.Timescales.{are_same}
use Rattle.vp_lex.proofs.timescale.are_same.Given as goal

abbrev pub invariant-loop-i : goal.invariant-loop-i
invariant-loop-i l = are_same (map (text_of l.text) l.some) (map (text_of l.text) l.others) ≡ are_same (map (text_of l.text) (drop l.i l.some)) (map (text_of l.text) (drop l.i l.others))

use Rattle.std.proofs.Common.{◌≡◌, drop, map, None}
use Rattle.std.specs.Prelude.{option_map}
use Rattle.vp_lex.specs.Texts.{text_of}
use Rattle.vp_lex.proofs.TimescaleLaws.{differing_after}
use Rattle.vp_lex.proofs.timescale.differing_line.Given as goal

abbrev pub invariant-loop-i : goal.invariant-loop-i
invariant-loop-i l = differing_after None l.text l.limit 0 l.tokens ≡ differing_after (option_map (λ run. map (text_of l.text) run.now) l.first) l.text l.limit l.line (drop l.i l.tokens)

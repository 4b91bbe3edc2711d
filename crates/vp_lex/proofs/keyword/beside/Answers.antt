use Rattle.std.proofs.Common.{sym, ◌∙◌}
use Rattle.vp_lex.proofs.WordLaws.{entry_found, entry_passed}
use Rattle.vp_lex.proofs.keyword.beside.Goals as goal

pub returns-then-eq : goal.returns-then-eq
returns-then-eq c = sym (c.loop-entry.invariant ∙ entry_found _ _ _ _ c.loop-entry-test.true (sym c.eq.ensures ∙ c.if-eq.true))

pub loop-entry-preserved : goal.loop-entry-preserved
loop-entry-preserved c = c.loop-entry.invariant ∙ entry_passed _ _ _ _ c.loop-entry-test.true (sym c.eq.ensures ∙ c.if-eq.false)

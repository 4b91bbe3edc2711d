use Rattle.std.proofs.Common.{◌+◌, ◌≤◌, length}
use Rattle.std.specs.Prelude.{vec_len}
use Rattle.vp_parse_stmt.specs.Placing.{further_terms_into}
use Rattle.vp_parse_stmt.proofs.Loops.{TermsGoOn}
use Rattle.vp_parse_stmt.proofs.event.further_terms.Given as goal

abbrev pub invariant-loop-terms : goal.invariant-loop-terms
invariant-loop-terms l = record {
  lighter : vec_len l.terms + length l.rest ≤ vec_len l.initial.terms + length l.symbols;
  no_longer : length l.rest ≤ length l.symbols;
  goes_on : TermsGoOn l.terms.items l.rest (further_terms_into (length l.symbols) l.initial.terms.items l.symbols);
}

abbrev pub decreases-loop-terms : goal.decreases-loop-terms
decreases-loop-terms l = length l.rest

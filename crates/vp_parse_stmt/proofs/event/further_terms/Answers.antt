use Rattle.std.proofs.Common.{◌∙◌, sym, arith}
use Rattle.std.proofs.lemmas.Result.{err_from_is_err_and}
use Rattle.vp_parse_stmt.specs.Placing.{MadeTerms}
use Rattle.vp_parse_stmt.proofs.Loops.{term_turn, term_fails, terms_done}
use Rattle.vp_parse_stmt.proofs.event.further_terms.Goals as goal

pub returns-in_err-rest-clause-read : goal.returns-in_err-rest-clause-read
returns-in_err-rest-clause-read c =
    let p = err_from_is_err_and c.from_residual.result c.from_residual.ensures.1 in
    rw (p.1, p.2) (term_fails c.loop-terms.terms.items c.loop-terms.rest.now _ c.in_err-rest.field-0.0 (sym c.is_separator.ensures ∙ c.loop-terms-test.true) c.in_err-rest.ensures.read c.loop-terms.invariant.goes_on)

pub loop-terms-preserved : goal.loop-terms-preserved
loop-terms-preserved c =
    let e : MadeTerms = (c.joined.new.terms.items, c.in_ok-rest.rest.now) in
    record {
      lighter = omega (arith, c.in_ok-rest.ensures.lighter);
      no_longer = omega (arith, c.in_ok-rest.ensures.shorter);
      goes_on = term_turn c.loop-terms.terms.items c.loop-terms.rest.now _ e (sym c.is_separator.ensures ∙ c.loop-terms-test.true) c.in_ok-rest.ensures.read c.in_ok-rest.ensures.shorter c.loop-terms.invariant.goes_on;
    }

pub returns-clause-read : goal.returns-clause-read
returns-clause-read c = terms_done c.loop-terms.terms.items c.loop-terms.rest.now _ (sym c.is_separator.ensures ∙ c.loop-terms-test.false) c.loop-terms.invariant.goes_on

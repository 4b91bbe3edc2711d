use Rattle.std.proofs.Common.{◌∙◌, sym, arith}
use Rattle.std.proofs.lemmas.Result.{err_from_is_err_and}
use Rattle.vp_parse_expr.specs.Placing.{Made, expr_into}
use Rattle.vp_parse_expr.proofs.Loops.{part_turn, part_fails, parts_done, operator_turn, operator_fails, operators_done, expr_step, expr_none}
use Rattle.vp_parse_expr.proofs.parsing.+expression.Goals as goal

pub expression_at-returns-then-depth-eq0-clause-read :
    goal.expression_at-returns-then-depth-eq0-clause-read
expression_at-returns-then-depth-eq0-clause-read t c = expr_none c.args.depth c.args.least c.args.expressions.now.items c.args.symbols.now c.if-depth-eq0.true

pub expression_at-returns-clause-read : goal.expression_at-returns-clause-read
expression_at-returns-clause-read t c = rw (expr_step c.args.depth c.args.least c.args.expressions.now.items c.args.symbols.now c.if-depth-eq0.false) c.chain.ensures.read

pub further_parts-returns-in_err-list-clause-read : goal.further_parts-returns-in_err-list-clause-read
further_parts-returns-in_err-list-clause-read t c =
    let p = err_from_is_err_and c.from_residual.result c.from_residual.ensures.1 in
    rw (p.1, p.2) (part_fails (expr_into c.args.depth) c.args.brace c.loop-expressions.list.place c.loop-expressions.list.depth c.loop-expressions.expressions.items c.loop-expressions.list.rest.now _ c.in_err-list.field-0.0 (sym c.is_next.ensures ∙ c.loop-expressions-test.true) c.in_err-list.ensures.read c.loop-expressions.invariant.goes_on)

pub further_parts-loop-expressions-preserved : goal.further_parts-loop-expressions-preserved
further_parts-loop-expressions-preserved t c =
    let e : Made = (c.in_ok-list.list.place, c.in_ok-list.list.depth, c.further_part.new.expressions.items, c.in_ok-list.list.rest.now) in
    record {
      lighter = omega (arith, c.in_ok-list.ensures.fits.0);
      no_longer = omega (arith, c.in_ok-list.ensures.fits.1);
      within = omega (arith, c.in_ok-list.ensures.fits.2);
      goes_on = part_turn (expr_into c.args.depth) c.args.brace c.loop-expressions.list.place c.loop-expressions.list.depth c.loop-expressions.expressions.items c.loop-expressions.list.rest.now _ e (sym c.is_next.ensures ∙ c.loop-expressions-test.true) c.in_ok-list.ensures.read c.in_ok-list.ensures.fits.1 c.loop-expressions.invariant.goes_on;
    }

pub further_parts-returns-clause-read : goal.further_parts-returns-clause-read
further_parts-returns-clause-read t c = parts_done (expr_into c.args.depth) c.args.brace c.loop-expressions.list.place c.loop-expressions.list.depth c.loop-expressions.expressions.items c.loop-expressions.list.rest.now _ (sym c.is_next.ensures ∙ c.loop-expressions-test.false) c.loop-expressions.invariant.goes_on

pub more-returns-in_err-left-clause-read : goal.more-returns-in_err-left-clause-read
more-returns-in_err-left-clause-read t c =
    let p = err_from_is_err_and c.from_residual.result c.from_residual.ensures.1 in
    rw (p.1, p.2) (operator_fails (expr_into c.args.depth) c.args.depth c.args.least c.loop-operator.left.place c.loop-operator.left.depth c.loop-operator.expressions.items c.loop-operator.left.rest.now _ c.in-Some.operator c.in_err-left.field-0.0 (sym c.in-Some.ensures) c.in_err-left.ensures.read c.loop-operator.invariant.goes_on)

pub more-loop-operator-preserved : goal.more-loop-operator-preserved
more-loop-operator-preserved t c =
    let e : Made = (c.in_ok-left.left.place, c.in_ok-left.left.depth, c.binary.new.expressions.items, c.in_ok-left.left.rest.now) in
    record {
      lighter = omega (arith, c.in_ok-left.ensures.fits.0);
      no_longer = omega (arith, c.in_ok-left.ensures.fits.1);
      within = omega (arith, c.in_ok-left.ensures.fits.2);
      goes_on = operator_turn (expr_into c.args.depth) c.args.depth c.args.least c.loop-operator.left.place c.loop-operator.left.depth c.loop-operator.expressions.items c.loop-operator.left.rest.now _ c.in-Some.operator e (sym c.in-Some.ensures) c.in_ok-left.ensures.read c.in_ok-left.ensures.fits.1 c.loop-operator.invariant.goes_on;
    }

pub more-returns-clause-read : goal.more-returns-clause-read
more-returns-clause-read t c = operators_done (expr_into c.args.depth) c.args.depth c.args.least c.loop-operator.left.place c.loop-operator.left.depth c.loop-operator.expressions.items c.loop-operator.left.rest.now _ (sym c.in_default.ensures) c.loop-operator.invariant.goes_on

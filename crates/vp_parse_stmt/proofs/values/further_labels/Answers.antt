use Rattle.std.proofs.Common.{◌∙◌, sym, arith}
use Rattle.std.proofs.lemmas.Result.{err_from_is_err_and}
use Rattle.vp_parse_stmt.specs.Placing.{MadeLabels, lists_in}
use Rattle.vp_parse_stmt.proofs.Loops.{label_turn, label_fails, labels_done}
use Rattle.vp_parse_stmt.proofs.values.further_labels.Goals as goal

pub returns-in_err-rest-clause-read : goal.returns-in_err-rest-clause-read
returns-in_err-rest-clause-read c =
    let p = err_from_is_err_and c.from_residual.result c.from_residual.ensures.1 in
    rw (p.1, p.2) (label_fails c.args.limit c.loop-arena.labels.items (lists_in c.loop-arena.arena) c.loop-arena.rest.now _ c.in_err-rest.field-0.0 (sym c.is_next.ensures ∙ c.loop-arena-test.true) c.in_err-rest.ensures.read c.loop-arena.invariant.goes_on)

pub loop-arena-preserved : goal.loop-arena-preserved
loop-arena-preserved c =
    let e : MadeLabels = (c.further_label.new.labels.items, lists_in c.further_label.new.arena, c.in_ok-rest.rest.now) in
    record {
      lighter = omega (arith, c.in_ok-rest.ensures.lighter);
      no_heavier = omega (arith, c.in_ok-rest.ensures.no_heavier);
      no_longer = omega (arith, c.in_ok-rest.ensures.shorter);
      goes_on = label_turn c.args.limit c.loop-arena.labels.items (lists_in c.loop-arena.arena) c.loop-arena.rest.now _ e (sym c.is_next.ensures ∙ c.loop-arena-test.true) c.in_ok-rest.ensures.read c.in_ok-rest.ensures.shorter c.loop-arena.invariant.goes_on;
    }

pub returns-clause-read : goal.returns-clause-read
returns-clause-read c = labels_done c.args.limit c.loop-arena.labels.items (lists_in c.loop-arena.arena) c.loop-arena.rest.now _ (sym c.is_next.ensures ∙ c.loop-arena-test.false) c.loop-arena.invariant.goes_on

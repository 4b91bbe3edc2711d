use Rattle.std.proofs.Common.{◌∙◌, sym, arith}
use Rattle.std.proofs.lemmas.Result.{err_from_is_err_and}
use Rattle.vp_parse_stmt.specs.Placing.{Made, MadeItems, lists_in, stmt_into}
use Rattle.vp_parse_stmt.proofs.Loops.{chain_starts, chain_turn, chain_fails, chain_done, stmt_step, stmt_none, item_turn, item_fails, items_done}
use Rattle.vp_parse_stmt.proofs.parsing.+statement.Goals as goal

pub list-loop-arena-init : goal.list-loop-arena-init
list-loop-arena-init t c = record {
  lighter = omega arith;
  no_longer = omega arith;
  goes_on = rw (c.in_ok-so_far.ensures.place, c.in_ok-so_far.ensures.added) (chain_starts (stmt_into c.args.limit c.args.depth) (lists_in c.args.arena.now) c.args.symbols.now);
}

pub list-returns-in_err-last-clause-read : goal.list-returns-in_err-last-clause-read
list-returns-in_err-last-clause-read t c =
    let p = err_from_is_err_and c.from_residual-in_err-last.result c.from_residual-in_err-last.ensures.1 in
    rw (p.1, p.2) (chain_fails (stmt_into c.args.limit c.args.depth) c.loop-arena.so_far (lists_in c.loop-arena.arena) c.loop-arena.rest.now _ c.in_err-last.field-0.0 (sym c.goes_on.ensures ∙ c.loop-arena-test.true) c.in_err-last.ensures.read c.loop-arena.invariant.goes_on)

pub list-loop-arena-preserved : goal.list-loop-arena-preserved
list-loop-arena-preserved t c =
    let e : Made = (c.in_ok-last.last, lists_in c.statement_at.new.arena, c.in_ok-last.after.now) in
    record {
      lighter = omega (arith, c.in_ok-last.ensures.lighter, c.in_ok-so_far-2.ensures.len);
      no_longer = omega (arith, c.in_ok-last.ensures.shorter);
      goes_on = rw (c.in_ok-so_far-2.ensures.place, c.in_ok-so_far-2.ensures.added) (chain_turn (stmt_into c.args.limit c.args.depth) c.loop-arena.so_far (lists_in c.loop-arena.arena) c.loop-arena.rest.now _ e (sym c.goes_on.ensures ∙ c.loop-arena-test.true) c.in_ok-last.ensures.read c.in_ok-last.ensures.shorter c.loop-arena.invariant.goes_on);
    }

pub list-returns-clause-read : goal.list-returns-clause-read
list-returns-clause-read t c = chain_done (stmt_into c.args.limit c.args.depth) c.loop-arena.so_far (lists_in c.loop-arena.arena) c.loop-arena.rest.now _ (sym c.goes_on.ensures ∙ c.loop-arena-test.false) c.loop-arena.invariant.goes_on

pub statement_at-returns-then-depth-eq0-clause-read :
    goal.statement_at-returns-then-depth-eq0-clause-read
statement_at-returns-then-depth-eq0-clause-read t c = stmt_none c.args.limit c.args.depth (lists_in c.args.arena.now) c.args.symbols.now c.if-depth-eq0.true

pub statement_at-returns-clause-read : goal.statement_at-returns-clause-read
statement_at-returns-clause-read t c = rw (stmt_step c.args.limit c.args.depth (lists_in c.args.arena.now) c.args.symbols.now c.if-depth-eq0.false) c.form.ensures.read

pub further_items-returns-in_err-after-clause-read : goal.further_items-returns-in_err-after-clause-read
further_items-returns-in_err-after-clause-read t c =
    let p = err_from_is_err_and c.from_residual.result c.from_residual.ensures.1 in
    rw (p.1, p.2) (item_fails c.args.limit (stmt_into c.args.limit c.args.depth) c.loop-arena.may c.loop-arena.choices.items (lists_in c.loop-arena.arena) c.loop-arena.rest.now _ c.in_err-after.field-0.0 (sym c.items_go_on.ensures ∙ c.loop-arena-test.true) c.in_err-after.ensures.read c.loop-arena.invariant.goes_on)

pub further_items-loop-arena-preserved : goal.further_items-loop-arena-preserved
further_items-loop-arena-preserved t c =
    let e : MadeItems = (c.item.new.choices.items, lists_in c.item.new.arena, c.in_ok-after.after.now) in
    record {
      lighter = omega (arith, c.in_ok-after.ensures.lighter);
      no_longer = omega (arith, c.in_ok-after.ensures.shorter);
      goes_on = rw c.may_still-may.ensures (item_turn c.args.limit (stmt_into c.args.limit c.args.depth) c.loop-arena.may c.loop-arena.choices.items (lists_in c.loop-arena.arena) c.loop-arena.rest.now _ e (sym c.items_go_on.ensures ∙ c.loop-arena-test.true) c.in_ok-after.ensures.read c.in_ok-after.ensures.shorter c.loop-arena.invariant.goes_on);
    }

pub further_items-returns-clause-read : goal.further_items-returns-clause-read
further_items-returns-clause-read t c = items_done c.args.limit (stmt_into c.args.limit c.args.depth) c.loop-arena.may c.loop-arena.choices.items (lists_in c.loop-arena.arena) c.loop-arena.rest.now _ (sym c.items_go_on.ensures ∙ c.loop-arena-test.false) c.loop-arena.invariant.goes_on

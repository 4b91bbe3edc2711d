use Rattle.std.proofs.Common.{◌∙◌, sym, arith}
use Rattle.std.proofs.lemmas.Result.{err_from_is_err_and}
use Rattle.vp_parse.specs.Placing.{Kept, connection_into, lists_in}
use Rattle.vp_parse.proofs.Loops.{further_turn, further_done, no_comma, no_part}
use Rattle.vp_parse.proofs.items.further_connections.Goals as goal

pub returns-in_err-after-clause-read : goal.returns-in_err-after-clause-read
returns-in_err-after-clause-read c =
    let p = err_from_is_err_and c.from_residual.result c.from_residual.ensures.1 in
    rw (p.1, p.2) (no_comma (connection_into c.args.limit c.args.by_name) (lists_in c.loop-rest.arena) c.loop-rest.rest.now _ c.in_err-after.field-0.0 (sym c.is_next.ensures ∙ c.loop-rest-test.true) c.in_err-after.ensures.read c.loop-rest.invariant.goes_on)

pub returns-in_err-rest-clause-read : goal.returns-in_err-rest-clause-read
returns-in_err-rest-clause-read c =
    let p = err_from_is_err_and c.from_residual-in_err-rest.result c.from_residual-in_err-rest.ensures.1 in
    rw (p.1, p.2) (no_part (connection_into c.args.limit c.args.by_name) (lists_in c.loop-rest.arena) c.loop-rest.rest.now _ c.in_ok-after.after.now c.in_err-rest.field-0.0 (sym c.is_next.ensures ∙ c.loop-rest-test.true) c.in_ok-after.ensures.read c.in_err-rest.ensures.read c.loop-rest.invariant.goes_on)

pub loop-rest-preserved : goal.loop-rest-preserved
loop-rest-preserved c =
    let e : Kept = (lists_in c.connection.new.arena, c.in_ok-rest.rest.now) in
    record {
      lighter = omega (arith, c.in_ok-after.ensures.shorter, c.in_ok-rest.ensures.lighter);
      no_longer = omega (arith, c.in_ok-after.ensures.shorter, c.in_ok-rest.ensures.no_longer);
      goes_on = further_turn (connection_into c.args.limit c.args.by_name) (lists_in c.loop-rest.arena) c.loop-rest.rest.now _ c.in_ok-after.after.now e (sym c.is_next.ensures ∙ c.loop-rest-test.true) c.in_ok-after.ensures.read c.in_ok-rest.ensures.read (omega (arith, c.in_ok-after.ensures.shorter, c.in_ok-rest.ensures.no_longer)) c.loop-rest.invariant.goes_on;
    }

pub returns-clause-read : goal.returns-clause-read
returns-clause-read c = further_done (connection_into c.args.limit c.args.by_name) (lists_in c.loop-rest.arena) c.loop-rest.rest.now _ (sym c.is_next.ensures ∙ c.loop-rest-test.false) c.loop-rest.invariant.goes_on

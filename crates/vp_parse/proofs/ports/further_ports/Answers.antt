use Rattle.std.proofs.Common.{◌∙◌, List, sym, arith}
use Rattle.std.proofs.lemmas.Result.{err_from_is_err_and}
use Rattle.vp_source.specs.declared.symbol.Symbol.{Symbol}
use Rattle.vp_source.specs.Layout.{PortType}
use Rattle.vp_parse.specs.Placing.{Kept, lists_in, type_shown}
use Rattle.vp_parse.proofs.Loops.{port_turn, ports_done, ports_stop, no_type, no_port}
use Rattle.vp_parse.proofs.ports.further_ports.Goals as goal

pub returns-in_err-after-clause-read : goal.returns-in_err-after-clause-read
returns-in_err-after-clause-read c =
    let p = err_from_is_err_and c.from_residual.result c.from_residual.ensures.1 in
    rw (p.1, p.2) (ports_stop (type_shown c.loop-before.before) (lists_in c.loop-before.arena) c.loop-before.rest.now _ c.in_err-after.field-0.0 (sym c.is_next.ensures ∙ c.loop-before-test.true) c.in_err-after.ensures.read c.loop-before.invariant.goes_on)

pub returns-in_err-of-clause-read : goal.returns-in_err-of-clause-read
returns-in_err-of-clause-read c =
    let p = err_from_is_err_and c.from_residual-in_err-of.result c.from_residual-in_err-of.ensures.1 in
    rw (p.1, p.2) (no_type (type_shown c.loop-before.before) (lists_in c.loop-before.arena) c.loop-before.rest.now _ c.in_ok-after.after.now c.in_err-of.field-0.0 (sym c.is_next.ensures ∙ c.loop-before-test.true) c.in_ok-after.ensures.read c.in_err-of.ensures.read c.loop-before.invariant.goes_on)

pub returns-in_err-rest-clause-read : goal.returns-in_err-rest-clause-read
returns-in_err-rest-clause-read c =
    let p = err_from_is_err_and c.from_residual-in_err-rest.result c.from_residual-in_err-rest.ensures.1 in
    let t : PortType × List Symbol = (type_shown c.in_ok-of.of, c.in_ok-of.after.now) in
    rw (p.1, p.2) (no_port (type_shown c.loop-before.before) (lists_in c.loop-before.arena) c.loop-before.rest.now _ c.in_ok-after.after.now t c.in_err-rest.field-0.0 (sym c.is_next.ensures ∙ c.loop-before-test.true) c.in_ok-after.ensures.read c.in_ok-of.ensures.read c.in_err-rest.ensures.read c.loop-before.invariant.goes_on)

pub loop-before-preserved : goal.loop-before-preserved
loop-before-preserved c =
    let t : PortType × List Symbol = (type_shown c.in_ok-of.of, c.in_ok-of.after.now) in
    let e : Kept = (lists_in c.port.new.arena, c.in_ok-rest.rest.now) in
    record {
      lighter = omega (arith, c.in_ok-after.ensures.shorter, c.in_ok-of.ensures.no_longer, c.in_ok-rest.ensures.lighter);
      no_longer = omega (arith, c.in_ok-after.ensures.shorter, c.in_ok-of.ensures.no_longer, c.in_ok-rest.ensures.shorter);
      goes_on = port_turn (type_shown c.loop-before.before) (lists_in c.loop-before.arena) c.loop-before.rest.now _ c.in_ok-after.after.now t e (sym c.is_next.ensures ∙ c.loop-before-test.true) c.in_ok-after.ensures.read c.in_ok-of.ensures.read c.in_ok-rest.ensures.read (omega (arith, c.in_ok-after.ensures.shorter, c.in_ok-of.ensures.no_longer, c.in_ok-rest.ensures.shorter)) c.loop-before.invariant.goes_on;
    }

pub returns-clause-read : goal.returns-clause-read
returns-clause-read c = ports_done (type_shown c.loop-before.before) (lists_in c.loop-before.arena) c.loop-before.rest.now _ (sym c.is_next.ensures ∙ c.loop-before-test.false) c.loop-before.invariant.goes_on

use Rattle.std.proofs.Common.{◌∙◌, sym, arith}
use Rattle.std.proofs.lemmas.Result.{err_from_is_err_and}
use Rattle.vp_source.specs.declared.source.Module as module_of
use Rattle.vp_parse.specs.Placing.{Made, lists_in}
use Rattle.vp_parse.proofs.Loops.{module_turn, modules_done, module_fails}
use Rattle.vp_parse.proofs.parsing.modules.Goals as goal

pub returns : goal.returns
returns c = modules_done c.args.limit c.loop-rest.modules.items (lists_in c.loop-rest.arena) c.loop-rest.rest.now _ (sym c.is_empty.ensures ∙ c.loop-rest-test.false) c.loop-rest.invariant.goes_on

pub returns-in_err-next : goal.returns-in_err-next
returns-in_err-next c =
    let p = err_from_is_err_and c.from_residual.result c.from_residual.ensures.1 in
    rw (p.1, p.2) (module_fails c.args.limit c.loop-rest.modules.items (lists_in c.loop-rest.arena) c.loop-rest.rest.now _ c.in_err-next.field-0.0 (sym c.is_empty.ensures ∙ c.loop-rest-test.true) c.in_err-next.ensures.read c.loop-rest.invariant.goes_on)

pub loop-rest-preserved : goal.loop-rest-preserved
loop-rest-preserved c =
    let e : Made module_of.Module = (c.in_ok-next.next, lists_in c.module.new.arena, c.in_ok-next.after.now) in
    record {
      lighter = omega (arith, c.in_ok-next.ensures.lighter);
      goes_on = rw c.in_ok-push.ensures.items (module_turn c.args.limit c.loop-rest.modules.items (lists_in c.loop-rest.arena) c.loop-rest.rest.now _ e (sym c.is_empty.ensures ∙ c.loop-rest-test.true) c.in_ok-next.ensures.read c.in_ok-next.ensures.shorter c.loop-rest.invariant.goes_on);
    }

use Rattle.std.proofs.lemmas.Result.{err_from_is_err_and}
use Rattle.vp_pragma.specs.Reading.{placed}
use Rattle.vp_pragma.proofs.Refusals.{explains_first}
use Rattle.vp_pragma.proofs.reading.apply_first.Goals as goal

pub returns-in_err-apply_any-clause-fault : goal.returns-in_err-apply_any-clause-fault
returns-in_err-apply_any-clause-fault c =
    let p = err_from_is_err_and c.from_residual.result c.from_residual.ensures.1 in
    rw (p.1, p.2)
    (explains_first c.args.line c.args.pragma c.args.reading.now (placed c.args.rest) c.in-Some.expression (placed c.in-Some.remainder) c.effect_of.result _
    c.in-Some.ensures.parts c.effect_of.ensures c.in_err-apply_any.ensures.fault)

use Rattle.std.proofs.lemmas.Result.{err_from_is_err_and}
use Rattle.vp_elab.proofs.Counted.{accepted, refused_many, refused_viewport}
use Rattle.vp_elab.proofs.elaboration.check_objects.Goals as goal

pub returns-in_err-check_count-clause-refused : goal.returns-in_err-check_count-clause-refused
returns-in_err-check_count-clause-refused c =
    let p = err_from_is_err_and c.from_residual-in_err-check_count.result c.from_residual-in_err-check_count.ensures.1 in
    rw (p.1, p.2)
    (refused_many c.args.source.now c.args.envelopes.now c.requires.right (c.in_err-check_count.ensures {u = tt}).0 c.in_err-check_count.field-0.0 (c.in_err-check_count.ensures {u = tt}).1)

pub returns-in_err-check_viewports-clause-refused :
    goal.returns-in_err-check_viewports-clause-refused
returns-in_err-check_viewports-clause-refused c =
    let p = err_from_is_err_and c.from_residual-in_err-check_viewports.result c.from_residual-in_err-check_viewports.ensures.1 in
    rw (p.1, p.2)
    (refused_viewport c.args.source.now c.args.envelopes.now c.requires.right (c.in_ok-check_count.ensures {u = tt}) c.in_err-check_viewports.field-0.0 (c.in_err-check_viewports.ensures {u = tt}))

pub returns-clause-accepted : goal.returns-clause-accepted
returns-clause-accepted c =
    accepted c.args.source.now c.args.envelopes.now c.requires.right (c.in_ok-check_count.ensures {u = tt}) (c.in_ok-check_viewports.ensures {u = tt})

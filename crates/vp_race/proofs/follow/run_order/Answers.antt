use Rattle.std.proofs.Common.{◌∙◌, ap}
use Rattle.std.proofs.lemmas.Result.{err_from_is_err_and}
use Rattle.vp_race.specs.Orders.{after_choices}
use Rattle.vp_race.proofs.Explaining.{whole_explains}
use Rattle.vp_race.proofs.follow.run_order.Goals as goal

pub returns-in_err-follow-clause-refused : goal.returns-in_err-follow-clause-refused
returns-in_err-follow-clause-refused c =
    let p = err_from_is_err_and c.from_residual-in_err-follow.result c.from_residual-in_err-follow.ensures.1 in
    let there = ap (λ s. after_choices s c.order.result.now) c.requires.stands ∙ ap (after_choices c.args.choice.now.state) c.order.ensures ∙ c.requires.end.is_order.leads in
    rw (p.1, p.2) (whole_explains (after_choices c.args.simulation.now c.order.result.now) c.requires.end.end c.in_err-follow.field-0.0 there (c.in_err-follow.ensures {u = tt}).refused)

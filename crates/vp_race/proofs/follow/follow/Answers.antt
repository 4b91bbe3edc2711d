use Rattle.std.proofs.Common.{◌∙◌, suc, Option, ap, drop, get_or, subst, sym}
use Rattle.std.proofs.Math.Seq.{drop-cons}
use Rattle.std.proofs.lemmas.Result.{err_from_is_err_and}
use Rattle.vp_race.specs.declared.error.RaceError.TheVariants.{NoMemory}
use Rattle.vp_race.specs.Segments.{choices_refusal}
use Rattle.vp_text.specs.Refusals.{MayExplain}
use Rattle.vp_race.specs.Orders.{after_choices, reached}
use Rattle.vp_sim.specs.States.{State, step}
use Rattle.vp_race.proofs.Explaining.{first_explains}
use Rattle.vp_race.proofs.follow.follow.Goals as goal

pub returns-in_err-source-clause-refused : goal.returns-in_err-source-clause-refused
returns-in_err-source-clause-refused c =
    let p = err_from_is_err_and c.from_residual.result c.from_residual.ensures.1 in
    let choices = c.args.choices.now in
    let i = c.loop-choice.choice-index in
    let sim = c.loop-choice.simulation in
    let leads = c.loop-choice.invariant.leads ∙ ap (after_choices sim) (drop-cons choices i 0 c.loop-choice-test.true) in
    rw (p.1, p.2)
    (subst (λ (o : Option State). MayExplain NoMemory (choices_refusal o) c.in_err-source.field-0.0) (sym leads)
    (first_explains (reached (step sim (get_or choices i 0))) (drop (suc i) choices) c.in_err-source.field-0.0 (c.in_err-source.ensures {u = tt}).refused))

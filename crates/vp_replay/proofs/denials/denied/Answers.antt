use Rattle.std.proofs.Common.{◌∙◌, Some, ap, sym}
use Rattle.std.specs.Prelude.{option_map}
use Rattle.vp_policy.specs.SeenObjects.{own_step}
use Rattle.vp_replay.specs.Seen.{words_at}
use Rattle.vp_replay.proofs.Missing.{denied_error, denied_is}
use Rattle.vp_replay.proofs.denials.denied.Goals as goal

pub returns-in_err-words_at-in-Some-clause-denial : goal.returns-in_err-words_at-in-Some-clause-denial
returns-in_err-words_at-in-Some-clause-denial c =
    denied_error c.args.view.now c.args.right c.args.number c.first_missing_step.result c.in-Some.object c.from_residual.result c.first_missing_step.ensures c.in-Some.is

pub returns-in_ok-words_at-in-Some-clause-words : goal.returns-in_ok-words_at-in-Some-clause-words
returns-in_ok-words_at-in-Some-clause-words c =
    let v = c.args.view.now in
    let r = c.args.right in
    ap Some (c.in_ok-words_at-in-Some.ensures {u = tt})
    ∙ sym (denied_is v r c.args.number c.first_missing_step.result c.first_missing_step.ensures ∙ ap (option_map (λ o. words_at v r (own_step o.now))) c.in-Some.is)

pub returns-in-None-clause-words : goal.returns-in-None-clause-words
returns-in-None-clause-words c =
    let v = c.args.view.now in
    let r = c.args.right in
    sym (denied_is v r c.args.number c.first_missing_step.result c.first_missing_step.ensures ∙ ap (option_map (λ o. words_at v r (own_step o.now))) c.in-None.is)

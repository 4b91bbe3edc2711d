use Rattle.std.proofs.Common.{◌∙◌, ap, sym}
use Rattle.std.specs.Prelude.{is_some, not, option_map}
use Rattle.vp_pragma.specs.declared.rights.Right.TheVariants as right
use Rattle.vp_pragma.specs.Rights.{has}
use Rattle.vp_policy.specs.SeenObjects.{own_step}
use Rattle.vp_replay.specs.Seen.{words_at}
use Rattle.vp_replay.proofs.Missing.{denied_is}
use Rattle.vp_replay.proofs.watching.watch_right.Goals as goal

pub returns-in-Some : goal.returns-in-Some
returns-in-Some c =
    let v = c.args.view.now in
    let is = denied_is v right.Watch c.args.number c.first_missing_step.result c.first_missing_step.ensures in
    ap (λ s. not (has right.Watch s)) c.none.ensures
    ∙ sym (ap is_some (is ∙ ap (option_map (λ o. words_at v right.Watch (own_step o.now))) c.in-Some.is))

pub returns-in-None : goal.returns-in-None
returns-in-None c =
    let v = c.args.view.now in
    let is = denied_is v right.Watch c.args.number c.first_missing_step.result c.first_missing_step.ensures in
    ap (λ s. not (has right.Watch s)) c.every.ensures
    ∙ sym (ap is_some (is ∙ ap (option_map (λ o. words_at v right.Watch (own_step o.now))) c.in-None.is))

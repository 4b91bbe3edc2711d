use Rattle.std.proofs.Common.{◌∙◌}
use Rattle.std.proofs.lemmas.Bool.{or_left, or_right}
use Rattle.vp_script.proofs.Serving.{served, stopped}
use Rattle.vp_script.proofs.script.answered.Goals as goal

pub returns-in-Ok-clause-answered : goal.returns-in-Ok-clause-answered
returns-in-Ok-clause-answered g c =
    let held = (c.in-Ok.ensures {u = tt}).ok in
    let missing = c.is_out_of_memory_or.ensures in
    served c.args.script_session.now c.session.new.caller held.0 c.in-Ok.ended.lines c.in-Ok.ended.out_of_memory c.is_out_of_memory_or.result
    (λ was. missing ∙ or_right _ _ was) (λ was. missing ∙ or_left _ _ was) held.1 held.2

pub returns-in-Err-clause-stopped : goal.returns-in-Err-clause-stopped
returns-in-Err-clause-stopped g c =
    let held = (c.in-Err.ensures {u = tt}).fault in
    stopped c.in-Err.error c.args.script_session.now c.session.new.caller held.0 held.1 held.2

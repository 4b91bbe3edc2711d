use Rattle.std.proofs.Common.{◌∙◌, ap, slice_set, sym}
use Rattle.std.proofs.lemmas.List.Edits.{map_over_more}
use Rattle.vp_answer.specs.OpenSessions.{OpenSessionState, retired_for}
use Rattle.vp_answer.proofs.Lists.{map_over_all}
use Rattle.vp_answer.proofs.open_session.retire_sessions.Goals as goal

pub loop-session-preserved : goal.loop-session-preserved
loop-session-preserved c =
    let items = c.loop-session.session-items in
    let i = c.loop-session.session-index in
    let item = c.session-item.result in
    let retires = retired_for c.args.policy.now c.args.user.0 in
    ap (λ (s : OpenSessionState). slice_set items i s) c.retire.ensures
    ∙ ap (λ (s : OpenSessionState). slice_set items i (retires s)) (sym c.session-item.is)
    ∙ map_over_more retires c.args.sessions.now items i item c.loop-session-test.true c.loop-session.invariant c.session-item.is

pub returns : goal.returns
returns c =
    map_over_all (retired_for c.args.policy.now c.args.user.0) c.args.sessions.now c.loop-session.session-items c.loop-session.session-index c.loop-session-test.false c.loop-session.invariant

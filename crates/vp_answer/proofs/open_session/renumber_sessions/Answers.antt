use Rattle.std.proofs.Common.{◌∙◌, length, ap, slice_set, sym}
use Rattle.std.proofs.lemmas.List.Edits.{map_over_more}
use Rattle.vp_notify.specs.Registry.{is_unwatchable}
use Rattle.vp_notify.specs.Renumbered.{number_now}
use Rattle.vp_answer.specs.OpenSessions.{OpenSessionState, is_session_within, moved_session}
use Rattle.vp_answer.proofs.Lists.{map_over_all}
use Rattle.vp_answer.specs.laws.Tests.{all_at}
use Rattle.vp_answer.proofs.Turns.{untouched_at}
use Rattle.vp_answer.proofs.open_session.renumber_sessions.Goals as goal

pub renumber-requires-clause-within : goal.renumber-requires-clause-within
renumber-requires-clause-within c =
    let count = length c.args.numbers.now in
    let moves = moved_session (number_now c.args.numbers.now) (is_unwatchable c.args.rights.now) in
    let items = c.loop-session.session-items in
    let i = c.loop-session.session-index in
    let item : OpenSessionState = c.session-item.result in
    ap (is_session_within count) (sym c.session-item.is)
    ∙ all_at (is_session_within count) c.args.sessions.now i item c.requires.within
    (untouched_at moves c.args.sessions.now items i item c.loop-session-test.true c.loop-session.invariant c.session-item.is)

pub loop-session-preserved : goal.loop-session-preserved
loop-session-preserved c =
    let items = c.loop-session.session-items in
    let i = c.loop-session.session-index in
    let item = c.session-item.result in
    let moves = moved_session (number_now c.args.numbers.now) (is_unwatchable c.args.rights.now) in
    ap (λ (s : OpenSessionState). slice_set items i s) c.renumber.ensures
    ∙ ap (λ (s : OpenSessionState). slice_set items i (moves s)) (sym c.session-item.is)
    ∙ map_over_more moves c.args.sessions.now items i item c.loop-session-test.true c.loop-session.invariant c.session-item.is

pub returns : goal.returns
returns c =
    map_over_all (moved_session (number_now c.args.numbers.now) (is_unwatchable c.args.rights.now)) c.args.sessions.now c.loop-session.session-items c.loop-session.session-index c.loop-session-test.false c.loop-session.invariant

use Rattle.std.proofs.Common.{◌≡◌, ◌++◌, drop, map, take}
use Rattle.vp_notify.specs.Registry.{is_unwatchable}
use Rattle.vp_notify.specs.Renumbered.{number_now}
use Rattle.vp_answer.specs.OpenSessions.{moved_session}
use Rattle.vp_answer.proofs.open_session.renumber_sessions.Given as goal

-- the sessions before this one have their numbers now
abbrev pub invariant-loop-session : goal.invariant-loop-session
invariant-loop-session l =
    l.session-items
    ≡ map (moved_session (number_now l.numbers) (is_unwatchable l.rights)) (take l.session-index l.fn.sessions) ++ drop l.session-index l.fn.sessions

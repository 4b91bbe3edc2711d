use Rattle.std.proofs.Common.{◌≡◌, ◌++◌, Some, drop, map, take}
use Rattle.vp_answer.specs.OpenSessions.{notified_session}
use Rattle.vp_answer.proofs.open_session.notify_sessions.Given as goal

-- the change is due to the sessions before this one
abbrev pub invariant-loop-session : goal.invariant-loop-session
invariant-loop-session l =
    l.session-items
    ≡ map (notified_session (Some l.change) l.time) (take l.session-index l.fn.sessions) ++ drop l.session-index l.fn.sessions

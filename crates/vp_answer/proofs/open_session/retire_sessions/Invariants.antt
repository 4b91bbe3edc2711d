use Rattle.std.proofs.Common.{◌≡◌, ◌++◌, drop, map, take}
use Rattle.vp_answer.specs.OpenSessions.{retired_for}
use Rattle.vp_answer.proofs.open_session.retire_sessions.Given as goal

-- out of the sessions before this one is taken what may not be watched
abbrev pub invariant-loop-session : goal.invariant-loop-session
invariant-loop-session l =
    l.session-items
    ≡ map (retired_for l.policy l.user.0) (take l.session-index l.fn.sessions) ++ drop l.session-index l.fn.sessions

-- Open sessions, each with its name.
use Rattle.std.specs.Prelude.{ℕ, ◌==◌, ◌&&◌, count_by, filter, if◌then◌else◌, not, Bool, List, Option}
use Rattle.std.specs.List.{position}
use Rattle.vp_policy.specs.PolicyState.{PolicyState}
use Rattle.vp_policy.specs.Users.{member_at}
use Rattle.vp_notify.specs.Change.{Change}
use Rattle.vp_vpi.specs.Observers.{is_watch_denied}
use Rattle.vp_vpi.specs.Renumbered.{is_session_state_within, moved_session_state}
use Rattle.vp_vpi.specs.SessionStates.{SessionState, retired, with_due}
use Rattle.vp_answer.specs.declared.request.SessionId.{SessionId}

-- an open session: its name; its user and his handles
pub record OpenSessionState : Type 0 where
  pub id : SessionId
  pub session_state : SessionState

-- two sessions' names are the same
abbrev pub same_session : SessionId → SessionId → Bool
same_session a b = (a.user.0 == b.user.0) && (a.opens == b.opens)

-- where the open session of a name stands among the open sessions; none where it is not open
abbrev pub index_of : List OpenSessionState → SessionId → Option ℕ
index_of sessions id = position (λ s. same_session s.id id) sessions

-- an open session is one of the user of a number
abbrev pub is_of : (user : ℕ) → OpenSessionState → Bool
is_of user s = s.id.user.0 == user

-- how many of the open sessions are his
abbrev pub sessions_of : (user : ℕ) → List OpenSessionState → ℕ
sessions_of user sessions = count_by (is_of user) sessions

-- the others
abbrev pub without_user : (user : ℕ) → List OpenSessionState → List OpenSessionState
without_user user sessions = filter (λ s. not (is_of user s)) sessions

-- an open session after a change at a time, which is due to its callbacks (clause 27.33)
abbrev pub notified_session : Option Change → (time : ℕ) → OpenSessionState → OpenSessionState
notified_session change time s = record s { session_state = with_due change time s.session_state }

-- an open session after a change of what the user of a number is granted: if it is his, what he may not watch any more is taken out of
-- it (profile)
abbrev pub retired_for : PolicyState → (user : ℕ) → OpenSessionState → OpenSessionState
retired_for policy user s = record s {
  session_state = (if s.session_state.user == user then retired (is_watch_denied policy.tree (member_at policy.members user)) s.session_state else s.session_state);
}

-- all objects of an open session are among so many
abbrev pub is_session_within : (count : ℕ) → OpenSessionState → Bool
is_session_within count s = is_session_state_within count s.session_state

-- an open session whose objects have other numbers, and out of which is taken what may not be watched any more
abbrev pub moved_session : (ℕ → ℕ) → (gone : ℕ → Bool) → OpenSessionState → OpenSessionState
moved_session f gone s = record s { session_state = retired gone (moved_session_state f s.session_state) }

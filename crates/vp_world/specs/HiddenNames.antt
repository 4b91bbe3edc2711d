-- A hidden name is answered as an absent one (profile).
use Rattle.std.specs.Prelude.{◌≡◌, ℕ, List, Option, Some, None, option_and_then, option_map}
use Rattle.vp_text.specs.Texts.{parts}
use Rattle.vp_policy.specs.Filter.{stops_in}
use Rattle.vp_policy.specs.Users.{member_at}
use Rattle.vp_vpi.specs.SessionStates.{SessionState, object_of}
use Rattle.vp_answer.specs.declared.query.Query.TheVariants as query
use Rattle.vp_answer.specs.declared.reply.Reply.{Reply}
use Rattle.vp_answer.specs.declared.request.SessionId.{SessionId}
use Rattle.vp_answer.specs.OpenSessions.{OpenSessionState}
use Rattle.vp_world.specs.declared.event.Event.{Event}
use Rattle.vp_world.specs.declared.event.Event.TheVariants as event
use Rattle.vp_world.specs.History.{answered_by, session_of, state_after}
use Rattle.vp_world.specs.Worlds.{State, WorldLog}

-- the scope of a handle, which is an object; without a handle that of the top modules; none where the number is no handle
abbrev pub scope_in : SessionState → (handle : Option ℕ) → Option (Option ℕ)
scope_in session_state None = Some None
scope_in session_state (Some handle) = option_map Some (object_of session_state.handles handle)

-- the names of the scope in which a dotted name stops that a session asks in the scope of a handle: that of its first name that is
-- not listed to the session's user; none where each is listed
abbrev pub stop_in : State → SessionState → (scope : Option ℕ) → (name : List ℕ) → Option (List (List ℕ))
stop_in s session_state scope name =
    option_and_then (λ above. stops_in s.run.design.tree (member_at s.policy.members session_state.user) above (parts 46 name))
    (scope_in session_state scope)

-- the same of an open session
abbrev pub stop_of : State → Option OpenSessionState → (scope : Option ℕ) → (name : List ℕ) → Option (List (List ℕ))
stop_of s session scope name = option_and_then (λ (t : OpenSessionState). stop_in s t.session_state scope name) session

-- the same of a session of a world
abbrev pub stop_after : WorldLog → SessionId → (scope : Option ℕ) → (name : List ℕ) → Option (List (List ℕ))
stop_after w id scope name = let s : State = state_after w.opening w.log in stop_of s (session_of s.sessions id) scope name

-- where an event asks for a name that is not listed where it stops, each name that stops there, asked in the same scope, would have got
-- this reply: so no reply says which of them is hidden and which is not there
abbrev pub HidesAlike : WorldLog → Event → Reply → Type 0
HidesAlike w e answer =
    (id : SessionId) → (scope : Option ℕ) → (name other : List ℕ) → e ≡ event.Ask id (query.Handle name scope)
    → (stop : List (List ℕ)) → stop_after w id scope name ≡ Some stop → stop_after w id scope other ≡ Some stop
    → answered_by w (event.Ask id (query.Handle other scope)) ≡ answer

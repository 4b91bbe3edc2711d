-- Which objects may be watched: a change of another one is shown to nobody.
use Rattle.std.specs.Prelude.{ℕ, Bool, true, false, List, slice_index_or}
use Rattle.std.specs.List.{list_all, list_any}
use Rattle.vp_notify.specs.declared.registry.Callback.{Callback}
use Rattle.vp_notify.specs.Registry.{watches}
use Rattle.vp_answer.specs.declared.query.Query.{Query}
use Rattle.vp_answer.specs.declared.query.Query.TheVariants.{Watch}
use Rattle.vp_answer.specs.OpenSessions.{OpenSessionState}

-- some session may have a callback on an object, by a list that says so of each object; it may on what lies beyond the list
abbrev pub may_be_watched : List Bool → (object : ℕ) → Bool
may_be_watched watched object = slice_index_or watched object true

-- the object of a callback may be watched
abbrev pub is_marked : List Bool → Callback → Bool
is_marked watched callback = may_be_watched watched callback.object.0

-- the objects of all callbacks may be watched
abbrev pub are_marked : List Bool → List Callback → Bool
are_marked watched callbacks = list_all (is_marked watched) callbacks

-- the objects of all callbacks of an open session
abbrev pub is_session_marked : List Bool → OpenSessionState → Bool
is_session_marked watched s = are_marked watched s.session_state.registry.callbacks

-- and those of all open sessions
abbrev pub all_marked : List Bool → List OpenSessionState → Bool
all_marked watched sessions = list_all (is_session_marked watched) sessions

-- some open session has a callback on an object
abbrev pub is_watched : List OpenSessionState → (object : ℕ) → Bool
is_watched sessions object = list_any (λ s. watches s.session_state.registry object) sessions

-- a query registers a callback
abbrev pub is_watch : Query → Bool
is_watch (Watch handle) = true
is_watch r = false

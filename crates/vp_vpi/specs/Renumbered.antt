-- Sessions whose objects have other numbers now.
use Rattle.std.specs.Prelude.{ℕ, ◌&&◌, nat_lt, Bool, true, map, Option, option_map}
use Rattle.std.specs.List.{list_all}
use Rattle.std.specs.Option.{option_map_or}
use Rattle.vp_elab.specs.declared.object.ObjectId.{ObjectId}
use Rattle.vp_notify.specs.Renumbered.{is_within, moved_registry}
use Rattle.vp_vpi.specs.SessionStates.{SessionState}

-- a handle, which was freed or not, whose object has another number
abbrev pub moved_handle : (ℕ → ℕ) → Option ObjectId → Option ObjectId
moved_handle f h = option_map (λ o. record { 0 = f o.0 }) h

-- a session
abbrev pub moved_session_state : (ℕ → ℕ) → SessionState → SessionState
moved_session_state f s = record { user = s.user; handles = map (moved_handle f) s.handles; registry = moved_registry f s.registry }

-- so many objects had a number before, and that of a handle, if it is not freed, is one of them
abbrev pub is_handle_within : (count : ℕ) → Option ObjectId → Bool
is_handle_within count h = option_map_or (λ o. nat_lt o.0 count) h true

-- the objects of all handles, callbacks and notices of a session are
abbrev pub is_session_state_within : (count : ℕ) → SessionState → Bool
is_session_state_within count s = list_all (is_handle_within count) s.handles && is_within count s.registry

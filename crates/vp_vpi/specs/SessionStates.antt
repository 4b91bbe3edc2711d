-- A session: its user, his handles, and his callbacks.
use Rattle.std.specs.Prelude.{ℕ, zero, suc, ◌+◌, ◌&&◌, not, nat_le, Bool, List, [], ◌∷◌, ◌++◌, length, map, count_by, slice_get, slice_set, Option, Some, None, is_some, option_map}
use Rattle.std.specs.Option.{option_flatten}
use Rattle.vp_elab.specs.declared.object.ObjectId.{ObjectId}
use Rattle.vp_notify.specs.Change.{Change}
use Rattle.vp_notify.specs.declared.notice.Notices.{Notices}
use Rattle.vp_notify.specs.Registry as registry

-- a session: its user; his handles in the order in which they were made, each with its object, or none where it was freed; and his
-- callbacks with the notices that wait
pub record SessionState : Type 0 where
  pub user : ℕ
  pub handles : List (Option ObjectId)
  pub registry : registry.RegistryState

-- a session of a user in which nothing has happened
abbrev pub new_session_state : (user : ℕ) → SessionState
new_session_state user = record { user = user; handles = []; registry = registry.empty_registry }

-- ---- handles

-- the object of a handle; handles are numbered from 1 (profile)
abbrev pub object_of : List (Option ObjectId) → ℕ → Option ℕ
object_of handles zero = None
object_of handles (suc n) = option_map (λ o. o.0) (option_flatten (slice_get handles n))

-- the number of the next handle: no number is used again (profile)
abbrev pub next_handle : List (Option ObjectId) → ℕ
next_handle handles = suc (length handles)

-- the handle of an object
abbrev pub handle_to : ℕ → Option ObjectId
handle_to object = Some (record { 0 = object })

-- a session with these handles more
abbrev pub with_handles : List (Option ObjectId) → SessionState → SessionState
with_handles more s = record s { handles = s.handles ++ more }

-- a session with one handle more
abbrev pub with_handle : ℕ → SessionState → SessionState
with_handle object s = with_handles (handle_to object ∷ []) s

-- the handles without that of a number
abbrev pub freed : ℕ → List (Option ObjectId) → List (Option ObjectId)
freed zero handles = handles
freed (suc n) handles = slice_set handles n None

-- a session without the handle of a number
abbrev pub without_handle : ℕ → SessionState → SessionState
without_handle handle s = record s { handles = freed handle s.handles }

-- how many handles a session has at most at once (profile)
abbrev pub handle_limit : ℕ
handle_limit = 65536

-- how many handles a session ever makes at most: their numbers have 32 bits (profile)
abbrev pub number_limit : ℕ
number_limit = 4294967295

-- there is room for so many handles more: no more than there may be at once, and each with a number (profile)
abbrev pub has_room : ℕ → List (Option ObjectId) → Bool
has_room n handles = nat_le (count_by is_some handles + n) handle_limit && nat_le (length handles + n) number_limit

-- there is no room for a handle
abbrev pub is_full : List (Option ObjectId) → Bool
is_full handles = not (has_room 1 handles)

-- ---- callbacks

-- a session with a callback more, on an object (clause 27.33)
abbrev pub with_callback : (object : ℕ) → SessionState → SessionState
with_callback object s = record s { registry = registry.registered s.registry object }

-- a session without the callback of a number (clause 27.34)
abbrev pub without_callback : (callback : ℕ) → SessionState → SessionState
without_callback callback s = record s { registry = registry.without s.registry callback }

-- a session whose callbacks a change at a time is due to (clause 27.33)
abbrev pub with_due : Option Change → (time : ℕ) → SessionState → SessionState
with_due change time s = record s { registry = registry.due s.registry change time }

-- what a session's poll reports: the notices that wait, oldest first, and how many were lost since the last poll (profile)
abbrev pub polled : SessionState → Notices
polled s = record { notices = map registry.polled_notice s.registry.waiting; lost = s.registry.lost }

-- a session after a poll: none waits any more, and none counts as lost (profile)
abbrev pub drained : SessionState → SessionState
drained s = record s { registry = registry.drained s.registry }

-- ---- rights that end

-- a session without its callbacks on objects of which a test holds, and without the notices of these that wait (profile)
abbrev pub retired : (gone : ℕ → Bool) → SessionState → SessionState
retired gone s = record s { registry = registry.retired gone s.registry }

-- The calls of sessions, and where they stand in a log.
use Rattle.std.specs.Prelude.{◌≡◌, ◌<◌, ◌⊎◌, ℕ, ◌+◌, Bool, true, false, List, [], ◌∷◌, ◌++◌, Contains, count_by, filter, filter_map, length, slice_get, Option, Some, None}
use Rattle.std.specs.Option.{option_map_or}
use Rattle.vp_elab.specs.Tree.{below}
use Rattle.vp_answer.specs.declared.request.Call.{Call}
use Rattle.vp_answer.specs.declared.request.Call.TheVariants as call
use Rattle.vp_answer.specs.declared.request.SessionId.{SessionId}
use Rattle.vp_answer.specs.OpenSessions.{same_session}
use Rattle.vp_world.specs.declared.event.Event.{Event}
use Rattle.vp_world.specs.declared.event.Event.TheVariants as event
use Rattle.vp_answer.specs.declared.reply.Reply.{Reply}
use Rattle.vp_answer.specs.declared.reply.Reply.TheVariants as reply
use Rattle.vp_world.specs.Entries.{Entry, session_in}

-- the event of a call of a session
abbrev pub event_of : SessionId → Call → Event
event_of id (call.Query query) = event.Ask id query
event_of id call.Close = event.Close id

-- an event is of a session: it opens one, asks in it or closes it
abbrev pub is_of_session : Event → Bool
is_of_session (event.Open user token) = true
is_of_session (event.Ask id r) = true
is_of_session (event.Close id) = true
is_of_session e = false

-- how many entries of a log are of sessions
abbrev pub session_entries : List Entry → ℕ
session_entries log = count_by (λ e. is_of_session e.event) log

-- an entry is of a session
abbrev pub is_own : SessionId → Entry → Bool
is_own id e = option_map_or (λ own. same_session own id) (session_in e.event e.reply) false

-- an entry of a session stands at an index of a log
abbrev pub is_own_at : List Entry → SessionId → ℕ → Bool
is_own_at log id index = option_map_or (is_own id) (slice_get log index) false

-- the indexes at which the entries of a session stand in a log, rising
abbrev pub entry_indexes : List Entry → SessionId → List ℕ
entry_indexes log id = filter (is_own_at log id) (below (length log))

-- the session that an event opened which was answered so; none where it opened none
abbrev pub opened_in : Event → Reply → Option SessionId
opened_in (event.Open user token) (reply.Opened id) = Some id
opened_in e answer = None

-- the sessions that were opened in a log, in order
abbrev pub sessions_opened : List Entry → List SessionId
sessions_opened log = filter_map (λ e. opened_in e.event e.reply) log

-- a session was opened in a log
abbrev pub IsOpenedIn : List Entry → SessionId → Type 0
IsOpenedIn log id = Contains (sessions_opened log) id

-- a list has the items of another, in its order, but for some
abbrev pub IsSublist : List ℕ → List ℕ → Type 0
IsSublist [] ys = Unit {0}
IsSublist (x ∷ xs) [] = ⊥
IsSublist (x ∷ xs) (y ∷ ys) = ((x ≡ y) × IsSublist xs ys) ⊎ IsSublist (x ∷ xs) ys

-- a pass: its session, the indexes of its calls, the log as it was after the last of them, and the amount and the parts of its share of
-- the ledger
pub record Passed : Type 0 where
  pub session : SessionId
  pub indexes : List ℕ
  pub seen : List Entry
  pub amount : ℕ
  pub parts : ℕ

-- a pass to name where none is meant
abbrev pub no_pass : Passed
no_pass = record { session = record { user = record { 0 = 0 }; opens = 0 }; indexes = []; seen = []; amount = 0; parts = 0 }

-- a pass after one call more, whose entry is at an index, the last of a log
abbrev pub after_call : Passed → ℕ → List Entry → Passed
after_call p index log = record p { indexes = p.indexes ++ index ∷ []; seen = log; amount = p.amount + 1 }

-- what every pass keeps: its calls are entries of its session, each once and in order; the amount of its share is their number, of which
-- there are some, and the share has one part
pub record Keeps (p : Passed) : Type 0 where
  pub own : IsSublist p.indexes (entry_indexes p.seen p.session)
  pub counted : p.amount ≡ length p.indexes
  pub some : 0 < p.amount
  pub one : p.parts ≡ 1

-- what stands in a pass beside: so many calls, and the name of the history of which it has seen a front, which is the hub's
pub record IsPass (history calls name : ℕ) (p : Passed) : Type 0 where
  pub keeps : Keeps p
  pub many : calls ≡ length p.indexes
  pub named : name ≡ history

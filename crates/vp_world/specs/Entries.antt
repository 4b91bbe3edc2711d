-- An entry of the log.
use Rattle.std.specs.Prelude.{ℕ, ◌+◌, Bool, List, length, sum_by, Option, Some, None}
use Rattle.std.specs.Arc.{arc_value}
use Rattle.vp_expr.specs.declared.change.Change.{Change}
use Rattle.vp_world.specs.declared.entry.LoggedEvent.{LoggedEvent}
use Rattle.vp_world.specs.declared.entry.LoggedEvent.TheVariants as happening
use Rattle.vp_world.specs.declared.event.Event.{Event}
use Rattle.vp_world.specs.declared.event.Event.TheVariants as event
use Rattle.vp_answer.specs.declared.request.SessionId.{SessionId}
use Rattle.vp_answer.specs.declared.reply.Reply.{Reply}
use Rattle.vp_answer.specs.declared.reply.Reply.TheVariants as reply
use Rattle.vp_answer.specs.Sizes.{query_bytes, reply_bytes}

-- an entry of the log: an event, its reply, what it changed, and the time and whether $finish was executed after it
pub record Entry : Type 0 where
  pub event : Event
  pub reply : Reply
  pub change : Option Change
  pub time : ℕ
  pub finished : Bool

-- the session of an event that was answered so; none where it is of no session
abbrev pub session_in : Event → Reply → Option SessionId
session_in (event.Open user token) (reply.Opened id) = Some id
session_in (event.Ask id r) answer = Some id
session_in (event.Close id) answer = Some id
session_in e answer = None

-- the bytes of the texts of an event: of a login, of what is asked, and of an operator's order (profile)
abbrev pub event_bytes : Event → ℕ
event_bytes (event.Open user token) = length user + length token
event_bytes (event.Ask id query) = query_bytes query
event_bytes (event.Grant change) = length change.token + length change.user
event_bytes (event.End order) = length order.token + length order.user
event_bytes (event.Halt order) = length order.token
event_bytes e = 0

-- of an entry, with its reply
abbrev pub entry_bytes : Entry → ℕ
entry_bytes e = event_bytes e.event + reply_bytes e.reply

-- of all entries of a list
abbrev pub bytes_of : List Entry → ℕ
bytes_of entries = sum_by entry_bytes entries

-- ---- what is seen of the fields of an entry

-- the event of what happened
abbrev pub event_in : LoggedEvent → Event
event_in (happening.Open login session) = event.Open (arc_value login).user (arc_value login).token
event_in (happening.Ask asked reply) = event.Ask (arc_value asked).session (arc_value asked).query
event_in (happening.Put asked change) = event.Ask (arc_value asked).session (arc_value asked).query
event_in (happening.Close session) = event.Close session
event_in (happening.Grant change) = event.Grant (arc_value change)
event_in (happening.End order) = event.End (arc_value order)
event_in (happening.Halt order) = event.Halt (arc_value order)
event_in (happening.Step k) = event.Step k
event_in (happening.StepWithChange k change) = event.Step k
event_in happening.Advance = event.Advance
event_in (happening.TakeJob number) = event.TakeJob
event_in (happening.Book finding) = event.Book finding

-- its reply
abbrev pub reply_in : LoggedEvent → Reply
reply_in (happening.Open login session) = reply.Opened session
reply_in (happening.Ask asked reply) = reply
reply_in (happening.Put asked change) = reply.Done
reply_in (happening.Close session) = reply.Done
reply_in (happening.Grant change) = reply.Done
reply_in (happening.End order) = reply.Done
reply_in (happening.Halt order) = reply.Done
reply_in (happening.Step k) = reply.Done
reply_in (happening.StepWithChange k change) = reply.Done
reply_in happening.Advance = reply.Done
reply_in (happening.TakeJob number) = reply.Job number
reply_in (happening.Book finding) = reply.Done

-- what it changed
abbrev pub change_in : LoggedEvent → Option Change
change_in (happening.Open login session) = None
change_in (happening.Ask asked reply) = None
change_in (happening.Put asked change) = Some change
change_in (happening.Close session) = None
change_in (happening.Grant change) = None
change_in (happening.End order) = None
change_in (happening.Halt order) = None
change_in (happening.Step k) = None
change_in (happening.StepWithChange k change) = Some change
change_in happening.Advance = None
change_in (happening.TakeJob number) = None
change_in (happening.Book finding) = None

-- an entry of what happened
abbrev pub entry_shown : LoggedEvent → (time : ℕ) → (finished : Bool) → Entry
entry_shown h time finished = record {
  event = event_in h;
  reply = reply_in h;
  change = change_in h;
  time = time;
  finished = finished;
}

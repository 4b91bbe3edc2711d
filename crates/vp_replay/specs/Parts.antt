-- A user's part of a world, and what comes of it.
use Rattle.std.specs.Prelude.{ℕ, ◌+◌, ◌-◌, ◌^◌, ◌&&◌, nat_lt, Bool, false, true, if◌then◌else◌, List, [], ◌∷◌, ◌++◌, length, map, slice_get, slice_index_or, slice_set, Option, Some, None, is_some, option_and_then, option_map, unwrap_or}
use Rattle.std.specs.List.{cons_option, list_all, remove}
use Rattle.std.specs.Option.{option_map_or}
use Rattle.vp_bits.specs.declared.bit.Bit.{Bit}
use Rattle.vp_pragma.specs.declared.rights.Right.TheVariants as right
use Rattle.vp_policy.specs.View.{View}
use Rattle.vp_expr.specs.declared.change.Change.{Change}
use Rattle.vp_notify.specs.Renumbered.{rises}
use Rattle.vp_vpi.specs.declared.races.ShownRace.{ShownRace}
use Rattle.vp_vpi.specs.Observers.{Observer}
use Rattle.vp_vpi.specs.SessionStates.{new_session_state}
use Rattle.vp_answer.specs.declared.query.Query.{Query}
use Rattle.vp_answer.specs.declared.request.SessionId.{SessionId}
use Rattle.vp_answer.specs.declared.reply.Refusal.TheVariants as refusal
use Rattle.vp_answer.specs.declared.reply.Reply.{Reply}
use Rattle.vp_answer.specs.declared.reply.Reply.TheVariants as reply
use Rattle.vp_answer.specs.Answers.{Response, respond}
use Rattle.vp_answer.specs.OpenSessions.{OpenSessionState, index_of, is_session_within, moved_session, notified_session}
use Rattle.vp_replay.specs.Seen.{denied_seen, observer_seen}
pub use Rattle.vp_replay.specs.declared.item.OwnEvent.{OwnEvent}
pub use Rattle.vp_replay.specs.declared.item.OwnEvent.TheVariants.{Asks, Closes, Opens}
pub use Rattle.vp_replay.specs.declared.item.GrantItem.{GrantItem}
pub use Rattle.vp_replay.specs.declared.item.Item.{Item}
pub use Rattle.vp_replay.specs.declared.item.OrderItem.{OrderItem}
pub use Rattle.vp_replay.specs.declared.item.OrderItem.TheVariants.{End, Grant}
pub use Rattle.vp_replay.specs.declared.item.Projection.{Projection}

-- ---- what goes to a user

-- nothing
abbrev pub empty_item : Item
empty_item = record { own_event = None; order = None; change = None; time = None; finished = None; race = None }

-- ---- a part

-- a user's part of a world: what he sees of the objects that he knows, how often he has opened a session, his open sessions, in which objects have
-- their numbers in that view, the values that are known, the time, whether $finish was executed, and the races that he is shown
pub record Part : Type 0 where
  pub view : View
  pub opens : ℕ
  pub sessions : List OpenSessionState
  pub values : List (Option (List Bit))
  pub time : ℕ
  pub finished : Bool
  pub races : List ShownRace

-- the part of a world in which nothing has happened, by its view and the values
abbrev pub first_part : View → List (Option (List Bit)) → Part
first_part v values = record { view = v; opens = 0; sessions = []; values = values; time = 0; finished = false; races = [] }

-- what can be looked up in a part
abbrev pub observer_of_part : Part → Observer
observer_of_part p = observer_seen p.view p.values p.time p.finished p.races

-- ---- objects that are renumbered

-- the number of an object now, by the numbers of those that were known before
abbrev pub moved_to : (moved : List ℕ) → (count : ℕ) → ℕ → ℕ
moved_to moved count k = if nat_lt k (length moved) then slice_index_or moved k 0 else count + (k - length moved)

-- ---- what comes of an item

-- what comes of a query of the session at an index of a part; none where no session is
abbrev pub response_in : Part → Option OpenSessionState → Query → Option Response
response_in p session r = option_map (λ (t : OpenSessionState). respond (observer_of_part p) t.session_state r) session

-- the session of a name, if it is open
abbrev pub session_in : Part → SessionId → Option OpenSessionState
session_in p id = option_and_then (slice_get p.sessions) (index_of p.sessions id)

-- the reply to an event of his own
abbrev pub reply_of : Part → OwnEvent → Reply
reply_of p (Opens id) = reply.Opened (record { user = id.user; opens = p.opens + 1 })
reply_of p (Asks id r) = option_map_or (λ g. g.reply) (response_in p (session_in p id) r) (reply.Error refusal.NotOpen)
reply_of p (Closes id) = reply.Done

-- sessions of which the one at an index is as a response leaves it
abbrev pub with_answer : List OpenSessionState → (index : ℕ) → Option OpenSessionState → Option Response → List OpenSessionState
with_answer sessions index None given = sessions
with_answer sessions index (Some session) None = sessions
with_answer sessions index (Some session) (Some given) = slice_set sessions index (record session { session_state = given.session_state })

-- the open sessions after an event of his own
abbrev pub sessions_after : Part → OwnEvent → List OpenSessionState
sessions_after p (Opens id) = p.sessions ++ record { id = record { user = id.user; opens = p.opens + 1 }; session_state = new_session_state id.user.0 } ∷ []
sessions_after p (Asks id r) =
    option_map_or (λ index. with_answer p.sessions index (slice_get p.sessions index) (response_in p (slice_get p.sessions index) r)) (index_of p.sessions id) p.sessions
sessions_after p (Closes id) = option_map_or (remove p.sessions) (index_of p.sessions id) p.sessions

-- how often he has opened a session after an event of his own
abbrev pub opens_after : Part → OwnEvent → ℕ
opens_after p (Opens id) = p.opens + 1
opens_after p (Asks id r) = p.opens
opens_after p (Closes id) = p.opens

-- the part after an event of his own, of which nothing else came to him yet
abbrev pub with_own : Part → OwnEvent → Part
with_own p own_event = record p { opens = opens_after p own_event; sessions = sessions_after p own_event }

-- the values after a change
abbrev pub values_after : List (Option (List Bit)) → Option Change → List (Option (List Bit))
values_after values None = values
values_after values (Some c) = slice_set values c.object.0 (Some c.value)

-- races, and one more that is shown
abbrev pub races_after : List ShownRace → Option ShownRace → List ShownRace
races_after races None = races
races_after races (Some race) = races ++ race ∷ []

-- a session after a change of grants: its objects have their numbers in the new view, and what may not be watched any more is out of it
abbrev pub granted_session : GrantItem → OpenSessionState → OpenSessionState
granted_session g t = moved_session (moved_to g.moved (length g.view.nodes)) (λ o. is_some (denied_seen g.view right.Watch o)) t

-- the value that came of an object; where none came, what was known of it
abbrev pub come_or_known : (came known : Option (List Bit)) → Option (List Bit)
come_or_known (Some bits) known = Some bits
come_or_known None known = known

-- values that came, where the object of a number has this one if none came of it
abbrev pub with_known : List (Option (List Bit)) → ℕ → Option (List Bit) → List (Option (List Bit))
with_known came n known = slice_set came n (come_or_known (slice_index_or came n None) known)

-- the values after a change of grants: those that came with it; of each object that was known before, where none came, what was known of it
abbrev pub granted_values : (moved : List ℕ) → (known came : List (Option (List Bit))) → List (Option (List Bit))
granted_values [] known came = came
granted_values (n ∷ moved) [] came = came
granted_values (n ∷ moved) (v ∷ known) came = granted_values moved known (with_known came n v)

-- the part after a change of grants
abbrev pub part_granted : Part → GrantItem → Part
part_granted p g = record {
  view = g.view;
  opens = p.opens;
  sessions = map (granted_session g) p.sessions;
  values = granted_values g.moved p.values g.values;
  time = p.time;
  finished = p.finished;
  races = g.races;
}

-- the part after what an operator ordered of him: his grants changed, or his open sessions ended
abbrev pub part_ordered : Part → OrderItem → Part
part_ordered p (Grant g) = part_granted p g
part_ordered p End = record p { sessions = [] }

-- the part after what of an entry with an event of his own, or of nobody's, goes to him
abbrev pub part_after_entry : Part → Option OwnEvent → Item → Part
part_after_entry p own_event i = record {
  view = p.view;
  opens = option_map_or (opens_after p) own_event p.opens;
  sessions = map (notified_session i.change (unwrap_or i.time p.time)) (option_map_or (sessions_after p) own_event p.sessions);
  values = values_after p.values i.change;
  time = unwrap_or i.time p.time;
  finished = unwrap_or i.finished p.finished;
  races = races_after p.races i.race;
}

-- the part after what of an entry goes to him
abbrev pub part_after : Part → Item → Part
part_after p i = option_map_or (part_ordered p) i.order (part_after_entry p i.own_event i)

-- the replies to his own events, in turn, from a part on
abbrev pub replies_from : Part → List Item → List Reply
replies_from p [] = []
replies_from p (i ∷ items) = cons_option (option_map (reply_of p) i.own_event) (replies_from (part_after p i) items)

-- ---- what a part can take up

-- an event of his own: there is a number for a session that he opens, and one that asks or is closed is open
abbrev pub takes_own : Part → OwnEvent → Bool
takes_own p (Opens id) = nat_lt p.opens (2 ^ 64 - 1)
takes_own p (Asks id r) = is_some (index_of p.sessions id)
takes_own p (Closes id) = is_some (index_of p.sessions id)

-- a change of his grants: the numbers rise, and each object of his sessions has one
abbrev pub takes_grant : Part → GrantItem → Bool
takes_grant p g = rises g.moved && list_all (is_session_within (length g.moved)) p.sessions

-- what an operator ordered of him
abbrev pub takes_order : Part → OrderItem → Bool
takes_order p (Grant g) = takes_grant p g
takes_order p End = true

-- one of them, or none; no entry is both
abbrev pub takes_by : Part → Option OwnEvent → Option OrderItem → Bool
takes_by p None None = true
takes_by p (Some own_event) None = takes_own p own_event
takes_by p None (Some order) = takes_order p order
takes_by p (Some own_event) (Some order) = false

-- what of an entry goes to him
abbrev pub takes : Part → Item → Bool
takes p i = takes_by p i.own_event i.order

-- all items, in turn
abbrev pub takes_all : Part → List Item → Bool
takes_all p [] = true
takes_all p (i ∷ items) = takes p i && takes_all (part_after p i) items

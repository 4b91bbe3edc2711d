-- What of a log goes to a user.
use Rattle.std.specs.Prelude.{ℕ, zero, suc, ◌==◌, ◌&&◌, ◌||◌, Bool, true, false, if◌then◌else◌, List, [], ◌∷◌, length, map, slice_get, slice_index_or, Option, Some, None, is_none, is_some, option_map, unwrap_or}
use Rattle.std.specs.List.{cons_option, filter_map}
use Rattle.std.specs.Option.{option_map_or}
use Rattle.vp_bits.specs.declared.bit.Bit.{Bit}
use Rattle.vp_bits.specs.declared.bit.Bit.TheVariants.{Unknown}
use Rattle.vp_pragma.specs.declared.rights.Right.TheVariants as right
use Rattle.vp_elab.specs.Tree.{Tree, below}
use Rattle.vp_policy.specs.Filter.{denial_at}
use Rattle.vp_policy.specs.PolicyState.{PolicyState}
use Rattle.vp_policy.specs.Users.{Member, member_at, user_of}
use Rattle.vp_policy.specs.View.{known_view, listed_marks, marked}
use Rattle.vp_sim.specs.States as sim
use Rattle.vp_expr.specs.declared.change.Change.{Change}
use Rattle.vp_vpi.specs.declared.races.ShownRace.{ShownRace}
use Rattle.vp_vpi.specs.Observers.{is_readable, kind_at}
use Rattle.vp_world.specs.Races.{is_shown, race_seen, races_seen}
use Rattle.vp_answer.specs.declared.request.GrantChange.{GrantChange}
use Rattle.vp_answer.specs.declared.request.SessionId.{SessionId}
use Rattle.vp_answer.specs.declared.reply.Reply.{Reply}
use Rattle.vp_answer.specs.declared.reply.Reply.TheVariants as reply
use Rattle.vp_world.specs.Entries.{Entry}
use Rattle.vp_world.specs.declared.event.Event.{Event}
use Rattle.vp_world.specs.declared.event.Event.TheVariants as event
use Rattle.vp_world.specs.History.{after}
use Rattle.vp_world.specs.Worlds.{Opening, State, start}
use Rattle.vp_replay.specs.Known.{known_also, known_index}
pub use Rattle.vp_replay.specs.declared.item.Projection.{Projection}
use Rattle.vp_replay.specs.declared.item.GrantItem.{GrantItem}
use Rattle.vp_replay.specs.declared.item.Item.{Item}
use Rattle.vp_replay.specs.declared.item.OrderItem.{OrderItem}
use Rattle.vp_replay.specs.declared.item.OrderItem.TheVariants.{End, Grant}
use Rattle.vp_replay.specs.declared.item.OwnEvent.{OwnEvent}
use Rattle.vp_replay.specs.declared.item.OwnEvent.TheVariants.{Asks, Closes, Opens}

-- ---- numbers

-- the number of the object at an index among those that are known; none where it is not
abbrev pub number_in : (known : List Bool) → (object : ℕ) → Option ℕ
number_in [] o = None
number_in (true ∷ known) zero = Some zero
number_in (false ∷ known) zero = None
number_in (true ∷ known) (suc o) = option_map suc (number_in known o)
number_in (false ∷ known) (suc o) = number_in known o

-- the numbers, among what is known now, of what was known before
abbrev pub moved_numbers : (known now : List Bool) → List ℕ
moved_numbers known now = map (λ k. option_map_or (λ n. n) (number_in now (known_index known k)) 0) (below (length (marked known known)))

-- ---- what a user may know of it

-- the value of the known object of a number, if it has one and a user may read it
abbrev pub value_seen : sim.State → Member → (known : List Bool) → (number : ℕ) → Option (List Bit)
value_seen run u known k =
    if is_readable (kind_at run.design.tree (known_index known k)) && is_none (denial_at run.design.tree u right.Read (known_index known k))
    then Some (slice_index_or run.values (known_index known k) (Unknown ∷ [])) else None

-- the values of the known objects that a user may read, but for the objects that are marked
abbrev pub values_but : (marks : List Bool) → sim.State → Member → (known : List Bool) → List (Option (List Bit))
values_but marks run u known =
    map (λ k. if unwrap_or (slice_get marks (known_index known k)) false then None else value_seen run u known k) (below (length (marked known known)))

-- the values of the known objects that a user may read
abbrev pub values_seen : sim.State → Member → (known : List Bool) → List (Option (List Bit))
values_seen run u known = values_but [] run u known

-- a user knows an object and may read it
abbrev pub is_read : Tree → Member → (known : List Bool) → ℕ → Bool
is_read tree u known o = unwrap_or (slice_get known o) false && is_none (denial_at tree u right.Read o)

-- of each object whether a user knows it and may read it
abbrev pub read_marks : Tree → Member → (known : List Bool) → List Bool
read_marks tree u known = map (is_read tree u known) (below (length known))

-- a user may read or watch an object
abbrev pub is_followed : Tree → Member → ℕ → Bool
is_followed tree u o = is_none (denial_at tree u right.Read o) || is_none (denial_at tree u right.Watch o)

-- a change of an object that a user knows and may read or watch, under its number
abbrev pub change_seen : Tree → Member → (known : List Bool) → Option Change → Option Change
change_seen tree u known None = None
change_seen tree u known (Some c) =
    option_map (λ k. record { object = record { 0 = k }; value = c.value })
    (if is_followed tree u c.object.0 then number_in known c.object.0 else None)

-- ---- items

-- a session is one of a user
abbrev pub own_if : (user : ℕ) → SessionId → OwnEvent → Option OwnEvent
own_if u id own_event = if id.user.0 == u then Some own_event else None

-- an opening of a session, by its reply
abbrev pub opened_by_reply : (user : ℕ) → Reply → Option OwnEvent
opened_by_reply u (reply.Opened id) = own_if u id (Opens id)
opened_by_reply u r = None

-- an event, if it is a user's own
abbrev pub own_of : (user : ℕ) → Event → Reply → Option OwnEvent
own_of u (event.Open name token) r = opened_by_reply u r
own_of u (event.Ask id query) r = own_if u id (Asks id query)
own_of u (event.Close id) r = own_if u id (Closes id)
own_of u (event.Grant change) r = None
own_of u (event.End order) r = None
own_of u (event.Halt order) r = None
own_of u (event.Step k) r = None
own_of u event.Advance r = None
own_of u event.TakeJob r = None
own_of u (event.Book finding) r = None

-- a name is that of the user of a number
abbrev pub is_name_of : (user : ℕ) → PolicyState → (name : List ℕ) → Bool
is_name_of u policy name = option_map_or (λ v. v == u) (user_of policy.members name) false

-- a change of grants, if it is one of a user's
abbrev pub regrant_of : (user : ℕ) → PolicyState → Event → Option GrantChange
regrant_of u policy (event.Grant change) = if is_name_of u policy change.user then Some change else None
regrant_of u policy e = None

-- an event ends a user's open sessions, by an operator's order
abbrev pub is_end_of : (user : ℕ) → PolicyState → Event → Bool
is_end_of u policy (event.End order) = is_name_of u policy order.user
is_end_of u policy e = false

-- what a user knows after an event
abbrev pub known_after : (user : ℕ) → (before following : State) → (known : List Bool) → Event → List Bool
known_after u s t known e =
    option_map_or (λ g. known_also t.run.design.tree (member_at t.policy.members u) known t.run.design.tree.nodes) (regrant_of u s.policy e) known

-- what goes to him of a change of his grants: the new view, in which each object that he knew has a number, the present values of what he may
-- newly read, and the races that he is shown now
abbrev pub granted_of : (user : ℕ) → (before following : State) → (known now : List Bool) → GrantChange → GrantItem
granted_of u s t known now change = record {
  envelope = change.envelope;
  access = change.access;
  view = known_view t.run.design (member_at t.policy.members u) now;
  moved = moved_numbers known now;
  values = values_but (read_marks s.run.design.tree (member_at s.policy.members u) known) t.run (member_at t.policy.members u) now;
  races = races_seen t.run.design.tree (member_at t.policy.members u) t.book;
}

-- what goes to him of what an operator orders: that his sessions ended, or a change of his grants
abbrev pub order_by : (is_end : Bool) → Option GrantItem → Option OrderItem
order_by true granted = Some End
order_by false granted = option_map Grant granted

-- the same of an event
abbrev pub order_of : (user : ℕ) → (before following : State) → (known now : List Bool) → Event → Option OrderItem
order_of u s t known now e = order_by (is_end_of u s.policy e) (option_map (granted_of u s t known now) (regrant_of u s.policy e))

-- a number, and whether something is so, if they are others than before
abbrev pub other_number : (before following : ℕ) → Option ℕ
other_number before following = if before == following then None else Some following

-- whether something is so, if that is other than before
abbrev pub other_flag : (before following : Bool) → Option Bool
other_flag true true = None
other_flag false false = None
other_flag true false = Some false
other_flag false true = Some true

-- a race that is booked, if a user is shown it
abbrev pub race_of_event : Tree → Member → Event → Option ShownRace
race_of_event tree u (event.Book finding) = if is_shown tree u finding then Some (race_seen tree u finding) else None
race_of_event tree u e = None

-- what of an entry goes to a user, by the states before and after it
abbrev pub item_of : (user : ℕ) → (before following : State) → (known now : List Bool) → Entry → Item
item_of u s t known now e = record {
  own_event = own_of u e.event e.reply;
  order = order_of u s t known now e.event;
  change = change_seen s.run.design.tree (member_at s.policy.members u) known e.change;
  time = other_number s.run.time e.time;
  finished = other_flag s.run.finished e.finished;
  race = race_of_event s.run.design.tree (member_at s.policy.members u) e.event;
}

-- an item, if it is any
abbrev pub item_if : Item → Option Item
item_if i =
    if is_none i.own_event && is_none i.order && is_none i.change && is_none i.time && is_none i.finished && is_none i.race then None else Some i

-- what of entries goes to a user, from a state on: an entry of which nothing goes to him leaves no trace
abbrev pub items_from : Opening → (user : ℕ) → State → (known : List Bool) → List Entry → List Item
items_from opening u s known [] = []
items_from opening u s known (e ∷ log) =
    cons_option (item_if (item_of u s (after opening s e.event) known (known_after u s (after opening s e.event) known e.event) e))
    (items_from opening u (after opening s e.event) (known_after u s (after opening s e.event) known e.event) log)

-- what a user knows at the opening
abbrev pub known_at_first : Opening → (user : ℕ) → List Bool
known_at_first opening u = listed_marks opening.design.tree (member_at opening.policy.members u) opening.design.tree.nodes

-- what of a log goes to a user
abbrev pub projection : Opening → (user : ℕ) → List Entry → Projection
projection opening u log = record {
  values = values_seen (sim.start opening.design) (member_at opening.policy.members u) (known_at_first opening u);
  items = items_from opening u (start opening) (known_at_first opening u) log;
}

-- an entry is of a user's own event
abbrev pub is_own : (user : ℕ) → Entry → Bool
is_own u e = is_some (own_of u e.event e.reply)

-- the reply, if the event is a user's own
abbrev pub own_reply : (user : ℕ) → Entry → Option Reply
own_reply u e = option_map (λ o. e.reply) (own_of u e.event e.reply)

-- the replies in a log to a user's own events, in order
abbrev pub replies_of : (user : ℕ) → List Entry → List Reply
replies_of u log = filter_map (own_reply u) log

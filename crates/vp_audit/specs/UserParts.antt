-- A user's part of a world, event by event (profile).
use Rattle.std.specs.Prelude.{◌≡◌, ℕ, ◌++◌, Bool, List, [], ◌∷◌, filter, map, slice_get, slice_index, Option, Some, option_and_then, option_map}
use Rattle.std.specs.Option.{option_map_or}
use Rattle.vp_bits.specs.declared.bit.Bit.{Bit}
use Rattle.vp_policy.specs.Users.{Member, member_at}
use Rattle.vp_policy.specs.View.{known_view, view_of}
use Rattle.vp_sim.specs.States as sim
use Rattle.vp_vpi.specs.Renumbered.{moved_session_state}
use Rattle.vp_answer.specs.OpenSessions.{OpenSessionState, is_of}
use Rattle.vp_world.specs.Entries.{Entry}
use Rattle.vp_world.specs.History.{after, state_after}
use Rattle.vp_world.specs.Races.{races_seen}
use Rattle.vp_world.specs.Worlds.{Opening, State, start}
use Rattle.vp_replay.specs.declared.item.Item.{Item}
use Rattle.vp_replay.specs.Known.{known_index}
use Rattle.vp_replay.specs.Parts.{Part, first_part, part_after, reply_of}
use Rattle.vp_audit.specs.Projections.{item_if, item_of, known_after, known_at_first, own_reply, projection, value_seen}

-- ---- what a user's part of a world is

-- a session of a part, whose objects have the numbers that they have in the world
abbrev pub session_in_world : (known : List Bool) → OpenSessionState → OpenSessionState
session_in_world known t = record { id = t.id; session_state = moved_session_state (known_index known) t.session_state }

-- the value of each known object that a user may read is among these
abbrev pub KnowsValues : sim.State → Member → (known : List Bool) → List (Option (List Bit)) → Type 0
KnowsValues run u known values = (k : ℕ) → (bits : List Bit) → value_seen run u known k ≡ Some bits → slice_get values k ≡ Some (Some bits)

-- a part is that of a user in a state of a world, where he knows these objects: his view, how often he has opened a session, his open sessions,
-- the values that he may read, the time, whether $finish was executed, and the races that he is shown
pub record IsUserPart (u : ℕ) (s : State) (known : List Bool) (p : Part) : Type 0 where
  pub view : p.view ≡ known_view s.run.design (member_at s.policy.members u) known
  pub opens : p.opens ≡ slice_index s.opens u
  pub sessions : map (session_in_world known) p.sessions ≡ filter (is_of u) s.sessions
  pub values : KnowsValues s.run (member_at s.policy.members u) known p.values
  pub time : p.time ≡ s.run.time
  pub finished : p.finished ≡ s.run.finished
  pub races : p.races ≡ races_seen s.run.design.tree (member_at s.policy.members u) s.book

-- ---- event by event

-- what a user knows after a log, from a state on
abbrev pub known_from : Opening → (user : ℕ) → State → (known : List Bool) → List Entry → List Bool
known_from opening u s known [] = known
known_from opening u s known (e ∷ log) =
    known_from opening u (after opening s e.event) (known_after u s (after opening s e.event) known e.event) log

-- what a user knows after a log
abbrev pub known_in : Opening → (user : ℕ) → List Entry → List Bool
known_in opening u log = known_from opening u (start opening) (known_at_first opening u) log

-- a part after items, in turn
abbrev pub part_from : Part → List Item → Part
part_from p [] = p
part_from p (i ∷ items) = part_from (part_after p i) items

-- the part of a user that comes of what he sees at the opening and of what of a log goes to him
abbrev pub part_of : Opening → (user : ℕ) → List Entry → Part
part_of opening u log =
    part_from (first_part (view_of opening.design (member_at opening.policy.members u)) (projection opening u log).values) (projection opening u log).items

-- what of an entry goes to a user, in a state in which he knows these objects, if anything does
abbrev pub goes_in : Opening → (user : ℕ) → State → (known : List Bool) → Entry → Option Item
goes_in opening u s known e = item_if (item_of u s (after opening s e.event) known (known_after u s (after opening s e.event) known e.event) e)

-- what of an entry after a log goes to a user, if anything does
abbrev pub goes_after : Opening → (user : ℕ) → List Entry → Entry → Option Item
goes_after opening u log e = goes_in opening u (state_after opening log) (known_in opening u log) e

-- an entry after a log: the part of a user before it is his part of the world; the part after it is a function of this and of what of the
-- entry goes to him, and the same where nothing does; so is the reply, if the event is his own; and the part after it is his part of the
-- world again
pub record IsEventByEvent (opening : Opening) (u : ℕ) (log : List Entry) (e : Entry) : Type 0 where
  pub part : IsUserPart u (state_after opening log) (known_in opening u log) (part_of opening u log)
  pub following : part_of opening u (log ++ e ∷ []) ≡ option_map_or (part_after (part_of opening u log)) (goes_after opening u log e) (part_of opening u log)
  pub reply : own_reply u e ≡ option_and_then (λ (i : Item). option_map (reply_of (part_of opening u log)) i.own_event) (goes_after opening u log e)
  pub next_part : IsUserPart u (state_after opening (log ++ e ∷ [])) (known_in opening u (log ++ e ∷ [])) (part_of opening u (log ++ e ∷ []))

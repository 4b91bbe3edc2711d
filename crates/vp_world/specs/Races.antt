-- What a user is shown of the races in the book (profile).
use Rattle.std.specs.Prelude.{ℕ, Bool, true, false, if◌then◌else◌, List, [], ◌++◌, filter, map, codes, Option, Some, is_none}
use Rattle.vp_pragma.specs.declared.rights.Right.TheVariants as right
use Rattle.vp_elab.specs.declared.object.Kind.{Kind}
use Rattle.vp_elab.specs.declared.object.Kind.TheVariants as kind
use Rattle.vp_elab.specs.declared.object.ObjectId.{ObjectId}
use Rattle.vp_elab.specs.Tree.{Tree, full_name_at}
use Rattle.vp_policy.specs.Filter.{denial_at}
use Rattle.vp_policy.specs.Users.{Member}
use Rattle.vp_race.specs.Orders.{sources_of}
use Rattle.vp_race.specs.Segments.{FindingState, value_after}
use Rattle.vp_race.specs.States.{State}
use Rattle.vp_vpi.specs.declared.races.ShownRace.{ShownRace}
use Rattle.vp_vpi.specs.Observers.{Observer, kind_at}
use Rattle.vp_world.specs.UserObservers.{observer_of, with_races}

-- a kind is that of a net or a reg: a step of such an object is that of a connection, which is named by its port
abbrev pub is_port : Option Kind → Bool
is_port (Some kind.Net) = true
is_port (Some kind.Reg) = true
is_port other = false

-- a step is named by the full name of its process, and that of a connection by `port ` and the full name of its port
abbrev pub step_name : Tree → (object : ℕ) → List ℕ
step_name tree o = (if is_port (kind_at tree o) then codes "port " else []) ++ full_name_at tree o

-- of some steps, the names of those whose object a user may list
abbrev pub steps_seen : Tree → Member → List ObjectId → List (List ℕ)
steps_seen tree u sources = map (λ o. step_name tree o.0) (filter (λ o. is_none (denial_at tree u right.List o.0)) sources)

-- a user is shown a race if he has the race right on its object
abbrev pub is_shown : Tree → Member → FindingState → Bool
is_shown tree u f = is_none (denial_at tree u right.Race f.object.0)

-- a race as a user is shown it
abbrev pub race_seen : Tree → Member → FindingState → ShownRace
race_seen tree u f = record {
  name = full_name_at tree f.object.0;
  time = f.segment.start.time;
  values =
      (value_after f.segment.start f.segment.order f.object.0, value_after f.segment.start f.second f.object.0);
  first_steps = steps_seen tree u (sources_of f.segment.start f.segment.order);
  second_steps = steps_seen tree u (sources_of f.segment.start f.second);
}

-- the races of a book that a user is shown, in the order in which they were booked
abbrev pub races_seen : Tree → Member → List FindingState → List ShownRace
races_seen tree u book = map (race_seen tree u) (filter (is_shown tree u) book)

-- what a session can look up of a simulation and a book of races, by a user of its policy
abbrev pub observer_with : State → Member → List FindingState → Observer
observer_with run u book = with_races (races_seen run.design.tree u book) (observer_of run u)

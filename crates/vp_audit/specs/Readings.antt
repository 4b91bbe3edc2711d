-- What is kept of a world while its log is read for one user.
use Rattle.std.specs.Prelude.{◌≡◌, ℕ, ◌∷◌, [], ◌++◌, ◌||◌, ◌&&◌, if◌then◌else◌, Bool, false, List, None, Option, Some, Result, IfOk, OnOk, is_none, option_map, slice_get, slice_index_or, unwrap_or}
use Rattle.vp_bits.specs.declared.bit.Bit.{Bit}
use Rattle.vp_bits.specs.declared.bit.Bit.TheVariants.{Unknown}
use Rattle.vp_pragma.specs.declared.rights.Right.TheVariants as right
use Rattle.vp_elab.specs.Built.{Elaborated}
use Rattle.vp_elab.specs.Tree.{Tree}
use Rattle.vp_policy.specs.Filter.{denial_at}
use Rattle.vp_policy.specs.PolicyState.{PolicyState}
use Rattle.vp_policy.specs.Users.{Member}
use Rattle.vp_race.specs.Segments.{FindingState}
use Rattle.vp_expr.specs.Changes.{values_with}
use Rattle.vp_vpi.specs.Observers.{is_readable, kind_at}
use Rattle.vp_answer.specs.declared.request.GrantChange.{GrantChange}
use Rattle.vp_world.specs.Entries.{Entry}
use Rattle.vp_world.specs.declared.event.Event.{Event}
use Rattle.vp_world.specs.declared.event.Event.TheVariants as event
use Rattle.vp_world.specs.History.{after, entry_of, refusal_of}
use Rattle.vp_world.specs.Worlds.{Opening, State}
use Rattle.vp_replay.specs.declared.error.AuditError.{AuditError}
use Rattle.vp_replay.specs.declared.item.GrantItem.{GrantItem}
use Rattle.vp_replay.specs.declared.item.Item.{Item}
use Rattle.vp_audit.specs.Projections.{granted_of, item_if, item_of, known_after, regrant_of}

-- what of a state of a world decides what goes to a user, and which objects he knows
pub record LogReader : Type 0 where
  pub design : Elaborated
  pub user : ℕ
  pub policy : PolicyState
  pub known : List Bool
  pub values : List (List Bit)
  pub book : List FindingState
  pub time : ℕ
  pub finished : Bool

-- that of a state
abbrev pub reading_of : (user : ℕ) → State → (known : List Bool) → LogReader
reading_of u s known = record {
  design = s.run.design;
  user = u;
  policy = s.policy;
  known = known;
  values = s.run.values;
  book = s.book;
  time = s.run.time;
  finished = s.run.finished;
}

-- an entry is what a world in a state writes of an event that it accepts
pub record Continues (opening : Opening) (s : State) (e : Entry) : Type 0 where
  pub full : Bool
  pub accepted : refusal_of opening full s e.event ≡ None
  pub entry : e ≡ entry_of opening s e.event

-- an object may be in one list or in another
abbrev pub either_marked : (first second : List Bool) → List Bool
either_marked [] second = []
either_marked (a ∷ first) [] = []
either_marked (a ∷ first) (b ∷ second) = (a || b) ∷ either_marked first second

-- the value of an object, if it has one and a user may read it
abbrev pub value_of : Tree → (values : List (List Bit)) → Member → ℕ → Option (List Bit)
value_of tree values u o =
    if is_readable (kind_at tree o) && is_none (denial_at tree u right.Read o) then Some (slice_index_or values o (Unknown ∷ [])) else None

-- the value of an object, if it has one and a user may read it, unless it is marked
abbrev pub value_but : (marks : List Bool) → Tree → (values : List (List Bit)) → Member → ℕ → Option (List Bit)
value_but marks tree values u o = if unwrap_or (slice_get marks o) false then None else value_of tree values u o

-- the races of a book after an event
abbrev pub book_after : List FindingState → Event → List FindingState
book_after book (event.Book finding) = book ++ finding ∷ []
book_after book e = book

-- the values, the book and the time after an entry
abbrev pub followed : LogReader → Entry → LogReader
followed r e = record r {
  values = values_with r.values e.change;
  book = book_after r.book e.event;
  time = e.time;
  finished = e.finished;
}

-- what goes to a user of a change of a grant, and the reading after it
pub record Grants (u : ℕ) (s t : State) (known : List Bool) (change : GrantChange) (result : Result (Option GrantItem) AuditError) (r : LogReader) : Type 0 where
  pub item : IfOk result (λ g. g ≡ option_map (granted_of u s t known (known_after u s t known (event.Grant change))) (regrant_of u s.policy (event.Grant change)))
  pub reading : OnOk result (r ≡ reading_of u t (known_after u s t known (event.Grant change)))

-- what goes to a user of an entry, and the reading after it
pub record Reads (u : ℕ) (opening : Opening) (s : State) (known : List Bool) (e : Entry) (result : Result (Option Item) AuditError) (r : LogReader) : Type 0 where
  pub item : IfOk result (λ i. i ≡ item_if (item_of u s (after opening s e.event) known (known_after u s (after opening s e.event) known e.event) e))
  pub reading : OnOk result (r ≡ reading_of u (after opening s e.event) (known_after u s (after opening s e.event) known e.event))

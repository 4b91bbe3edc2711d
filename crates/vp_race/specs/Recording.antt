-- A simulation whose time slots are recorded as segments (profile).
use Rattle.std.specs.Prelude.{◌≡◌, ℕ, ◌-◌, ◌≤◌, ◌==◌, suc, count_by, nat_le, nat_lt, true, false, if◌then◌else◌, List, [], ◌∷◌, ◌++◌, length, replicate, sum_by, Option, Some, None, IfSome}
use Rattle.std.specs.List.{find}
use Rattle.std.specs.Option.{option_map_or}
use Rattle.std.specs.Arc.{arc_value}
use Rattle.circular_buffer.specs.Buffer.{keep_last}
use Rattle.vp_elab.specs.declared.object.ObjectId.{ObjectId}
use Rattle.vp_sim.specs.States.{State, eligible, source_of, step}
use Rattle.vp_race.specs.Orders.{HasEnd, after_choices, has_choice, is_over, reached}
use Rattle.vp_race.specs.Segments.{Run}
use Rattle.vp_race.specs.declared.start.Seen.{Seen}
use Rattle.vp_race.specs.declared.start.Seen.TheVariants.{First, Again}

-- a segment that is not closed: the state with which it began, and what the run chose since
pub record Opened : Type 0 where
  pub start : State
  pub order : List ℕ

-- the segments of a run: the one that is open, how many closed, of these the last, and the number of the last that was handed out as a
-- job, 0 before the first
pub record Segments : Type 0 where
  pub opened : Opened
  pub count : ℕ
  pub kept : List Run
  pub last_job : ℕ

-- a simulation, and the segments of its run
pub record Recorded : Type 0 where
  pub simulation : State
  pub segments : Segments

-- a segment begins with a state
abbrev pub opened_at : State → Opened
opened_at s = record { start = s; order = [] }

-- the segments at the start
abbrev pub first_segments : State → Segments
first_segments s = record { opened = opened_at s; count = 0; kept = []; last_job = 0 }

-- after an advance and a put a segment begins anew
abbrev pub with_anew : Segments → State → Segments
with_anew r s = record r { opened = opened_at s }

-- so many closed segments are kept
abbrev pub kept_limit : ℕ
kept_limit = 256

-- and of so many choices together, those among them that were the only ones (profile)
abbrev pub choices_limit : ℕ
choices_limit = 16777216

-- how many choices closed segments have together
abbrev pub choices_of : List Run → ℕ
choices_of runs = sum_by (λ run. length run.order) runs

-- the last of some closed segments that have at most so many choices together
abbrev pub last_within : (most : ℕ) → List Run → List Run
last_within most [] = []
last_within most (run ∷ runs) = if nat_le (choices_of (run ∷ runs)) most then run ∷ runs else last_within most runs

-- the last of some closed segments
abbrev pub last_kept : List Run → List Run
last_kept runs = last_within choices_limit (keep_last kept_limit runs)

-- the open segment, closed by a last choice
abbrev pub closed_run : Segments → (choice : ℕ) → Run
closed_run r choice = record { number = suc r.count; start = r.opened.start; order = r.opened.order ++ choice ∷ [] }

-- after a step by a choice, to a state: where nothing is left to do the segment closes, and else it goes on
abbrev pub with_step : Segments → (choice : ℕ) → State → Segments
with_step r choice s =
    if is_over s
    then record r { opened = opened_at s; count = suc r.count; kept = last_kept (r.kept ++ closed_run r choice ∷ []) }
    else record r { opened = record r.opened { order = r.opened.order ++ choice ∷ [] } }

-- the kept segment of a number
abbrev pub kept_of : Segments → (number : ℕ) → Option Run
kept_of r number = find (λ (run : Run). run.number == number) r.kept

-- the oldest kept segment that was not handed out
abbrev pub next_job : Segments → Option Run
next_job r = find (λ (run : Run). nat_lt r.last_job run.number) r.kept

-- how many kept segments were not handed out
abbrev pub jobs_waiting : Segments → ℕ
jobs_waiting r = count_by (λ (run : Run). nat_lt r.last_job run.number) r.kept

-- the segments after a job, which hands out a segment
abbrev pub with_job : Segments → Run → Segments
with_job r run = record r { last_job = run.number }

-- ---- as it is kept

-- the state of a simulation that was seen
abbrev pub state_seen : Seen → State
state_seen (First s) = s.value
state_seen (Again s) = (arc_value s).value.value

-- closed segments that are kept, and how many closed
pub record Ring : Type 0 where
  pub kept : List Run
  pub count : ℕ

-- one more segment closes
abbrev pub with_closed : Ring → Opened → Ring
with_closed ring opened = record {
  kept = last_kept (ring.kept ++ record { number = suc ring.count; start = opened.start; order = opened.order } ∷ []);
  count = suc ring.count;
}

-- segments are numbered one after another, from a number on
abbrev pub AreNumbered : (from : ℕ) → List Run → Type 0
AreNumbered from [] = Unit {0}
AreNumbered from (run ∷ runs) = (run.number ≡ from) × AreNumbered (suc from) runs

-- steps lead from a state that was reached to another, each of them the only one that there was; these are their processes
abbrev pub Forced : Option State → (sources : List ObjectId) → State → Type 0
Forced None sources end = ⊥
Forced (Some s) [] end = s ≡ end
Forced (Some s) (source ∷ sources) end =
    (nat_lt 1 (length (eligible s)) ≡ false) × (source_of s 0 ≡ source) × Forced (reached (step s 0)) sources end

-- what is kept from the first choice of a segment on: the processes of the steps before it, its state, what the run chose from there on,
-- and for how many more choices there is room
pub record Chosen : Type 0 where
  pub sources : List ObjectId
  pub state : State
  pub order : List ℕ
  pub room : ℕ

-- what the run chose: first as often as it had no choice, and then this
abbrev pub order_from : (forced : ℕ) → Option Chosen → List ℕ
order_from forced None = replicate forced 0
order_from forced (Some c) = replicate (length c.sources) 0 ++ c.order

-- a first choice of a segment that began so: forced steps lead to a state in which something is left to do, and there are several events
pub record BeginsWith (start : State) (c : Chosen) : Type 0 where
  pub forced : Forced (Some start) c.sources c.state
  pub several : nat_lt 1 (length (eligible c.state)) ≡ true
  pub unfinished : is_over c.state ≡ false

-- an open segment in which the run takes a step: its start, the processes of its steps where none had a choice, for how many more of
-- them there is room, and what is kept from its first choice on
pub record Begun : Type 0 where
  pub start : State
  pub sources : List ObjectId
  pub room : ℕ
  pub chosen : Option Chosen

-- there is room for one choice more
abbrev pub HasRoom : Option Begun → Type 0
HasRoom None = ⊥
HasRoom (Some begun) = 1 ≤ option_map_or (λ (c : Chosen). c.room) begun.chosen begun.room

-- where the run has a choice now, its first one is kept
abbrev pub IsKept : Option Begun → State → Type 0
IsKept None s = ⊥
IsKept (Some begun) s = begun.chosen ≡ None → is_over s ≡ false → nat_lt 1 (length (eligible s)) ≡ false

-- the open segment at a state, if the run took a step in it, and if not
abbrev pub opened_by : Option Begun → State → Opened
opened_by None s = opened_at s
opened_by (Some begun) s = record { start = begun.start; order = order_from (length begun.sources) begun.chosen }

-- what the run chose leads from the segment's start to the state at which it stands
abbrev pub LeadsTo : State → (start : State) → (sources : List ObjectId) → Option Chosen → Type 0
LeadsTo s start sources None = Forced (Some start) sources s
LeadsTo s start sources (Some c) = BeginsWith start c × (after_choices c.state c.order ≡ Some s)

-- the same, if the run took a step
abbrev pub Stands : Option Begun → State → Type 0
Stands begun s = IfSome begun (λ (b : Begun). LeadsTo s b.start b.sources b.chosen)

-- one choice more, of the event of a process, where this is kept
abbrev pub with_choice_in : Begun → Option Chosen → (choice : ℕ) → (source : ObjectId) → Begun
with_choice_in begun None choice source =
    record begun { sources = begun.sources ++ source ∷ []; room = begun.room - 1; chosen = None }
with_choice_in begun (Some c) choice source =
    record begun { chosen = Some (record c { order = c.order ++ choice ∷ []; room = c.room - 1 }) }

-- the same
abbrev pub with_choice : Begun → (choice : ℕ) → (source : ObjectId) → Begun
with_choice begun choice source = with_choice_in begun begun.chosen choice source

-- a closed segment, from its start: where the run never had a choice these are the only steps, and else it had one at the first choice
abbrev pub IsClosed : (start : State) → (forced : ℕ) → Option Chosen → Type 0
IsClosed start forced None = HasEnd start (replicate forced 0) × (has_choice start (replicate forced 0) ≡ false)
IsClosed start forced (Some c) = BeginsWith start c × HasEnd c.state c.order

-- a segment's first choice, and what the run chose from there on
pub record IsFirstOf (run : Run) (c : Chosen) : Type 0 where
  pub begins : BeginsWith run.start c
  pub order : run.order ≡ replicate (length c.sources) 0 ++ c.order
  pub has_end : HasEnd c.state c.order

-- Events and what they do to a state, computed one by one. Each row is an equation that holds by computation.
use Rattle.std.proofs.Common.{◌≡◌, ℕ, true, false, List, [], ◌∷◌, Option, Some, None, Result, Ok, Err, refl}
use Rattle.vp_bits.specs.declared.bit.Bit.{Bit}
use Rattle.vp_bits.specs.declared.bit.Bit.TheVariants.{Zero, One, Unknown}
use Rattle.vp_elab.specs.Built.{Elaborated}
use Rattle.vp_source.specs.declared.statement.Edge.TheVariants.{Any, Posedge, Negedge}
use Rattle.vp_expr.specs.declared.tables.Process.TheVariants.{Procedure, Connection}
use Rattle.vp_expr.specs.declared.tables.Tables.{Tables}
use Rattle.vp_statement.specs.declared.effect.Effect.{Effect}
use Rattle.vp_statement.specs.declared.effect.Effect.TheVariants as effect
use Rattle.vp_strata.specs.declared.event.Delayed.TheVariants as later
use Rattle.vp_active_events.specs.declared.event.Event.TheVariants.{Evaluation, NetUpdate}
use Rattle.vp_active_events.specs.declared.event.NonblockingUpdate.{NonblockingUpdate}
use Rattle.vp_strata.specs.Queues.{Queue, no_events, with_active}
use Rattle.vp_expr.specs.declared.change.Change.{Change}
use Rattle.vp_sim.specs.declared.error.SimError.{SimError}
use Rattle.vp_sim.specs.declared.error.SimError.TheVariants.{Finished, Idle, SlotNotDone, NoSuchChoice, TimeLimit}
use Rattle.vp_waking.specs.declared.waiting.Waiting.{Waiting}
use Rattle.vp_waking.specs.declared.waiting.Waiting.TheVariants as wait
use Rattle.vp_sim.specs.States.{Goes, Outcome, Refuses, State, advance, restart_always, goes_on, performed, put_by, source_by, step_by}
use Rattle.vp_waking.specs.Waking.{is_of}

-- a design of no text: the tables say what runs
abbrev no_design : Elaborated
no_design = record {
  source = record { text = []; tokens = []; modules = []; connections = []; items = []; statements = []; expressions = []; terms = []; choices = [] };
  tree = record { nodes = []; viewports = []; authors = [] };
}

abbrev x : List Bit
x = Unknown ∷ []

abbrev one : List Bit
one = One ∷ []

-- two connections outwards, of object 1 to the net 2 and of object 2 to the net 3, and a procedure without statements
abbrev tables : Tables
tables = record {
  operands = [];
  widths = 1 ∷ 1 ∷ 1 ∷ 1 ∷ [];
  sizes = [];
  actions = [];
  processes =
      Connection (record { 0 = 1 }) (record { 0 = 2 }) ∷ Connection (record { 0 = 2 }) (record { 0 = 3 })
      ∷ Procedure (record { 0 = 0 }) (record { 0 = 0 }) true 7 ∷ [];
  awaited = [];
  awaited_ends = [];
}

-- a state of these at time 5
abbrev at_five : (waiting : List Waiting) → Queue → State
at_five waiting q = record {
  design = no_design;
  time = 5;
  finished = false;
  values = x ∷ x ∷ x ∷ x ∷ [];
  remaining = None ∷ None ∷ Some 9 ∷ [];
  waiting = waiting;
  queue = q;
}

abbrev none_wait : List Waiting
none_wait = wait.Nothing ∷ wait.Nothing ∷ wait.Nothing ∷ []

abbrev both_wait : List Waiting
both_wait = wait.Operands ∷ wait.Operands ∷ wait.Nothing ∷ []

-- what is reported of an outcome: what changed, or the refusal
abbrev told : Outcome → Result (Option Change) SimError
told (Goes s change) = Ok change
told (Refuses e) = Err e

-- what is after an outcome
abbrev state_after : {X : Type 0} → (State → X) → Outcome → Option X
state_after f (Goes s change) = Some (f s)
state_after f (Refuses e) = None

abbrev queue_after : Outcome → Option Queue
queue_after o = state_after (λ s. s.queue) o

abbrev waits_after : Outcome → Option (List Waiting)
waits_after o = state_after (λ s. s.waiting) o

abbrev change : (object : ℕ) → List Bit → Change
change object value = record { object = record { 0 = object }; value = value }

-- the event of the procedure, process 2, which is active alone, does this; nothing comes after it
abbrev does : Effect → Outcome
does e = performed tables (at_five both_wait (with_active no_events (Evaluation 2 ∷ []))) 0 2 (restart_always true 7 (goes_on None e)) e

-- ---- delays

-- `#0` is inactive
no_delay : queue_after (does (effect.Pauses 0 4)) ≡ Some (record no_events { inactive = 2 ∷ [] })
no_delay = refl

-- `#3` goes on at 8
delayed : queue_after (does (effect.Pauses 3 4)) ≡ Some (record no_events { future = record { time = 8; event = later.Evaluation 2 } ∷ [] })
delayed = refl

-- it goes on with its statement, and does not begin again
goes_on_controlled : state_after (λ s. s.remaining) (does (effect.Pauses 0 4)) ≡ Some (None ∷ None ∷ Some 4 ∷ [])
goes_on_controlled = refl

-- an always begins again where nothing remains, and its event keeps its place
begins_again : state_after (λ s. s.remaining) (does effect.Nothing) ≡ Some (None ∷ None ∷ Some 7 ∷ [])
begins_again = refl

keeps_its_place : queue_after (does effect.Nothing) ≡ Some (with_active no_events (Evaluation 2 ∷ []))
keeps_its_place = refl

-- of an initial nothing remains
initial_ends : restart_always false 7 (goes_on None effect.Nothing) ≡ None
initial_ends = refl

-- a test goes on with the statement that it chose, and where it chose none with what comes after it
proceeds : state_after (λ s. s.remaining) (does (effect.Proceeds (Some 3))) ≡ Some (None ∷ None ∷ Some 3 ∷ [])
proceeds = refl

chooses_none : goes_on (Some 4) (effect.Proceeds None) ≡ Some 4
chooses_none = refl

-- an assignment goes on with what comes after it
goes_on_after : goes_on (Some 4) (effect.Assigns 1 (Some 0) one) ≡ Some 4
goes_on_after = refl

-- 2^62 is too late
too_late : told (does (effect.Pauses 4611686018427387899 4)) ≡ Err TimeLimit
too_late = refl

just_in_time : told (does (effect.Pauses 4611686018427387898 4)) ≡ Ok None
just_in_time = refl

-- ---- nonblocking assignments

abbrev sets : (process object : ℕ) → List Bit → NonblockingUpdate
sets process object value = record { process = process; object = object; place = Some 0; value = value }

-- an update is made at the end of the current time
deferred : queue_after (does (effect.Defers 1 (Some 0) one 0)) ≡ Some (record no_events { active = Evaluation 2 ∷ []; nonblocking = sets 2 1 one ∷ [] })
deferred = refl

-- or at the end of a later one
deferred_later : queue_after (does (effect.Defers 1 (Some 0) one 2)) ≡ Some (record no_events { active = Evaluation 2 ∷ []; future = record { time = 7; event = later.Nonblocking (sets 2 1 one) } ∷ [] })
deferred_later = refl

abbrev steps : Outcome → List ℕ → Outcome
steps outcome [] = outcome
steps (Refuses e) (k ∷ ks) = Refuses e
steps (Goes s c) (k ∷ ks) = steps (step_by tables s k) ks

abbrev from : (waiting : List Waiting) → Queue → List ℕ → Outcome
from waiting q ks = steps (Goes (at_five waiting q) None) ks

-- what went on by `#0` is evaluated before updates of nonblocking assignments
inactive_first : queue_after (from none_wait (record no_events { inactive = 0 ∷ []; nonblocking = sets 2 1 one ∷ [] }) (0 ∷ [])) ≡ Some (record no_events { active = NetUpdate 0 x ∷ []; nonblocking = sets 2 1 one ∷ [] })
inactive_first = refl

-- the oldest update of a nonblocking assignment is made first
oldest_first : told (from none_wait (record no_events { nonblocking = sets 2 1 one ∷ sets 2 1 (Zero ∷ []) ∷ [] }) (0 ∷ [])) ≡ Ok (Some (change 1 one))
oldest_first = refl

newest_waits : told (from none_wait (record no_events { nonblocking = sets 2 1 one ∷ sets 2 1 (Zero ∷ []) ∷ [] }) (1 ∷ [])) ≡ Err NoSuchChoice
newest_waits = refl

newest_then : told (from none_wait (record no_events { nonblocking = sets 2 1 one ∷ sets 2 1 (Zero ∷ []) ∷ [] }) (0 ∷ 0 ∷ [])) ≡ Ok (Some (change 1 (Zero ∷ [])))
newest_then = refl

-- a number that is no object changes nothing
no_object : told (from none_wait (record no_events { nonblocking = sets 2 9 one ∷ [] }) (0 ∷ [])) ≡ Ok None
no_object = refl

-- ---- waking

-- a change of object 1 wakes what waits for it, and that waits no more
wakes_its_reader : queue_after (does (effect.Assigns 1 (Some 0) one)) ≡ Some (with_active no_events (Evaluation 2 ∷ Evaluation 0 ∷ []))
wakes_its_reader = refl

waits_no_more : waits_after (does (effect.Assigns 1 (Some 0) one)) ≡ Some (wait.Nothing ∷ wait.Operands ∷ wait.Nothing ∷ [])
waits_no_more = refl

-- an assignment of the value that is there wakes nobody
unchanged : queue_after (does (effect.Assigns 1 (Some 0) x)) ≡ Some (with_active no_events (Evaluation 2 ∷ []))
unchanged = refl

-- so does an update
unchanged_update : queue_after (from both_wait (with_active no_events (NetUpdate 0 x ∷ [])) (0 ∷ [])) ≡ Some no_events
unchanged_update = refl

-- an update of a net wakes what reads the net
net_wakes : queue_after (from both_wait (with_active no_events (NetUpdate 0 one ∷ [])) (0 ∷ [])) ≡ Some (with_active no_events (Evaluation 1 ∷ []))
net_wakes = refl

-- what is active already waits for nothing, and is not evaluated twice
not_twice : queue_after (from none_wait (with_active no_events (NetUpdate 0 one ∷ Evaluation 1 ∷ [])) (0 ∷ [])) ≡ Some (with_active no_events (Evaluation 1 ∷ []))
not_twice = refl

-- a continuous process waits for its operands again, and its update is active
drives : queue_after (from none_wait (with_active no_events (Evaluation 1 ∷ [])) (0 ∷ [])) ≡ Some (with_active no_events (NetUpdate 1 x ∷ []))
drives = refl

waits_again : waits_after (from none_wait (with_active no_events (Evaluation 1 ∷ [])) (0 ∷ [])) ≡ Some (wait.Nothing ∷ wait.Operands ∷ wait.Nothing ∷ [])
waits_again = refl

-- a procedure that waits is not active, and a wait tests again when it is woken
awaits : queue_after (does (effect.Awaits 9 9)) ≡ Some no_events
awaits = refl

tests_again : state_after (λ s. s.remaining) (does (effect.Awaits 9 9)) ≡ Some (None ∷ None ∷ Some 9 ∷ [])
tests_again = refl

waits_for_its_statement : waits_after (does (effect.Awaits 9 9)) ≡ Some (wait.Operands ∷ wait.Operands ∷ wait.Statement 9 ∷ [])
waits_for_its_statement = refl

-- a posedge is from x to 1, and none is from 1 to x; a negedge is from 1 to x
x_to_one : is_of x (change 1 one) (record { edge = Posedge; object = 1 }) ≡ true
x_to_one = refl

one_to_x : is_of one (change 1 x) (record { edge = Posedge; object = 1 }) ≡ false
one_to_x = refl

one_to_x_falls : is_of one (change 1 x) (record { edge = Negedge; object = 1 }) ≡ true
one_to_x_falls = refl

-- of a vector the least significant bit counts
other_bits : is_of (Zero ∷ Zero ∷ []) (change 1 (Zero ∷ One ∷ [])) (record { edge = Posedge; object = 1 }) ≡ false
other_bits = refl

-- a change of another object is not awaited
other_object : is_of x (change 2 one) (record { edge = Any; object = 1 }) ≡ false
other_object = refl

-- ---- values from outside, advances, and the end

put_wakes : queue_after (put_by tables (at_five both_wait no_events) 1 (One ∷ Zero ∷ [])) ≡ Some (with_active no_events (Evaluation 0 ∷ []))
put_wakes = refl

-- the value is cut to the object's width
put_cuts : told (put_by tables (at_five both_wait no_events) 1 (One ∷ Zero ∷ [])) ≡ Ok (Some (change 1 one))
put_cuts = refl

-- an update with a delay is a nonblocking event of its time
advanced : queue_after (advance (at_five none_wait (record no_events { future = record { time = 8; event = later.Nonblocking (sets 2 1 one) } ∷ [] }))) ≡ Some (record no_events { nonblocking = sets 2 1 one ∷ [] })
advanced = refl

time_goes_on : state_after (λ s. s.time) (advance (at_five none_wait (record no_events { future = record { time = 8; event = later.Evaluation 2 } ∷ [] }))) ≡ Some 8
time_goes_on = refl

advance_too_early : told (advance (at_five none_wait (record no_events { inactive = 2 ∷ []; future = record { time = 8; event = later.Evaluation 2 } ∷ [] }))) ≡ Err SlotNotDone
advance_too_early = refl

advance_at_the_end : told (advance (at_five none_wait no_events)) ≡ Err Idle
advance_at_the_end = refl

step_at_the_end : told (from none_wait no_events (0 ∷ [])) ≡ Err Idle
step_at_the_end = refl

-- after $finish nothing goes on
finishes : state_after (λ s. s.finished) (does effect.Finishes) ≡ Some true
finishes = refl

step_when_finished : told (step_by tables (record (at_five none_wait (with_active no_events (Evaluation 1 ∷ []))) { finished = true }) 0) ≡ Err Finished
step_when_finished = refl

-- the object of an update is that of the process that made it
source : source_by tables (at_five none_wait (record no_events { nonblocking = sets 1 3 one ∷ [] })) 0 ≡ record { 0 = 2 }
source = refl

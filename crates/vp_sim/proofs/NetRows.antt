-- Continuous assignments and connections, computed step by step. Each row is an equation that holds by computation.
use Rattle.std.proofs.Common.{◌≡◌, ℕ, false, List, [], ◌∷◌, Option, Some, None, Result, Ok, Err, refl}
use Rattle.vp_bits.specs.declared.bit.Bit.{Bit}
use Rattle.vp_bits.specs.declared.bit.Bit.TheVariants.{Zero, One, Unknown, HighImpedance}
use Rattle.vp_elab.specs.Built.{Elaborated}
use Rattle.vp_operand.specs.declared.operand.Operand.TheVariants.{Object, Applied}
use Rattle.vp_operand.specs.declared.operand.Unary.TheVariants.{Negation}
use Rattle.vp_expr.specs.declared.tables.Process.TheVariants.{Assignment, Connection}
use Rattle.vp_expr.specs.declared.tables.Tables.{Tables}
use Rattle.vp_active_events.specs.declared.event.Event.{Event}
use Rattle.vp_active_events.specs.declared.event.Event.TheVariants.{Evaluation, NetUpdate}
use Rattle.vp_active_events.specs.Events.{eligible_places}
use Rattle.vp_strata.specs.Queues.{no_events, with_active}
use Rattle.vp_expr.specs.declared.change.Change.{Change}
use Rattle.vp_sim.specs.declared.error.SimError.{SimError}
use Rattle.vp_sim.specs.declared.error.SimError.TheVariants.{Idle, NoSuchChoice}
use Rattle.vp_waking.specs.declared.waiting.Waiting.{Waiting}
use Rattle.vp_waking.specs.declared.waiting.Waiting.TheVariants.{Nothing}
use Rattle.vp_sim.specs.States.{Goes, Outcome, Refuses, State, put_by, step_by}

-- a design of no text: the tables say what runs
abbrev no_design : Elaborated
no_design = record {
  source = record { text = []; tokens = []; modules = []; connections = []; items = []; statements = []; expressions = []; terms = []; choices = [] };
  tree = record { nodes = []; viewports = []; authors = [] };
}

abbrev running : List (List Bit) → List Waiting → List Event → State
running values waiting active = record {
  design = no_design;
  time = 0;
  finished = false;
  values = values;
  remaining = [];
  waiting = waiting;
  queue = with_active no_events active;
}

-- the outcome of these steps, one after another
abbrev steps : Tables → Outcome → List ℕ → Outcome
steps tables outcome [] = outcome
steps tables (Refuses e) (k ∷ ks) = Refuses e
steps tables (Goes s change) (k ∷ ks) = steps tables (step_by tables s k) ks

-- what is reported of an outcome: what changed, or the refusal
abbrev told : Outcome → Result (Option Change) SimError
told (Goes s change) = Ok change
told (Refuses e) = Err e

-- the active events
abbrev active_in : Outcome → List Event
active_in (Goes s change) = s.queue.active
active_in (Refuses e) = []

-- the values of the objects
abbrev values_in : Outcome → List (List Bit)
values_in (Goes s change) = s.values
values_in (Refuses e) = []

abbrev changed : ℕ → List Bit → Result (Option Change) SimError
changed object value = Ok (Some (record { object = record { 0 = object }; value = value }))

-- ---- `reg a; wire y1, y2; assign y1 = ~a; assign y2 = ~y1;`, whose objects are 0 to 5

abbrev chain : Tables
chain = record {
  operands =
      Object (record { 0 = 1 }) 1 ∷ Applied Negation 0 ∷ Object (record { 0 = 2 }) 1 ∷ Applied Negation 2 ∷ [];
  widths = 1 ∷ 1 ∷ 1 ∷ 1 ∷ 1 ∷ 1 ∷ [];
  sizes = 1 ∷ 1 ∷ 1 ∷ 1 ∷ [];
  actions = [];
  processes =
      Assignment (record { 0 = 4 }) (record { 0 = 2 }) (record { 0 = 0 }) (record { place = 1; size = 1 })
      ∷ Assignment (record { 0 = 5 }) (record { 0 = 3 }) (record { 0 = 0 }) (record { place = 3; size = 1 })
      ∷ [];
  awaited = [];
  awaited_ends = [];
}

abbrev x : List Bit
x = Unknown ∷ []

abbrev z : List Bit
z = HighImpedance ∷ []

-- the outcome of steps from the start
abbrev state_after : List ℕ → Outcome
state_after ks =
    steps chain (Goes (running (x ∷ x ∷ z ∷ z ∷ x ∷ x ∷ []) (Nothing ∷ Nothing ∷ []) (Evaluation 0 ∷ Evaluation 1 ∷ [])) None) ks

-- a value from outside for a, after an outcome
abbrev a_is : List Bit → Outcome → Outcome
a_is value (Goes s change) = put_by chain s 1 value
a_is value (Refuses e) = Refuses e

-- the evaluations change nothing: their updates are active
both_evaluated : active_in (state_after (0 ∷ 0 ∷ [])) ≡ NetUpdate 0 x ∷ NetUpdate 1 x ∷ []
both_evaluated = refl

nothing_told : told (state_after (0 ∷ [])) ≡ Ok None
nothing_told = refl

-- y1 changes, and y2 is evaluated again, since it waits for y1
y1_changes : told (state_after (0 ∷ 0 ∷ 0 ∷ [])) ≡ changed 2 x
y1_changes = refl

y2_wakes : active_in (state_after (0 ∷ 0 ∷ 0 ∷ [])) ≡ NetUpdate 1 x ∷ Evaluation 1 ∷ []
y2_wakes = refl

-- y2 gets a value, and then the same again
done : values_in (state_after (0 ∷ 0 ∷ 0 ∷ 0 ∷ 0 ∷ 0 ∷ [])) ≡ x ∷ x ∷ x ∷ x ∷ x ∷ x ∷ []
done = refl

idle : told (state_after (0 ∷ 0 ∷ 0 ∷ 0 ∷ 0 ∷ 0 ∷ 0 ∷ [])) ≡ Err Idle
idle = refl

-- a changes, and y1 follows, and y2
a_wakes : active_in (a_is (One ∷ []) (state_after (0 ∷ 0 ∷ 0 ∷ 0 ∷ 0 ∷ 0 ∷ []))) ≡ Evaluation 0 ∷ []
a_wakes = refl

follow : values_in (steps chain (a_is (One ∷ []) (state_after (0 ∷ 0 ∷ 0 ∷ 0 ∷ 0 ∷ 0 ∷ []))) (0 ∷ 0 ∷ 0 ∷ 0 ∷ [])) ≡ x ∷ (One ∷ []) ∷ (Zero ∷ []) ∷ (One ∷ []) ∷ x ∷ x ∷ []
follow = refl

-- y1 is evaluated before a changes, and again after that: of its two updates the older is eligible
abbrev twice : Outcome
twice = steps chain (a_is (One ∷ []) (state_after (0 ∷ []))) (2 ∷ [])

two_updates : active_in twice ≡ Evaluation 1 ∷ NetUpdate 0 x ∷ NetUpdate 0 (Zero ∷ []) ∷ []
two_updates = refl

older_first : eligible_places (active_in twice) ≡ 0 ∷ 1 ∷ []
older_first = refl

newer_not_yet : told (steps chain twice (2 ∷ [])) ≡ Err NoSuchChoice
newer_not_yet = refl

older_taken : told (steps chain twice (1 ∷ [])) ≡ changed 2 x
older_taken = refl

newer_then : told (steps chain twice (1 ∷ 1 ∷ [])) ≡ changed 2 (Zero ∷ [])
newer_then = refl

-- ---- a port of one bit, object 1, that is connected outwards to a net of two bits, object 2

abbrev port : Tables
port = record {
  operands = [];
  widths = 1 ∷ 1 ∷ 2 ∷ [];
  sizes = [];
  actions = [];
  processes = Connection (record { 0 = 1 }) (record { 0 = 2 }) ∷ [];
  awaited = [];
  awaited_ends = [];
}

abbrev connected : List ℕ → Outcome
connected ks =
    steps port (Goes (running (x ∷ (One ∷ []) ∷ (HighImpedance ∷ HighImpedance ∷ []) ∷ []) (Nothing ∷ []) (Evaluation 0 ∷ [])) None) ks

-- its value is extended to the net's width
extended : active_in (connected (0 ∷ [])) ≡ NetUpdate 0 (One ∷ Zero ∷ []) ∷ []
extended = refl

net_changes : told (connected (0 ∷ 0 ∷ [])) ≡ changed 2 (One ∷ Zero ∷ [])
net_changes = refl

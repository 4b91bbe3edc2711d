-- A state of a simulation, and its steps (clause 11.3).
use Rattle.std.specs.Prelude.{◌≡◌, ℕ, ◌+◌, ◌≤◌, ◌==◌, ◌&&◌, nat_le, Bool, true, false, if◌then◌else◌, List, [], ◌∷◌, ◌++◌, drop, length, map, replicate, slice_get, slice_index_or, slice_set, Option, Some, None, is_none, option_and_then}
use Rattle.std.specs.Option.{option_map_or, option_or}
use Rattle.vp_source.specs.declared.source.Source.{Source}
use Rattle.vp_bits.specs.declared.bit.Bit.{Bit}
use Rattle.vp_bits.specs.Vector.{resized}
use Rattle.vp_elab.specs.declared.object.ObjectId.{ObjectId}
use Rattle.vp_elab.specs.Built.{Elaborated}
use Rattle.vp_elab.specs.Tree.{below}
use Rattle.vp_expr.specs.declared.tables.Process.{Process}
use Rattle.vp_expr.specs.declared.tables.Process.TheVariants.{Procedure, Assignment, Connection}
use Rattle.vp_expr.specs.declared.tables.Tables.{Tables}
use Rattle.vp_operand.specs.Arena.{value_in}
use Rattle.vp_expr.specs.Evaluation.{eval}
use Rattle.vp_expr.specs.Start.{start_of}
use Rattle.vp_expr.specs.Tables.{process_object, tables_of}
use Rattle.vp_statement.specs.declared.effect.Effect.{Effect}
use Rattle.vp_statement.specs.declared.effect.Effect.TheVariants as effect
use Rattle.vp_statement.specs.Effects.{effect_at}
use Rattle.vp_statement.specs.Walking.{after_at, flow_of, next_event}
use Rattle.vp_strata.specs.declared.event.Delayed.{Delayed}
use Rattle.vp_strata.specs.declared.event.Delayed.TheVariants as later
use Rattle.vp_active_events.specs.declared.event.Event.{Event}
use Rattle.vp_active_events.specs.declared.event.Event.TheVariants.{Evaluation, NetUpdate, Nonblocking}
use Rattle.vp_active_events.specs.declared.event.NonblockingUpdate.{NonblockingUpdate}
use Rattle.vp_strata.specs.declared.strata.TheConstants.{TIME_LIMIT}
use Rattle.vp_active_events.specs.Events.{process_of}
use Rattle.vp_strata.specs.Queues.{Queue, activated, advanced, first_time, is_done, no_events, peeked, ready, scheduled, taken, with_active, with_future, with_inactive, with_nonblocking}
use Rattle.vp_expr.specs.declared.change.Change.{Change}
use Rattle.vp_sim.specs.declared.error.SimError.{SimError}
use Rattle.vp_sim.specs.declared.error.SimError.TheVariants.{Finished, Idle, SlotNotDone, NoSuchChoice, TimeLimit}
use Rattle.vp_waking.specs.declared.waiting.Waiting.{Waiting}
use Rattle.vp_waking.specs.declared.waiting.Waiting.TheVariants as wait
use Rattle.vp_expr.specs.Changes.{change_of, net_at, set_change, updated_by, values_with}
use Rattle.vp_waking.specs.Listening.{AreHeard}
use Rattle.vp_waking.specs.Waking.{woken_state, with_evaluations, woken_by}

-- a state: the design, the time, whether $finish was executed, the value of each object, the place of the statement with which each
-- process goes on, if one remains of it, what each waits for, and the event queue (clause 11.3)
pub record State : Type 0 where
  pub design : Elaborated
  pub time : ℕ
  pub finished : Bool
  pub values : List (List Bit)
  pub remaining : List (Option ℕ)
  pub waiting : List Waiting
  pub queue : Queue

-- what a step does: it goes on to a state, with at most one change, or it is refused
pub data Outcome : Type 0 where
  Goes : State → Option Change → Outcome
  Refuses : SimError → Outcome

-- ---- changes

-- the processes that a change wakes, if there is one
abbrev pub woken : Tables → State → Option Change → List ℕ
woken tables s None = []
woken tables s (Some change) = woken_by tables (value_in s.values change.object.0) change s.waiting

-- a state after a change, if there is one: the object has its value, and the processes that it wakes wait no more and are evaluated
-- (clause 11.3)
abbrev pub with_change : Tables → State → Option Change → State
with_change tables s change = record s {
  values = values_with s.values change;
  waiting = woken_state s.waiting (woken tables s change);
  queue = with_evaluations s.queue (woken tables s change);
}

-- a state without the k-th of the eligible events, which is over
abbrev pub without_event : State → (k : ℕ) → State
without_event s k = record s { queue = taken s.queue k }

-- a state after the activation that a step begins with (clause 11.4)
abbrev pub with_activation : State → State
with_activation s = record s { queue = activated s.queue }

-- an update that makes this change, if it makes one (clause 11.3)
abbrev pub updated : Tables → State → (k : ℕ) → Option Change → Outcome
updated tables s k change = Goes (with_change tables (without_event s k) change) change

-- ---- the event of a procedure

-- an always begins again where nothing remains of it (clause 9.9.2)
abbrev pub restart_always : (repeats : Bool) → (body : ℕ) → (rest : Option ℕ) → Option ℕ
restart_always true body None = Some body
restart_always true body (Some place) = Some place
restart_always false body rest = rest

-- the statement with which a procedure goes on after its event: after a control the one that it controls, after a test the one that it
-- chose, else the one that comes after the event (clauses 9.4 to 9.8)
abbrev pub goes_on : (following : Option ℕ) → Effect → Option ℕ
goes_on following effect.Nothing = following
goes_on following (effect.Assigns object place value) = following
goes_on following (effect.Defers object place value delay) = following
goes_on following (effect.Pauses amount next) = Some next
goes_on following (effect.Awaits place next) = Some next
goes_on following (effect.Proceeds next) = option_or next following
goes_on following effect.Finishes = following

-- the event of a procedure is over where the procedure pauses or waits, and where nothing remains of it; else it keeps its place
-- (profile)
abbrev pub is_over : Effect → (rest : Option ℕ) → Bool
is_over (effect.Pauses amount next) rest = true
is_over (effect.Awaits place next) rest = true
is_over e rest = is_none rest

-- the queue after the k-th of the eligible events, if that is over
abbrev pub taken_if : Bool → Queue → (k : ℕ) → Queue
taken_if true q k = taken q k
taken_if false q k = q

-- a state after the event of a process, the k-th, of which this remains
abbrev pub with_remaining : State → (k : ℕ) → (process : ℕ) → (rest : Option ℕ) → Effect → State
with_remaining s k process rest e = record s {
  remaining = slice_set s.remaining process rest;
  queue = taken_if (is_over e rest) s.queue k;
}

-- a state in which this happens so much later
abbrev pub delayed : State → (delay : ℕ) → Delayed → State
delayed s delay event = record s {
  queue = with_future s.queue (scheduled (record { time = s.time + delay; event = event }) s.queue.future);
}

-- a process pauses: for no time it is inactive, else it goes on later (clauses 9.7.1 and 11.3)
abbrev pub paused : State → (process : ℕ) → (amount : ℕ) → State
paused s process amount =
    if amount == 0
    then record s { queue = with_inactive s.queue (s.queue.inactive ++ process ∷ []) }
    else delayed s amount (later.Evaluation process)

-- an update of a nonblocking assignment is made at the end of this time, or of a later one (clause 9.2.2)
abbrev pub deferred : State → (delay : ℕ) → NonblockingUpdate → State
deferred s delay update =
    if delay == 0
    then record s { queue = with_nonblocking s.queue (s.queue.nonblocking ++ update ∷ []) }
    else delayed s delay (later.Nonblocking update)

-- a state after what the event of a procedure does
abbrev pub with_effect : Tables → State → (process : ℕ) → Effect → State
with_effect tables s process effect.Nothing = s
with_effect tables s process (effect.Assigns object place value) = with_change tables s (set_change s.values object place value)
with_effect tables s process (effect.Defers object place value delay) =
    deferred s delay (record { process = process; object = object; place = place; value = value })
with_effect tables s process (effect.Pauses amount next) = paused s process amount
with_effect tables s process (effect.Awaits place next) = record s { waiting = slice_set s.waiting process (wait.Statement place) }
with_effect tables s process (effect.Proceeds next) = s
with_effect tables s process effect.Finishes = record s { finished = true }

-- what the event of a procedure changes at once: a blocking assignment its target (clause 9.2.1)
abbrev pub change_by : List (List Bit) → Effect → Option Change
change_by values effect.Nothing = None
change_by values (effect.Assigns object place value) = set_change values object place value
change_by values (effect.Defers object place value delay) = None
change_by values (effect.Pauses amount next) = None
change_by values (effect.Awaits place next) = None
change_by values (effect.Proceeds next) = None
change_by values effect.Finishes = None

-- so much later the event of a procedure makes something happen
abbrev pub delay_of : Effect → ℕ
delay_of effect.Nothing = 0
delay_of (effect.Assigns object place value) = 0
delay_of (effect.Defers object place value delay) = delay
delay_of (effect.Pauses amount next) = amount
delay_of (effect.Awaits place next) = 0
delay_of (effect.Proceeds next) = 0
delay_of effect.Finishes = 0

-- what happens so much later would happen at 2^62 or later (profile)
abbrev pub is_late : (time : ℕ) → (delay : ℕ) → Bool
is_late time delay = nat_le 1 delay && nat_le TIME_LIMIT (time + delay)

-- the statement with which a procedure goes on after the event at a place, which does this
abbrev pub rest_of : Tables → Source → (repeats : Bool) → (body : ℕ) → (event : ℕ) → Effect → Option ℕ
rest_of tables source repeats body event e = restart_always repeats body (goes_on (after_at source tables.actions event) e)

-- the k-th of the eligible events, of a process, does this, and the process goes on with this
abbrev pub performed : Tables → State → (k : ℕ) → (process : ℕ) → (rest : Option ℕ) → Effect → Outcome
performed tables s k process rest e =
    if is_late s.time (delay_of e)
    then Refuses TimeLimit
    else Goes (with_effect tables (with_remaining s k process rest e) process e) (change_by s.values e)

-- the same, after the activation with which a step begins
abbrev pub performs : State → (k : ℕ) → (process : ℕ) → (rest : Option ℕ) → Effect → Outcome
performs s k process rest e = performed (tables_of s.design) (with_activation s) k process rest e

-- what the event at a place does in an instance
abbrev pub next_effect : Tables → State → (instance : ObjectId) → (event : ℕ) → Effect
next_effect tables s instance event = effect_at s.design instance (drop instance.0 s.values) event

-- the event at a place happens, as the k-th of the eligible events, of a process
abbrev pub happens_at : Tables → State → (k : ℕ) → (process : ℕ) → (instance : ObjectId) → (repeats : Bool) → (body : ℕ) → (event : ℕ) → Outcome
happens_at tables s k process instance repeats body event =
    performed tables s k process
    (rest_of tables s.design.source repeats body event (next_effect tables s instance event))
    (next_effect tables s instance event)

-- the evaluation of a procedure: one event's worth of what remains of it (profile)
abbrev pub run_procedure : Tables → State → (k : ℕ) → (process : ℕ) → (instance : ObjectId) → (repeats : Bool) → (body : ℕ) → (remaining : Option ℕ) → Outcome
run_procedure tables s k process instance repeats body None = Goes (without_event s k) None
run_procedure tables s k process instance repeats body (Some place) =
    happens_at tables s k process instance repeats body (next_event tables.actions place)

-- ---- the event of a continuous process

-- a state with one more active event
abbrev pub with_event : State → Event → State
with_event s event = record s { queue = with_active s.queue (s.queue.active ++ event ∷ []) }

-- the evaluation of a continuous process is over: it waits for its operands again, and the update of its net is active, with a value that
-- is cut or extended to the net's width (clauses 5.6, 6.1 and 11.3)
abbrev pub driven : State → (k : ℕ) → (process : ℕ) → (net : ObjectId) → (value : List Bit) → State
driven s k process net value =
    with_event (record s { waiting = slice_set s.waiting process wait.Operands; queue = taken s.queue k })
    (NetUpdate process (resized (length (value_in s.values net.0)) value))

-- the evaluation of a process, if there is one: of a continuous one, its value now (clauses 6.1, 11.3 and 12.3.9.2)
abbrev pub evaluated : Tables → State → (k : ℕ) → (process : ℕ) → Option Process → Outcome
evaluated tables s k process None = Goes (without_event s k) None
evaluated tables s k process (Some (Procedure object instance repeats body)) =
    run_procedure tables s k process instance repeats body (slice_index_or s.remaining process None)
evaluated tables s k process (Some (Assignment object net instance value)) =
    Goes (driven s k process net (eval tables (drop instance.0 s.values) value)) None
evaluated tables s k process (Some (Connection port net)) = Goes (driven s k process net (value_in s.values port.0)) None

-- ---- steps

-- what an object that changed last has become, if one has
abbrev pub change_in : State → Option ObjectId → Option Change
change_in s None = None
change_in s (Some object) = Some (record { object = object; value = value_in s.values object.0 })

-- the k-th of the eligible events happens, if there is one
abbrev pub happened : Tables → State → (k : ℕ) → Option Event → Outcome
happened tables s k None = Refuses NoSuchChoice
happened tables s k (Some (Evaluation process)) = evaluated tables s k process (slice_get tables.processes process)
happened tables s k (Some (NetUpdate process value)) = updated tables s k (updated_by s.values (net_at tables.processes process) value)
happened tables s k (Some (Nonblocking u)) = updated tables s k (set_change s.values u.object u.place u.value)

-- a step by the tables of the design takes one of the eligible events, unless $finish was executed (clauses 11.3 and 11.4)
abbrev pub step_by : Tables → State → (k : ℕ) → Outcome
step_by tables s k =
    if s.finished
    then Refuses Finished
    else if is_done s.queue then Refuses Idle else happened tables (with_activation s) k (peeked s.queue k)

-- a step
abbrev pub step : State → ℕ → Outcome
step s k = step_by (tables_of s.design) s k

-- time goes on to this one, if there is one (clause 11.4)
abbrev pub advanced_to : State → Option ℕ → Outcome
advanced_to s None = Refuses Idle
advanced_to s (Some time) = Goes (record s { time = time; queue = advanced s.queue }) None

-- time goes on to that of the next future event where nothing is left to do at the current time, unless $finish was executed (clause
-- 11.4)
abbrev pub advance : State → Outcome
advance s =
    if s.finished
    then Refuses Finished
    else if is_done s.queue then advanced_to s (first_time s.queue.future) else Refuses SlotNotDone

-- an object is given a value from outside by the tables of the design, unless $finish was executed (profile)
abbrev pub put_by : Tables → State → (object : ℕ) → (value : List Bit) → Outcome
put_by tables s object value =
    if s.finished
    then Refuses Finished
    else Goes (with_change tables s (change_of object (slice_get s.values object) value)) (change_of object (slice_get s.values object) value)

-- an object is given a value from outside
abbrev pub put : State → (object : ℕ) → (value : List Bit) → Outcome
put s object value = put_by (tables_of s.design) s object value

-- ---- the start

-- what a process does: the statement of a procedure, and no statement of another (clause 9.9)
abbrev pub whole_of : Process → Option ℕ
whole_of (Procedure object instance repeats body) = Some body
whole_of (Assignment object net instance value) = None
whole_of (Connection port net) = None

-- at the start every process is evaluated, in the order of the objects (clauses 6.1 and 9.9, profile)
abbrev pub start_by : Tables → Elaborated → State
start_by tables design = record {
  design = design;
  time = 0;
  finished = false;
  values = map (start_of design) design.tree.nodes;
  remaining = map whole_of tables.processes;
  waiting = replicate (length tables.processes) wait.Nothing;
  queue = with_active no_events (map Evaluation (below (length tables.processes)));
}

-- the start of a simulation of a design
abbrev pub start : Elaborated → State
start design = start_by (tables_of design) design

-- ---- what is asked of a state

-- nothing is left to do at the current time
abbrev pub slot_done : State → Bool
slot_done s = is_done s.queue

-- the time of the next future event
abbrev pub next_time : State → Option ℕ
next_time s = first_time s.queue.future

-- the places of the eligible events among the active ones, after the activation that a step begins with
abbrev pub eligible : State → List ℕ
eligible s = ready s.queue

-- the object of the process whose event is the k-th that is eligible; the first object where there is none
abbrev pub source_by : Tables → State → ℕ → ObjectId
source_by tables s k =
    option_map_or process_object
    (option_and_then (λ event. slice_get tables.processes (process_of event)) (peeked s.queue k))
    (record { 0 = 0 })

-- the object of the process whose event is the k-th that is eligible
abbrev pub source_of : State → ℕ → ObjectId
source_of s k = source_by (tables_of s.design) s k

-- an outcome goes on
abbrev pub IsStep : Outcome → Type 0
IsStep (Goes s c) = Unit {0}
IsStep (Refuses e) = ⊥

-- why an outcome does not go on, if it does not
abbrev pub refusal_in : Outcome → Option SimError
refusal_in (Goes s c) = None
refusal_in (Refuses e) = Some e

-- ---- a state as it is kept

-- what comes after each statement is the design's, there is a value for each object of the design, and what each process waits for
pub record FitsDesign (design : Elaborated) (flow : List (Option ℕ)) (values : List (List Bit)) (count : ℕ) (waiting : List Waiting) : Type 0 where
  pub flows : flow ≡ flow_of design.source (tables_of design).actions
  pub objects : length values ≡ length design.tree.nodes
  pub processes : count ≡ length (tables_of design).processes
  pub waits : length waiting ≡ length (tables_of design).processes

-- the same, and each process that waits is heard
pub record IsWhole (design : Elaborated) (flow : List (Option ℕ)) (values : List (List Bit)) (count : ℕ) (waiting : List Waiting) (lists : List (List ℕ)) : Type 0 where
  pub flows : flow ≡ flow_of design.source (tables_of design).actions
  pub objects : length values ≡ length design.tree.nodes
  pub processes : count ≡ length (tables_of design).processes
  pub waits : length waiting ≡ length (tables_of design).processes
  pub heard : AreHeard (tables_of design) lists waiting

-- a state, how many more events its queue takes without memory, and the listeners of each object
pub record Running : Type 0 where
  pub state : State
  pub spare : ℕ
  pub lists : List (List ℕ)

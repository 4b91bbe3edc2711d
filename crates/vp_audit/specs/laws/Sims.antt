-- A step, an advance and a put change the values by their change alone.
use Rattle.std.proofs.Common.{◌≡◌, ◌==◌, ◌<◌, ℕ, length, slice_get, arith, Bool, true, false, if◌then◌else◌, List, Option, Some, None, refl}
use Rattle.vp_bits.specs.declared.bit.Bit.{Bit}
use Rattle.vp_elab.specs.declared.object.ObjectId.{ObjectId}
use Rattle.vp_expr.specs.declared.tables.Process.{Process}
use Rattle.vp_expr.specs.declared.tables.Process.TheVariants.{Procedure, Assignment, Connection}
use Rattle.vp_expr.specs.declared.tables.Tables.{Tables}
use Rattle.vp_expr.specs.Tables.{tables_of}
use Rattle.vp_statement.specs.declared.effect.Effect.{Effect}
use Rattle.vp_statement.specs.declared.effect.Effect.TheVariants as effect
use Rattle.vp_statement.specs.Walking.{next_event}
use Rattle.vp_active_events.specs.declared.event.Event.{Event}
use Rattle.vp_active_events.specs.declared.event.Event.TheVariants.{Evaluation, NetUpdate, Nonblocking}
use Rattle.vp_strata.specs.Queues.{first_time, is_done, peeked}
use Rattle.vp_expr.specs.declared.change.Change.{Change}
use Rattle.std.proofs.lemmas.Option.{slice_get_within}
use Rattle.vp_bits.specs.Vector.{resized, same_bits}
use Rattle.vp_operand.specs.Terms.{set_in}
use Rattle.vp_expr.specs.Changes.{change_of, net_at, set_change_of, updated_by, values_with}
use Rattle.vp_sim.specs.States.{Outcome, Goes, Refuses, State, advance, advanced_to, change_by, delay_of, evaluated, happened, is_late, next_effect, performed, put, step, run_procedure, with_activation, with_effect, with_remaining}

-- a change is of an object that has a value
abbrev pub IsWithin : List (List Bit) → Option Change → Type 0
IsWithin values None = Unit {0}
IsWithin values (Some c) = c.object.0 < length values

-- the values to which an outcome goes on are those before it but for its change
abbrev pub Changes : List (List Bit) → Outcome → Type 0
Changes values (Goes s change) = (s.values ≡ values_with values change) × IsWithin values change
Changes values (Refuses e) = Unit {0}

-- an object that has a value is within
has_value_within : (values : List (List Bit)) (o : ℕ) (v : List Bit) → slice_get values o ≡ Some v → o < length values
has_value_within values o v e = slice_get_within values o v e

-- a change that is made by values, if one is made
change_test : (values : List (List Bit)) (o : ℕ) (b : Bool) (c : Change) → c.object.0 ≡ o → o < length values → IsWithin values (if b then None else Some c)
change_test values o true c same l = tt
change_test values o false c same l = omega (arith, same, l)

change_within : (values : List (List Bit)) (o : ℕ) (old : Option (List Bit)) → slice_get values o ≡ old → (v : List Bit) → IsWithin values (change_of o old v)
change_within values o None e v = tt
change_within values o (Some old) e v =
    change_test values o (same_bits old (resized (length old) v)) (record { object = record { 0 = o }; value = resized (length old) v }) refl (has_value_within values o old e)

-- the same where bits of it are set
set_within : (values : List (List Bit)) (o : ℕ) (old : Option (List Bit)) → slice_get values o ≡ old → (place : Option ℕ) (v : List Bit) → IsWithin values (set_change_of o old place v)
set_within values o None e place v = tt
set_within values o (Some old) e place v = change_within values o (Some old) e (set_in old place v)

-- and where a net is updated
updated_within : (values : List (List Bit)) (net : Option ObjectId) (v : List Bit) → IsWithin values (updated_by values net v)
updated_within values None v = tt
updated_within values (Some net) v = change_within values net.0 (slice_get values net.0) refl v

-- one of two
either : (b : Bool) (values : List (List Bit)) (x y : Outcome) → Changes values x → Changes values y → Changes values (if b then x else y)
either true values x y h k = h
either false values x y h k = k

-- one of two states
chosen : (b : Bool) (x y : State) → x.values ≡ y.values → (if b then x else y).values ≡ y.values
chosen true x y h = h
chosen false x y h = refl

-- what the event of a procedure does
effect_within : (values : List (List Bit)) (e : Effect) → IsWithin values (change_by values e)
effect_within values effect.Nothing = tt
effect_within values (effect.Assigns object place value) = set_within values object (slice_get values object) refl place value
effect_within values (effect.Defers object place value delay) = tt
effect_within values (effect.Pauses amount next) = tt
effect_within values (effect.Awaits place next) = tt
effect_within values (effect.Proceeds next) = tt
effect_within values effect.Finishes = tt

-- and to the values
effect_changes : (tables : Tables) (s : State) (process : ℕ) (e : Effect) → (with_effect tables s process e).values ≡ values_with s.values (change_by s.values e)
effect_changes tables s process effect.Nothing = refl
effect_changes tables s process (effect.Assigns object place value) = refl
effect_changes tables s process (effect.Defers object place value delay) = chosen (delay == 0) _ _ refl
effect_changes tables s process (effect.Pauses amount next) = chosen (amount == 0) _ _ refl
effect_changes tables s process (effect.Awaits place next) = refl
effect_changes tables s process (effect.Proceeds next) = refl
effect_changes tables s process effect.Finishes = refl

-- where it is not too late
performed_changes : (tables : Tables) (s : State) (k process : ℕ) (rest : Option ℕ) (e : Effect) → Changes s.values (performed tables s k process rest e)
performed_changes tables s k process rest e =
    either (is_late s.time (delay_of e)) s.values _ _ tt (effect_changes tables (with_remaining s k process rest e) process e, effect_within s.values e)

-- what a procedure does
turn_changes : (tables : Tables) (s : State) (k process : ℕ) (instance : ObjectId) (repeats : Bool) (body : ℕ) (remaining : Option ℕ) → Changes s.values (run_procedure tables s k process instance repeats body remaining)
turn_changes tables s k process instance repeats body None = (refl, tt)
turn_changes tables s k process instance repeats body (Some place) =
    performed_changes tables s k process _ (next_effect tables s instance (next_event tables.actions place))

-- what a process does
evaluated_changes : (tables : Tables) (s : State) (k process : ℕ) (p : Option Process) → Changes s.values (evaluated tables s k process p)
evaluated_changes tables s k process None = (refl, tt)
evaluated_changes tables s k process (Some (Procedure object instance repeats body)) = turn_changes tables s k process instance repeats body _
evaluated_changes tables s k process (Some (Assignment object net instance value)) = (refl, tt)
evaluated_changes tables s k process (Some (Connection port net)) = (refl, tt)

-- what an event does
happened_changes : (tables : Tables) (s : State) (k : ℕ) (e : Option Event) → Changes s.values (happened tables s k e)
happened_changes tables s k None = tt
happened_changes tables s k (Some (Evaluation process)) = evaluated_changes tables s k process _
happened_changes tables s k (Some (NetUpdate process value)) = (refl, updated_within s.values (net_at tables.processes process) value)
happened_changes tables s k (Some (Nonblocking u)) = (refl, set_within s.values u.object (slice_get s.values u.object) refl u.place u.value)

-- a step
pub step_changes : (s : State) (k : ℕ) → Changes s.values (step s k)
step_changes s k =
    either s.finished s.values _ _ tt
    (either (is_done s.queue) s.values _ _ tt (happened_changes (tables_of s.design) (with_activation s) k (peeked s.queue k)))

-- time goes on
advanced_changes : (s : State) (time : Option ℕ) → Changes s.values (advanced_to s time)
advanced_changes s None = tt
advanced_changes s (Some time) = (refl, tt)

-- an advance
pub advance_changes : (s : State) → Changes s.values (advance s)
advance_changes s =
    either s.finished s.values _ _ tt (either (is_done s.queue) s.values _ _ (advanced_changes s (first_time s.queue.future)) tt)

-- a put
pub put_changes : (s : State) (object : ℕ) (value : List Bit) → Changes s.values (put s object value)
put_changes s object value = either s.finished s.values _ _ tt (refl, change_within s.values object (slice_get s.values object) refl value)

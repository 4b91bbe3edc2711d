-- A step changes one object at most, which then has the value that the change tells.
use Rattle.std.proofs.Common.{◌≡◌, ◌∙◌, ℕ, ◌<◌, Bool, true, false, if◌then◌else◌, List, length, Option, Some, None, refl, ap, subst, sym}
use Rattle.std.specs.Prelude.{slice_get}
use Rattle.std.specs.Option.{option_map}
use Rattle.std.proofs.lemmas.List.{get_or-set_same}
use Rattle.std.proofs.lemmas.Option.{slice_get_within}
use Rattle.vp_bits.specs.declared.bit.Bit.{Bit}
use Rattle.vp_bits.specs.Vector.{resized, same_bits}
use Rattle.vp_elab.specs.declared.object.ObjectId.{ObjectId}
use Rattle.vp_expr.specs.declared.change.Change.{Change}
use Rattle.vp_expr.specs.declared.tables.Process.{Process}
use Rattle.vp_expr.specs.declared.tables.Process.TheVariants.{Procedure, Assignment, Connection}
use Rattle.vp_expr.specs.declared.tables.Tables.{Tables}
use Rattle.vp_expr.specs.Changes.{change_of, net_at, set_change, set_change_of, updated_by}
use Rattle.vp_expr.specs.Tables.{tables_of}
use Rattle.vp_operand.specs.Terms.{set_in}
use Rattle.vp_operand.specs.Values.{no_value}
use Rattle.vp_statement.specs.declared.effect.Effect.{Effect}
use Rattle.vp_statement.specs.declared.effect.Effect.TheVariants as effect
use Rattle.vp_statement.specs.Walking.{next_event}
use Rattle.vp_active_events.specs.declared.event.Event.{Event}
use Rattle.vp_active_events.specs.declared.event.Event.TheVariants.{Evaluation, NetUpdate, Nonblocking}
use Rattle.vp_strata.specs.Queues.{is_done, peeked}
use Rattle.vp_sim.specs.States.{Outcome, Goes, Refuses, State, change_by, change_in, delay_of, evaluated, happened, is_late, next_effect, rest_of, run_procedure, step, with_activation, with_change, with_effect, with_remaining, without_event}

-- the object of a change, if there is one
abbrev pub changed_by : Option Change → Option ObjectId
changed_by change = option_map (λ (c : Change). c.object) change

-- the state after an outcome has what the outcome changed
abbrev pub Shows : Outcome → Type 0
Shows (Goes s change) = change_in s (changed_by change) ≡ change
Shows (Refuses e) = Unit {0}

-- a change is of one of these objects
abbrev IsOf : List (List Bit) → Option Change → Type 0
IsOf values None = Unit {0}
IsOf values (Some c) = c.object.0 < length values

either : (b : Bool) (x y : Outcome) → Shows x → Shows y → Shows (if b then x else y)
either true x y h k = h
either false x y h k = k

-- an object has become this
abbrev become : ObjectId → List Bit → Option Change
become object value = Some (record { object = object; value = value })

-- after a change its object has its value
after_change : (tables : Tables) (s : State) (change : Option Change) → IsOf s.values change → Shows (Goes (with_change tables s change) change)
after_change tables s None within = refl
after_change tables s (Some c) within =
    ap (become c.object) (get_or-set_same s.values c.object.0 c.value no_value within)

of_either : (values : List (List Bit)) (b : Bool) (change : Option Change) → IsOf values change → IsOf values (if b then None else change)
of_either values true change h = tt
of_either values false change h = h

-- what giving an object a value changes is of an object that has one
of_change : (values : List (List Bit)) (object : ℕ) (old : Option (List Bit)) (value : List Bit) → slice_get values object ≡ old → IsOf values (change_of object old value)
of_change values object None value is = tt
of_change values object (Some old) value is = of_either values (same_bits old (resized (length old) value)) _ (slice_get_within values object old is)

of_set : (values : List (List Bit)) (object : ℕ) (old : Option (List Bit)) (place : Option ℕ) (value : List Bit) → slice_get values object ≡ old → IsOf values (set_change_of object old place value)
of_set values object None place value is = tt
of_set values object (Some old) place value is = of_change values object (Some old) (set_in old place value) is

of_update : (values : List (List Bit)) (net : Option ObjectId) (value : List Bit) → IsOf values (updated_by values net value)
of_update values None value = tt
of_update values (Some net) value = of_change values net.0 (slice_get values net.0) value refl

effect_shows : (tables : Tables) (s : State) (k process : ℕ) (rest : Option ℕ) (e : Effect) → Shows (Goes (with_effect tables (with_remaining s k process rest e) process e) (change_by s.values e))
effect_shows tables s k process rest effect.Nothing = refl
effect_shows tables s k process rest (effect.Assigns object place value) =
    after_change tables (with_remaining s k process rest (effect.Assigns object place value)) _ (of_set s.values object (slice_get s.values object) place value refl)
effect_shows tables s k process rest (effect.Defers object place value delay) = refl
effect_shows tables s k process rest (effect.Pauses amount next) = refl
effect_shows tables s k process rest (effect.Awaits place next) = refl
effect_shows tables s k process rest (effect.Proceeds next) = refl
effect_shows tables s k process rest effect.Finishes = refl

turn_shows : (tables : Tables) (s : State) (k process : ℕ) (instance : ObjectId) (repeats : Bool) (body : ℕ) (remaining : Option ℕ) → Shows (run_procedure tables s k process instance repeats body remaining)
turn_shows tables s k process instance repeats body None = refl
turn_shows tables s k process instance repeats body (Some place) =
    let e = next_effect tables s instance (next_event tables.actions place) in
    either (is_late s.time (delay_of e)) _ _ tt
    (effect_shows tables s k process (rest_of tables s.design.source repeats body (next_event tables.actions place) e) e)

evaluated_shows : (tables : Tables) (s : State) (k process : ℕ) (p : Option Process) → Shows (evaluated tables s k process p)
evaluated_shows tables s k process None = refl
evaluated_shows tables s k process (Some (Procedure object instance repeats body)) = turn_shows tables s k process instance repeats body _
evaluated_shows tables s k process (Some (Assignment object net instance value)) = refl
evaluated_shows tables s k process (Some (Connection port net)) = refl

happened_shows : (tables : Tables) (s : State) (k : ℕ) (e : Option Event) → Shows (happened tables s k e)
happened_shows tables s k None = tt
happened_shows tables s k (Some (Evaluation process)) = evaluated_shows tables s k process _
happened_shows tables s k (Some (NetUpdate process value)) =
    after_change tables (without_event s k) _ (of_update s.values (net_at tables.processes process) value)
happened_shows tables s k (Some (Nonblocking u)) =
    after_change tables (without_event s k) _ (of_set s.values u.object (slice_get s.values u.object) u.place u.value refl)

step_shows : (s : State) (k : ℕ) → Shows (step s k)
step_shows s k =
    either s.finished _ _ tt
    (either (is_done s.queue) _ _ tt (happened_shows (tables_of s.design) (with_activation s) k (peeked s.queue k)))

-- what a step changes is what the object that it changed has become
pub step_changes : (s t : State) (k : ℕ) (change : Option Change) → step s k ≡ Goes t change → step s k ≡ Goes t (change_in t (changed_by change))
step_changes s t k change is = is ∙ ap (Goes t) (sym (subst Shows is (step_shows s k)))

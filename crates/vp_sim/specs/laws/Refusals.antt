-- What a simulation refuses, it refuses for a reason of its own: out of memory is no part of the definition.
use Rattle.std.proofs.Common.{◌≡◌, ◌≢◌, ℕ, Bool, true, false, if◌then◌else◌, Option, Some, None}
use Rattle.vp_elab.specs.declared.object.ObjectId.{ObjectId}
use Rattle.vp_expr.specs.declared.tables.Process.{Process}
use Rattle.vp_expr.specs.declared.tables.Process.TheVariants.{Procedure, Assignment, Connection}
use Rattle.vp_expr.specs.declared.tables.Tables.{Tables}
use Rattle.vp_expr.specs.Tables.{tables_of}
use Rattle.vp_statement.specs.Walking.{next_event}
use Rattle.vp_active_events.specs.declared.event.Event.{Event}
use Rattle.vp_active_events.specs.declared.event.Event.TheVariants.{Evaluation, NetUpdate, Nonblocking}
use Rattle.vp_strata.specs.Queues.{first_time, is_done, peeked}
use Rattle.vp_sim.specs.declared.error.SimError.TheVariants.{NoMemory}
use Rattle.vp_sim.specs.States.{Outcome, Goes, Refuses, State, advance, advanced_to, with_activation, delay_of, evaluated, happened, is_late, next_effect, step, run_procedure}

-- what a step does, or a refusal that is not out of memory
abbrev pub IsOwn : Outcome → Type 0
IsOwn (Goes s c) = Unit {0}
IsOwn (Refuses e) = e ≢ NoMemory

either : (b : Bool) (x y : Outcome) → IsOwn x → IsOwn y → IsOwn (if b then x else y)
either true x y h k = h
either false x y h k = k

turn_own : (tables : Tables) (s : State) (k process : ℕ) (instance : ObjectId) (repeats : Bool) (body : ℕ) (remaining : Option ℕ) → IsOwn (run_procedure tables s k process instance repeats body remaining)
turn_own tables s k process instance repeats body None = tt
turn_own tables s k process instance repeats body (Some place) =
    either (is_late s.time (delay_of (next_effect tables s instance (next_event tables.actions place)))) _ _ (λ e. cc) tt

evaluated_own : (tables : Tables) (s : State) (k process : ℕ) (p : Option Process) → IsOwn (evaluated tables s k process p)
evaluated_own tables s k process None = tt
evaluated_own tables s k process (Some (Procedure object instance repeats body)) = turn_own tables s k process instance repeats body _
evaluated_own tables s k process (Some (Assignment object net instance value)) = tt
evaluated_own tables s k process (Some (Connection port net)) = tt

happened_own : (tables : Tables) (s : State) (k : ℕ) (e : Option Event) → IsOwn (happened tables s k e)
happened_own tables s k None = λ e. cc
happened_own tables s k (Some (Evaluation process)) = evaluated_own tables s k process _
happened_own tables s k (Some (NetUpdate process value)) = tt
happened_own tables s k (Some (Nonblocking u)) = tt

-- a step is refused for a reason of its own
pub step_own : (s : State) (k : ℕ) → IsOwn (step s k)
step_own s k =
    either s.finished _ _ (λ e. cc)
    (either (is_done s.queue) _ _ (λ e. cc) (happened_own (tables_of s.design) (with_activation s) k (peeked s.queue k)))

advanced_own : (s : State) (time : Option ℕ) → IsOwn (advanced_to s time)
advanced_own s None = λ e. cc
advanced_own s (Some time) = tt

-- and so is an advance
pub advance_own : (s : State) → IsOwn (advance s)
advance_own s =
    either s.finished _ _ (λ e. cc) (either (is_done s.queue) _ _ (advanced_own s (first_time s.queue.future)) (λ e. cc))

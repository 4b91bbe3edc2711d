-- What goes on leaves the design: a step, an advance, and a value from outside.
use Rattle.std.proofs.Common.{◌≡◌, ◌==◌, ℕ, Bool, true, false, if◌then◌else◌, List, Option, Some, None, refl, subst}
use Rattle.vp_bits.specs.declared.bit.Bit.{Bit}
use Rattle.vp_elab.specs.Built.{Elaborated}
use Rattle.vp_elab.specs.declared.object.ObjectId.{ObjectId}
use Rattle.vp_expr.specs.declared.tables.Process.{Process}
use Rattle.vp_expr.specs.declared.tables.Process.TheVariants.{Procedure, Assignment, Connection}
use Rattle.vp_expr.specs.declared.tables.Tables.{Tables}
use Rattle.vp_expr.specs.Tables.{tables_of}
use Rattle.vp_statement.specs.declared.effect.Effect.{Effect}
use Rattle.vp_statement.specs.declared.effect.Effect.TheVariants as effect
use Rattle.vp_statement.specs.Walking.{next_event}
use Rattle.vp_active_events.specs.declared.event.Event.{Event}
use Rattle.vp_active_events.specs.declared.event.Event.TheVariants.{Evaluation, NetUpdate, Nonblocking}
use Rattle.vp_strata.specs.Queues.{first_time, is_done, peeked}
use Rattle.vp_expr.specs.declared.change.Change.{Change}
use Rattle.vp_sim.specs.States.{Outcome, Goes, Refuses, State, advance, advanced_to, delay_of, evaluated, happened, is_late, next_effect, performed, put, step, run_procedure, with_activation, with_effect, with_remaining}

-- the design of what an outcome goes on to
abbrev pub Leaves : Elaborated → Outcome → Type 0
Leaves d (Goes s change) = s.design ≡ d
Leaves d (Refuses e) = Unit {0}

either : (b : Bool) (d : Elaborated) (x y : Outcome) → Leaves d x → Leaves d y → Leaves d (if b then x else y)
either true d x y h k = h
either false d x y h k = k

chosen : (b : Bool) (x y : State) → x.design ≡ y.design → (if b then x else y).design ≡ y.design
chosen true x y h = h
chosen false x y h = refl

effect_leaves : (tables : Tables) (s : State) (process : ℕ) (e : Effect) → (with_effect tables s process e).design ≡ s.design
effect_leaves tables s process effect.Nothing = refl
effect_leaves tables s process (effect.Assigns object place value) = refl
effect_leaves tables s process (effect.Defers object place value delay) = chosen (delay == 0) _ _ refl
effect_leaves tables s process (effect.Pauses amount next) = chosen (amount == 0) _ _ refl
effect_leaves tables s process (effect.Awaits place next) = refl
effect_leaves tables s process (effect.Proceeds next) = refl
effect_leaves tables s process effect.Finishes = refl

performed_leaves : (tables : Tables) (s : State) (k process : ℕ) (rest : Option ℕ) (e : Effect) → Leaves s.design (performed tables s k process rest e)
performed_leaves tables s k process rest e =
    either (is_late s.time (delay_of e)) s.design _ _ tt (effect_leaves tables (with_remaining s k process rest e) process e)

turn_leaves : (tables : Tables) (s : State) (k process : ℕ) (instance : ObjectId) (repeats : Bool) (body : ℕ) (remaining : Option ℕ) → Leaves s.design (run_procedure tables s k process instance repeats body remaining)
turn_leaves tables s k process instance repeats body None = refl
turn_leaves tables s k process instance repeats body (Some place) =
    performed_leaves tables s k process _ (next_effect tables s instance (next_event tables.actions place))

evaluated_leaves : (tables : Tables) (s : State) (k process : ℕ) (p : Option Process) → Leaves s.design (evaluated tables s k process p)
evaluated_leaves tables s k process None = refl
evaluated_leaves tables s k process (Some (Procedure object instance repeats body)) = turn_leaves tables s k process instance repeats body _
evaluated_leaves tables s k process (Some (Assignment object net instance value)) = refl
evaluated_leaves tables s k process (Some (Connection port net)) = refl

happened_leaves : (tables : Tables) (s : State) (k : ℕ) (e : Option Event) → Leaves s.design (happened tables s k e)
happened_leaves tables s k None = tt
happened_leaves tables s k (Some (Evaluation process)) = evaluated_leaves tables s k process _
happened_leaves tables s k (Some (NetUpdate process value)) = refl
happened_leaves tables s k (Some (Nonblocking u)) = refl

-- a step leaves the design
pub step_leaves : (s : State) (k : ℕ) → Leaves s.design (step s k)
step_leaves s k =
    either s.finished s.design _ _ tt
    (either (is_done s.queue) s.design _ _ tt (happened_leaves (tables_of s.design) (with_activation s) k (peeked s.queue k)))

advanced_leaves : (s : State) (time : Option ℕ) → Leaves s.design (advanced_to s time)
advanced_leaves s None = tt
advanced_leaves s (Some time) = refl

-- and so does an advance
pub advance_leaves : (s : State) → Leaves s.design (advance s)
advance_leaves s =
    either s.finished s.design _ _ tt (either (is_done s.queue) s.design _ _ (advanced_leaves s (first_time s.queue.future)) tt)

-- and an object that is given a value from outside
pub put_leaves : (s : State) (object : ℕ) (value : List Bit) → Leaves s.design (put s object value)
put_leaves s object value = either s.finished s.design _ _ tt refl

left : (d : Elaborated) (o : Outcome) (end : State) (change : Option Change) → o ≡ Goes end change → Leaves d o → end.design ≡ d
left d o end change goes h = subst (Leaves d) goes h

-- the design of the state to which a step goes on
pub after_step : (s end : State) (k : ℕ) (change : Option Change) → step s k ≡ Goes end change → end.design ≡ s.design
after_step s end k change goes = left s.design (step s k) end change goes (step_leaves s k)

-- to which an advance does
pub after_advance : (s end : State) (change : Option Change) → advance s ≡ Goes end change → end.design ≡ s.design
after_advance s end change goes = left s.design (advance s) end change goes (advance_leaves s)

-- and to which a value from outside leads
pub after_put : (s end : State) (object : ℕ) (value : List Bit) (change : Option Change) → put s object value ≡ Goes end change → end.design ≡ s.design
after_put s end object value change goes = left s.design (put s object value) end change goes (put_leaves s object value)

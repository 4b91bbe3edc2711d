-- When two states of one design are the same, and two segments.
use Rattle.std.specs.Prelude.{ℕ, ◌==◌, ◌&&◌, Bool, true, false, nat_eq, Option, Some, None}
use Rattle.std.specs.Cmp.Lexicographic.{pointwise}
use Rattle.vp_bits.specs.Vector.{same_bits}
use Rattle.vp_strata.specs.declared.event.Delayed.{Delayed}
use Rattle.vp_strata.specs.declared.event.Delayed.TheVariants as later
use Rattle.vp_active_events.specs.declared.event.Event.{Event}
use Rattle.vp_active_events.specs.declared.event.Event.TheVariants.{Evaluation, NetUpdate, Nonblocking}
use Rattle.vp_active_events.specs.declared.event.NonblockingUpdate.{NonblockingUpdate}
use Rattle.vp_strata.specs.declared.event.Timed.{Timed}
use Rattle.vp_strata.specs.Queues.{Queue}
use Rattle.vp_sim.specs.Waiting.{Waiting}
use Rattle.vp_sim.specs.Waiting.TheVariants as wait
use Rattle.vp_sim.specs.States.{State}
use Rattle.vp_elab.specs.declared.object.ObjectId.{ObjectId}
use Rattle.vp_race.specs.Orders.{FirstChoice, first_choice}
use Rattle.vp_race.specs.Segments.{Run}

-- two truth values are the same
abbrev pub same_bool : Bool → Bool → Bool
same_bool true b = b
same_bool false true = false
same_bool false false = true

-- two numbers that may be missing are the same
abbrev pub same_place : Option ℕ → Option ℕ → Bool
same_place None None = true
same_place (Some a) (Some b) = a == b
same_place _ _ = false

-- two processes wait for the same
abbrev pub same_wait : Waiting → Waiting → Bool
same_wait wait.Nothing wait.Nothing = true
same_wait (wait.Statement a) (wait.Statement b) = a == b
same_wait wait.Operands wait.Operands = true
same_wait _ _ = false

-- two updates of nonblocking assignments are the same
abbrev pub same_update : NonblockingUpdate → NonblockingUpdate → Bool
same_update a b =
    (a.process == b.process) && (a.object == b.object) && same_place a.place b.place && same_bits a.value b.value

-- two active events are the same
abbrev pub same_event : Event → Event → Bool
same_event (Evaluation a) (Evaluation b) = a == b
same_event (NetUpdate a v) (NetUpdate b w) = (a == b) && same_bits v w
same_event (Nonblocking u) (Nonblocking w) = same_update u w
same_event _ _ = false

-- two delayed happenings are the same
abbrev pub same_delayed : Delayed → Delayed → Bool
same_delayed (later.Evaluation a) (later.Evaluation b) = a == b
same_delayed (later.Nonblocking u) (later.Nonblocking w) = same_update u w
same_delayed _ _ = false

-- two future events are the same
abbrev pub same_timed : Timed → Timed → Bool
same_timed a b = (a.time == b.time) && same_delayed a.event b.event

-- two queues are the same
abbrev pub same_queue : Queue → Queue → Bool
same_queue a b =
    pointwise same_event a.active b.active && pointwise nat_eq a.inactive b.inactive && pointwise same_update a.nonblocking b.nonblocking
    && pointwise same_timed a.future b.future

-- two states of one design are the same
abbrev pub same_state : State → State → Bool
same_state a b =
    (a.time == b.time) && same_bool a.finished b.finished && pointwise same_bits a.values b.values
    && pointwise same_place a.remaining b.remaining && pointwise same_wait a.waiting b.waiting && same_queue a.queue b.queue

-- the objects of two processes are the same
abbrev pub same_object : ObjectId → ObjectId → Bool
same_object a b = a.0 == b.0

-- two orders of one design have the same first choice, or both have none
abbrev pub same_choice : Option FirstChoice → Option FirstChoice → Bool
same_choice None None = true
same_choice (Some a) (Some b) = pointwise same_object a.sources b.sources && same_state a.state b.state
same_choice _ _ = false

-- two segments of one design are the same: they have one number, one order, and one first choice, so they have the same races
abbrev pub same_run : Run → Run → Bool
same_run a b =
    (a.number == b.number) && pointwise nat_eq a.order b.order
    && same_choice (first_choice a.start a.order) (first_choice b.start b.order)

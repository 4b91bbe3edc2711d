-- The tests of sameness decide equality.
use Rattle.std.proofs.Common.{◌≡◌, ◌∙◌, ◌==◌, ◌&&◌, ℕ, Bool, true, false, Option, Some, None, refl, sym, ap}
use Rattle.std.specs.Prelude.{nat_eq}
use Rattle.std.specs.Bool.{Decides}
use Rattle.std.specs.Cmp.Lexicographic.{pointwise, pointwise_decides}
use Rattle.std.proofs.lemmas.Bool.Decides.{Decides-and, Decides-eqb}
use Rattle.vp_bits.specs.Vector.{same_bits}
use Rattle.vp_bits.specs.laws.Words.{same_bits-Decides}
use Rattle.vp_strata.specs.declared.event.Delayed.{Delayed}
use Rattle.vp_strata.specs.declared.event.Delayed.TheVariants as later
use Rattle.vp_active_events.specs.declared.event.Event.{Event}
use Rattle.vp_active_events.specs.declared.event.Event.TheVariants.{Evaluation, NetUpdate, Nonblocking}
use Rattle.vp_active_events.specs.declared.event.NonblockingUpdate.{NonblockingUpdate}
use Rattle.vp_strata.specs.declared.event.Timed.{Timed}
use Rattle.vp_strata.specs.Queues.{Queue}
use Rattle.vp_sim.specs.Waiting.{Waiting}
use Rattle.vp_sim.specs.Waiting.TheVariants as wait
use Rattle.vp_sim.specs.States.{State}
use Rattle.vp_race.specs.Same.{same_bool, same_choice, same_delayed, same_event, same_object, same_place, same_queue, same_run, same_state, same_timed, same_update, same_wait}
use Rattle.vp_elab.specs.declared.object.ObjectId.{ObjectId}
use Rattle.vp_race.specs.Orders.{FirstChoice, first_choice}
use Rattle.vp_race.specs.Segments.{Run}

decides_as : {P Q : Type 0} (b : Bool) → (P → Q) → (Q → P) → Decides b P → Decides b Q
decides_as b f g h = (λ e. f (h.0 e), λ q. h.1 (g q))

never : {Q : Type 0} → (Q → ⊥) → Decides false Q
never isnt = (λ e. cc, λ q. absurd (isnt q))

pub same_bool_decides : (a b : Bool) → Decides (same_bool a b) (a ≡ b)
same_bool_decides true true = (λ e. refl, λ e. refl)
same_bool_decides true false = (λ e. cc, λ e. cc)
same_bool_decides false true = (λ e. cc, λ e. cc)
same_bool_decides false false = (λ e. refl, λ e. refl)

pub same_place_decides : (a b : Option ℕ) → Decides (same_place a b) (a ≡ b)
same_place_decides None None = (λ e. refl, λ e. refl)
same_place_decides None (Some b) = never (λ e. cc)
same_place_decides (Some a) None = never (λ e. cc)
same_place_decides (Some a) (Some b) = decides_as (a == b) (λ h. ap Some h) (λ e. cc) (Decides-eqb a b)

pub same_wait_decides : (a b : Waiting) → Decides (same_wait a b) (a ≡ b)
same_wait_decides wait.Nothing wait.Nothing = (λ e. refl, λ e. refl)
same_wait_decides wait.Nothing (wait.Statement b) = never (λ e. cc)
same_wait_decides wait.Nothing wait.Operands = never (λ e. cc)
same_wait_decides (wait.Statement a) wait.Nothing = never (λ e. cc)
same_wait_decides (wait.Statement a) (wait.Statement b) = decides_as (a == b) (λ h. ap wait.Statement h) (λ e. cc) (Decides-eqb a b)
same_wait_decides (wait.Statement a) wait.Operands = never (λ e. cc)
same_wait_decides wait.Operands wait.Nothing = never (λ e. cc)
same_wait_decides wait.Operands (wait.Statement b) = never (λ e. cc)
same_wait_decides wait.Operands wait.Operands = (λ e. refl, λ e. refl)

update_of : (a b : NonblockingUpdate) → (((a.process ≡ b.process) × (a.object ≡ b.object)) × (a.place ≡ b.place)) × (a.value ≡ b.value) → a ≡ b
update_of a b h =
    ap (λ x. record a { process = x }) h.0.0.0 ∙ ap (λ x. record a { process = b.process; object = x }) h.0.0.1
    ∙ ap (λ x. record a { process = b.process; object = b.object; place = x }) h.0.1 ∙ ap (λ x. record b { value = x }) h.1

pub same_update_decides : (a b : NonblockingUpdate) → Decides (same_update a b) (a ≡ b)
same_update_decides a b =
    let first = (a.process == b.process) && (a.object == b.object) in
    decides_as (same_update a b) (update_of a b) (λ e. (((ap (λ (u : NonblockingUpdate). u.process) e, ap (λ (u : NonblockingUpdate). u.object) e), ap (λ (u : NonblockingUpdate). u.place) e), ap (λ (u : NonblockingUpdate). u.value) e))
    (Decides-and (first && same_place a.place b.place) (same_bits a.value b.value)
    (Decides-and first (same_place a.place b.place)
    (Decides-and (a.process == b.process) (a.object == b.object) (Decides-eqb a.process b.process) (Decides-eqb a.object b.object))
    (same_place_decides a.place b.place)) (same_bits-Decides a.value b.value))

pub same_event_decides : (a b : Event) → Decides (same_event a b) (a ≡ b)
same_event_decides (Evaluation a) (Evaluation b) = decides_as (a == b) (λ h. ap Evaluation h) (λ e. cc) (Decides-eqb a b)
same_event_decides (Evaluation a) (NetUpdate b w) = never (λ e. cc)
same_event_decides (Evaluation a) (Nonblocking w) = never (λ e. cc)
same_event_decides (NetUpdate a v) (Evaluation b) = never (λ e. cc)
same_event_decides (NetUpdate a v) (NetUpdate b w) =
    decides_as ((a == b) && same_bits v w) (λ h. ap (λ x. NetUpdate x v) h.0 ∙ ap (NetUpdate b) h.1) (λ e. (cc, cc)) (Decides-and (a == b) (same_bits v w) (Decides-eqb a b) (same_bits-Decides v w))
same_event_decides (NetUpdate a v) (Nonblocking w) = never (λ e. cc)
same_event_decides (Nonblocking u) (Evaluation b) = never (λ e. cc)
same_event_decides (Nonblocking u) (NetUpdate b w) = never (λ e. cc)
same_event_decides (Nonblocking u) (Nonblocking w) = decides_as (same_update u w) (λ h. ap Nonblocking h) (λ e. cc) (same_update_decides u w)

pub same_delayed_decides : (a b : Delayed) → Decides (same_delayed a b) (a ≡ b)
same_delayed_decides (later.Evaluation a) (later.Evaluation b) = decides_as (a == b) (λ h. ap later.Evaluation h) (λ e. cc) (Decides-eqb a b)
same_delayed_decides (later.Evaluation a) (later.Nonblocking w) = never (λ e. cc)
same_delayed_decides (later.Nonblocking u) (later.Evaluation b) = never (λ e. cc)
same_delayed_decides (later.Nonblocking u) (later.Nonblocking w) = decides_as (same_update u w) (λ h. ap later.Nonblocking h) (λ e. cc) (same_update_decides u w)

timed_of : (a b : Timed) → (a.time ≡ b.time) × (a.event ≡ b.event) → a ≡ b
timed_of a b h = ap (λ x. record a { time = x }) h.0 ∙ ap (λ x. record b { event = x }) h.1

pub same_timed_decides : (a b : Timed) → Decides (same_timed a b) (a ≡ b)
same_timed_decides a b =
    decides_as (same_timed a b) (timed_of a b) (λ e. (ap (λ (t : Timed). t.time) e, ap (λ (t : Timed). t.event) e))
    (Decides-and (a.time == b.time) (same_delayed a.event b.event) (Decides-eqb a.time b.time) (same_delayed_decides a.event b.event))

queue_of : (a b : Queue) → (((a.active ≡ b.active) × (a.inactive ≡ b.inactive)) × (a.nonblocking ≡ b.nonblocking)) × (a.future ≡ b.future) → a ≡ b
queue_of a b h =
    ap (λ x. record a { active = x }) h.0.0.0 ∙ ap (λ x. record a { active = b.active; inactive = x }) h.0.0.1
    ∙ ap (λ x. record a { active = b.active; inactive = b.inactive; nonblocking = x }) h.0.1 ∙ ap (λ x. record b { future = x }) h.1

pub same_queue_decides : (a b : Queue) → Decides (same_queue a b) (a ≡ b)
same_queue_decides a b =
    let active = pointwise same_event a.active b.active in
    let inactive = pointwise nat_eq a.inactive b.inactive in
    let nonblocking = pointwise same_update a.nonblocking b.nonblocking in
    decides_as (same_queue a b) (queue_of a b) (λ e. (((ap (λ (q : Queue). q.active) e, ap (λ (q : Queue). q.inactive) e), ap (λ (q : Queue). q.nonblocking) e), ap (λ (q : Queue). q.future) e))
    (Decides-and (active && inactive && nonblocking) (pointwise same_timed a.future b.future)
    (Decides-and (active && inactive) nonblocking
    (Decides-and active inactive (pointwise_decides same_event_decides a.active b.active) (pointwise_decides Decides-eqb a.inactive b.inactive))
    (pointwise_decides same_update_decides a.nonblocking b.nonblocking)) (pointwise_decides same_timed_decides a.future b.future))

-- the parts of two states of one design are equal
abbrev AreParts : State → State → Type 0
AreParts a b =
    (((((a.time ≡ b.time) × (a.finished ≡ b.finished)) × (a.values ≡ b.values)) × (a.remaining ≡ b.remaining)) × (a.waiting ≡ b.waiting)) × (a.queue ≡ b.queue)

state_of : (a b : State) → a.design ≡ b.design → AreParts a b → a ≡ b
state_of a b d h =
    ap (λ x. record a { design = x }) d ∙ ap (λ x. record a { design = b.design; time = x }) h.0.0.0.0.0
    ∙ ap (λ x. record a { design = b.design; time = b.time; finished = x }) h.0.0.0.0.1
    ∙ ap (λ x. record a { design = b.design; time = b.time; finished = b.finished; values = x }) h.0.0.0.1
    ∙ ap (λ x. record b { remaining = x; waiting = a.waiting; queue = a.queue }) h.0.0.1
    ∙ ap (λ x. record b { waiting = x; queue = a.queue }) h.0.1
    ∙ ap (λ x. record b { queue = x }) h.1

parts_of : (a b : State) → a ≡ b → AreParts a b
parts_of a b e = (
  ((((ap (λ (s : State). s.time) e, ap (λ (s : State). s.finished) e), ap (λ (s : State). s.values) e), ap (λ (s : State). s.remaining) e), ap (λ (s : State). s.waiting) e),
  ap (λ (s : State). s.queue) e,
)

-- two states of one design are the same exactly where they are equal
pub same_state_decides : (a b : State) → a.design ≡ b.design → Decides (same_state a b) (a ≡ b)
same_state_decides a b d =
    let time = a.time == b.time in
    let finished = same_bool a.finished b.finished in
    let values = pointwise same_bits a.values b.values in
    let remaining = pointwise same_place a.remaining b.remaining in
    let waiting = pointwise same_wait a.waiting b.waiting in
    decides_as (same_state a b) (state_of a b d) (parts_of a b)
    (Decides-and (time && finished && values && remaining && waiting) (same_queue a.queue b.queue)
    (Decides-and (time && finished && values && remaining) waiting
    (Decides-and (time && finished && values) remaining
    (Decides-and (time && finished) values
    (Decides-and time finished (Decides-eqb a.time b.time) (same_bool_decides a.finished b.finished))
    (pointwise_decides same_bits-Decides a.values b.values)) (pointwise_decides same_place_decides a.remaining b.remaining))
    (pointwise_decides same_wait_decides a.waiting b.waiting)) (same_queue_decides a.queue b.queue))

pub same_object_decides : (a b : ObjectId) → Decides (same_object a b) (a ≡ b)
same_object_decides a b = decides_as (a.0 == b.0) (λ h. ap (λ (n : ℕ). record { 0 = n }) h) (λ e. ap (λ (o : ObjectId). o.0) e) (Decides-eqb a.0 b.0)

-- two first choices are of one design, if there are two
abbrev pub OneDesign : Option FirstChoice → Option FirstChoice → Type 0
OneDesign (Some a) (Some b) = a.state.design ≡ b.state.design
OneDesign _ _ = Unit {0}

choice_of : (a b : FirstChoice) → (a.sources ≡ b.sources) × (a.state ≡ b.state) → a ≡ b
choice_of a b h = ap (λ x. record a { sources = x }) h.0 ∙ ap (λ x. record b { state = x }) h.1

-- two first choices of one design are the same exactly where they are equal
pub same_choice_decides : (a b : Option FirstChoice) → OneDesign a b → Decides (same_choice a b) (a ≡ b)
same_choice_decides None None d = (λ e. refl, λ e. refl)
same_choice_decides None (Some b) d = never (λ e. cc)
same_choice_decides (Some a) None d = never (λ e. cc)
same_choice_decides (Some a) (Some b) d =
    decides_as (pointwise same_object a.sources b.sources && same_state a.state b.state) (λ h. ap Some (choice_of a b h))
    (λ e. let same : a ≡ b = cc in (ap (λ (c : FirstChoice). c.sources) same, ap (λ (c : FirstChoice). c.state) same))
    (Decides-and (pointwise same_object a.sources b.sources) (same_state a.state b.state)
    (pointwise_decides same_object_decides a.sources b.sources) (same_state_decides a.state b.state d))

-- two segments of one design are the same exactly where their numbers, their orders and their first choices are equal
pub same_run_decides :
    (a b : Run) → OneDesign (first_choice a.start a.order) (first_choice b.start b.order)
    → Decides (same_run a b) (((a.number ≡ b.number) × (a.order ≡ b.order)) × (first_choice a.start a.order ≡ first_choice b.start b.order))
same_run_decides a b d =
    let order = pointwise nat_eq a.order b.order in
    let first = same_choice (first_choice a.start a.order) (first_choice b.start b.order) in
    Decides-and ((a.number == b.number) && order) first
    (Decides-and (a.number == b.number) order (Decides-eqb a.number b.number) (pointwise_decides Decides-eqb a.order b.order))
    (same_choice_decides (first_choice a.start a.order) (first_choice b.start b.order) d)

-- What the run did in a time slot, and what is reported of it beside another order.
use Rattle.std.specs.Prelude.{◌≡◌, ℕ, not, if◌then◌else◌, List, Option, Some, None}
use Rattle.std.specs.Option.{option_map_or}
use Rattle.vp_bits.specs.declared.bit.Bit.{Bit}
use Rattle.vp_elab.specs.declared.object.ObjectId.{ObjectId}
use Rattle.vp_operand.specs.Values.{no_value}
use Rattle.vp_sim.specs.States.{State}
use Rattle.vp_race.specs.declared.error.RaceError.{RaceError}
use Rattle.vp_race.specs.declared.error.RaceError.TheVariants.{NotAnOrder, NotComplete, SameValue}
use Rattle.vp_race.specs.Orders.{HasEnd, IsRace, after_choices, differs, is_over, sources_of, value_of}

-- a segment: its number, the state with which it began, and the order that the run took from there (profile)
pub record Run : Type 0 where
  pub number : ℕ
  pub start : State
  pub order : List ℕ

-- an order beside that of a segment
pub record Beside : Type 0 where
  pub segment : Run
  pub second : List ℕ

-- a finding: a segment, an object, and the order beside the run's
pub record FindingState : Type 0 where
  pub segment : Run
  pub object : ObjectId
  pub second : List ℕ

-- a finding is a race of its segment
abbrev pub IsRaceOf : FindingState → Type 0
IsRaceOf f = IsRace f.segment.start f.segment.order f.second f.object.0

-- the value of an object after an order
abbrev pub value_after : State → (order : List ℕ) → (object : ℕ) → List Bit
value_after start order object = option_map_or (λ s. value_of s object) (after_choices start order) no_value

-- the values of a net or reg in two states, if they are different
abbrev pub apart : (first second : State) → (object : ℕ) → Option (List Bit × List Bit)
apart first second object =
    if differs first second object then Some (value_of first object, value_of second object) else None

-- why choices are no order, if they are none: one is no step's, then that something is left to do after the last (profile)
abbrev pub order_refusal : Option State → Option RaceError
order_refusal None = Some NotAnOrder
order_refusal (Some end) = if is_over end then None else Some NotComplete

-- why choices beside the run's are no race at an object, if they are none (profile)
abbrev pub refusal_after : (first second : Option State) → (object : ℕ) → Option RaceError
refusal_after first None object = Some NotAnOrder
refusal_after None (Some end) object = Some NotAnOrder
refusal_after (Some first) (Some end) object =
    if not (is_over end) then Some NotComplete else if differs first end object then None else Some SameValue

-- why choices are no race of a segment at an object, if they are none
abbrev pub check_refusal : Run → (choices : List ℕ) → (object : ℕ) → Option RaceError
check_refusal segment choices object = refusal_after (after_choices segment.start segment.order) (after_choices segment.start choices) object

-- why choices are not those of steps, if they are not
abbrev pub choices_refusal : Option State → Option RaceError
choices_refusal None = Some NotAnOrder
choices_refusal (Some end) = None

-- what is shown of two orders: the choices of the one beside the run's, and the processes of the steps of both, by their objects
pub record ShownOrders : Type 0 where
  pub second : List ℕ
  pub first_sources : List ObjectId
  pub second_sources : List ObjectId

-- the same of a segment's order and one beside it
abbrev pub orders_of : Run → (second : List ℕ) → ShownOrders
orders_of segment second = record {
  second = second;
  first_sources = sources_of segment.start segment.order;
  second_sources = sources_of segment.start second;
}

-- both are orders of the segment's time slot, and this is shown of them
pub record AreOrders (b : Beside) (orders : ShownOrders) : Type 0 where
  pub first : HasEnd b.segment.start b.segment.order
  pub second : HasEnd b.segment.start b.second
  pub shown : orders ≡ orders_of b.segment b.second

-- an object has these values after both orders, and they are a race
pub record AreApart (b : Beside) (object : ObjectId) (values : List Bit × List Bit) : Type 0 where
  pub race : IsRaceOf (record { segment = b.segment; object = object; second = b.second })
  pub first_value : values.0 ≡ value_after b.segment.start b.segment.order object.0
  pub second_value : values.1 ≡ value_after b.segment.start b.second object.0

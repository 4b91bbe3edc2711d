-- Orders of the events of a time slot, and races between them (clause 11.4.2: of the active events any may be next).
use Rattle.std.specs.Prelude.{◌≡◌, ◌≢◌, ℕ, ◌&&◌, ◌||◌, nat_lt, Bool, true, false, not, List, [], ◌∷◌, length, Option, Some, None, if◌then◌else◌, option_map, slice_get, slice_index_or}
use Rattle.std.specs.Option.{option_map_or}
use Rattle.vp_elab.specs.declared.object.Kind.{Kind}
use Rattle.vp_elab.specs.declared.object.Kind.TheVariants as kind
use Rattle.vp_elab.specs.Tree.{Node}
use Rattle.vp_elab.specs.declared.object.ObjectId.{ObjectId}
use Rattle.vp_bits.specs.declared.bit.Bit.{Bit}
use Rattle.vp_bits.specs.Vector.{same_bits}
use Rattle.vp_operand.specs.Values.{no_value}
use Rattle.vp_sim.specs.States.{Outcome, Goes, Refuses, State, eligible, slot_done, source_of, step}

-- ---- orders

-- the state that a step leads to, if it is one
abbrev pub reached : Outcome → Option State
reached (Goes s change) = Some s
reached (Refuses e) = None

-- the state that the steps of these choices lead to, one after another, from a state on that was reached
abbrev pub followed : Option State → (choices : List ℕ) → Option State
followed None choices = None
followed (Some s) [] = Some s
followed (Some s) (k ∷ ks) = followed (reached (step s k)) ks

-- the state that these choices lead to, if each is that of a step
abbrev pub after_choices : State → (choices : List ℕ) → Option State
after_choices s choices = followed (Some s) choices

-- nothing is left to do in the time slot: $finish was executed, or no event is left at the current time
abbrev pub is_over : State → Bool
is_over s = s.finished || slot_done s

-- an order of the events of a time slot from a state on: choices of steps that lead to a state in which nothing is left to do
pub record IsOrder (start : State) (choices : List ℕ) (end : State) : Type 0 where
  pub leads : after_choices start choices ≡ Some end
  pub over : is_over end ≡ true

-- choices are an order of the time slot of a state
pub record HasEnd (start : State) (choices : List ℕ) : Type 0 where
  pub end : State
  pub is_order : IsOrder start choices end

-- at one of the steps of these choices another event could have been taken, from a state on that was reached
abbrev pub chose_from : Option State → (choices : List ℕ) → Bool
chose_from None choices = false
chose_from (Some s) [] = false
chose_from (Some s) (k ∷ ks) = nat_lt 1 (length (eligible s)) || chose_from (reached (step s k)) ks

-- at one of the steps of these choices another event could have been taken
abbrev pub has_choice : State → (choices : List ℕ) → Bool
has_choice start choices = chose_from (Some start) choices

-- the processes whose events an order takes, by their objects, from a state on that was reached
abbrev pub sources_from : Option State → (choices : List ℕ) → List ObjectId
sources_from None choices = []
sources_from (Some s) [] = []
sources_from (Some s) (k ∷ ks) = source_of s k ∷ sources_from (reached (step s k)) ks

-- the processes whose events an order takes, by their objects
abbrev pub sources_of : State → (choices : List ℕ) → List ObjectId
sources_of s choices = sources_from (Some s) choices

-- the first choice of an order: the processes whose events it took before, by their objects, and the state in which it first could have
-- taken another event
pub record FirstChoice : Type 0 where
  pub sources : List ObjectId
  pub state : State

-- a first choice after one step more
abbrev pub with_source : (source : ObjectId) → FirstChoice → FirstChoice
with_source source first = record { sources = source ∷ first.sources; state = first.state }

-- the first choice of an order, from a state on that was reached, if it has one
abbrev pub first_choice_from : Option State → (choices : List ℕ) → Option FirstChoice
first_choice_from None choices = None
first_choice_from (Some s) [] = None
first_choice_from (Some s) (k ∷ ks) =
    if nat_lt 1 (length (eligible s))
    then Some (record { sources = []; state = s })
    else option_map (with_source (source_of s k)) (first_choice_from (reached (step s k)) ks)

-- the first choice of an order, if it has one
abbrev pub first_choice : State → (choices : List ℕ) → Option FirstChoice
first_choice start choices = first_choice_from (Some start) choices

-- ---- races

-- the value of an object in a state
abbrev pub value_of : State → (object : ℕ) → List Bit
value_of s object = slice_index_or s.values object no_value

-- an object of a kind holds a value that events change: it is a net or a reg
abbrev pub is_variable : Kind → Bool
is_variable kind.Net = true
is_variable kind.Reg = true
is_variable other = false

-- the object of a number is a net or a reg
abbrev pub is_signal : State → (object : ℕ) → Bool
is_signal s object = option_map_or (λ (n : Node). is_variable n.kind) (slice_get s.design.tree.nodes object) false

-- a net or reg has different values in two states
abbrev pub differs : (first second : State) → (object : ℕ) → Bool
differs first second object = is_signal first object && not (same_bits (value_of first object) (value_of second object))

-- a race of a time slot: two orders from its start, after which a net or a reg has different values (clause 11.5)
pub record IsRace (start : State) (first second : List ℕ) (object : ℕ) : Type 0 where
  pub first_end : State
  pub second_end : State
  pub first_order : IsOrder start first first_end
  pub second_order : IsOrder start second second_end
  pub signal : is_signal start object ≡ true
  pub differ : value_of first_end object ≢ value_of second_end object

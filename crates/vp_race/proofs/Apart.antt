-- The values of an object in two states of one design.
use Rattle.std.proofs.Common.{◌≡◌, ◌∙◌, ℕ, ◌&&◌, Bool, true, false, not, if◌then◌else◌, Some, None, ap}
use Rattle.std.specs.Prelude.{slice_get}
use Rattle.std.specs.Option.{option_map_or}
use Rattle.vp_bits.specs.Vector.{same_bits}
use Rattle.vp_elab.specs.Built.{Elaborated}
use Rattle.vp_elab.specs.Tree.{Node}
use Rattle.vp_sim.specs.States.{State}
use Rattle.vp_race.specs.Orders.{is_signal, is_variable, value_of}
use Rattle.vp_race.specs.Segments.{apart}

-- an object of one design is a net or reg in both states, or in none
pub signal_as : (first second : State) (object : ℕ) → first.design ≡ second.design → is_signal first object ≡ is_signal second object
signal_as first second object same =
    ap (λ (d : Elaborated). option_map_or (λ (n : Node). is_variable n.kind) (slice_get d.tree.nodes object) false) same

-- what is no net or reg has no different values
pub no_signal : (first second : State) (object : ℕ) → first.design ≡ second.design → is_signal second object ≡ false → apart first second object ≡ None
no_signal first second object same none =
    ap (λ (b : Bool). if b && not (same_bits (value_of first object) (value_of second object)) then Some (value_of first object, value_of second object) else None)
    (signal_as first second object same ∙ none)

-- a net or reg has different values where they are not the same
pub of_signal : (first second : State) (object : ℕ) (b : Bool) → first.design ≡ second.design → is_signal second object ≡ true → same_bits (value_of first object) (value_of second object) ≡ b
    → apart first second object ≡ (if not b then Some (value_of first object, value_of second object) else None)
of_signal first second object b same there is =
    ap (λ (s : Bool). if s && not (same_bits (value_of first object) (value_of second object)) then Some (value_of first object, value_of second object) else None)
    (signal_as first second object same ∙ there)
    ∙ ap (λ (s : Bool). if not s then Some (value_of first object, value_of second object) else None) is

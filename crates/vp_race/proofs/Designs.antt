-- An order leaves the design.
use Rattle.std.proofs.Common.{◌≡◌, ℕ, List, [], ◌∷◌, Option, Some, None, refl, subst}
use Rattle.vp_elab.specs.Built.{Elaborated}
use Rattle.vp_sim.specs.States.{Outcome, Goes, Refuses, State, step}
use Rattle.vp_sim.specs.laws.Designs.{Leaves, step_leaves}
use Rattle.vp_race.specs.Orders.{after_choices, followed, reached}

-- the design of a state that was reached
abbrev Has : Elaborated → Option State → Type 0
Has d None = Unit {0}
Has d (Some s) = s.design ≡ d

reached_has : (d : Elaborated) (o : Outcome) → Leaves d o → Has d (reached o)
reached_has d (Goes s change) h = h
reached_has d (Refuses e) h = tt

followed_has : (d : Elaborated) (o : Option State) (ks : List ℕ) → Has d o → Has d (followed o ks)
followed_has d None ks h = h
followed_has d (Some s) [] h = h
followed_has d (Some s) (k ∷ ks) h =
    followed_has d (reached (step s k)) ks (subst (λ (e : Elaborated). Has e (reached (step s k))) h (reached_has s.design (step s k) (step_leaves s k)))

has_some : (d : Elaborated) (o : Option State) (end : State) → o ≡ Some end → Has d o → end.design ≡ d
has_some d o end there h = subst (λ (p : Option State). Has d p) there h

-- choices leave the design
pub after_design : (s : State) (ks : List ℕ) (end : State) → after_choices s ks ≡ Some end → end.design ≡ s.design
after_design s ks end there = has_some s.design (after_choices s ks) end there (followed_has s.design (Some s) ks refl)

-- choices lead to one state
pub one_end : (o : Option State) (first second : State) → o ≡ Some first → o ≡ Some second → first ≡ second
one_end o first second h k = cc

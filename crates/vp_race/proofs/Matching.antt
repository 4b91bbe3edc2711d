-- When two closed segments are the same, by what is kept of them.
use Rattle.std.proofs.Common.{◌≡◌, ◌∙◌, ◌++◌, ℕ, Bool, true, false, List, Option, Some, None, length, replicate, refl, sym, ap, subst}
use Rattle.std.specs.Prelude.{nat_eq, is_some, option_map}
use Rattle.std.proofs.lemmas.Bool.Decides.{Decides-eqb}
use Rattle.std.proofs.lemmas.List.{append_cancel_left, length-replicate}
use Rattle.vp_elab.specs.declared.object.ObjectId.{ObjectId}
use Rattle.vp_sim.specs.States.{State}
use Rattle.vp_race.specs.Orders.{FirstChoice, HasEnd, first_choice, has_choice}
use Rattle.vp_race.specs.Recording.{Chosen, IsClosed, order_from}
use Rattle.vp_race.specs.Same.{same_run}
use Rattle.vp_race.specs.Segments.{Run}
use Rattle.vp_race.specs.laws.Sameness.{same_run_decides}
use Rattle.vp_race.proofs.Carrying.{of_one_design}
use Rattle.vp_race.proofs.Closing.{closed_choice, closed_end, closed_first, first_of}
use Rattle.vp_race.proofs.Designs.{after_design}
use Rattle.vp_race.proofs.Forcing.{zeros}
use Rattle.vp_race.proofs.Standing.{zeros_lead}

-- a closed segment
abbrev pub run_of : (number : ℕ) → (start : State) → (forced : ℕ) → Option Chosen → Run
run_of number start forced chosen = record { number = number; start = start; order = order_from forced chosen }

decided_by : (r s : Bool) → (r ≡ true → s ≡ true) → (s ≡ true → r ≡ true) → r ≡ s
decided_by true s f g = sym (f refl)
decided_by false true f g = g refl
decided_by false false f g = refl

-- ---- of one segment

no_choice : (chosen : Option Chosen) → is_some chosen ≡ false → chosen ≡ None
no_choice None h = refl
no_choice (Some c) h = cc

-- where the run never had a choice, its steps are counted
pub counted : (start : State) (forced : ℕ) (chosen : Option Chosen) → IsClosed start forced chosen → has_choice start (order_from forced chosen) ≡ false → order_from forced chosen ≡ replicate forced 0
counted start forced chosen h none = ap (order_from forced) (no_choice chosen (closed_choice start forced chosen h ∙ none))

-- and where nothing is kept it never had one
pub never : (start : State) (forced : ℕ) (chosen : Option Chosen) → IsClosed start forced chosen → chosen ≡ None → has_choice start (order_from forced chosen) ≡ false
never start forced chosen h none = sym (closed_choice start forced chosen h) ∙ ap is_some none

-- a first choice is of the design of the start
pub choice_design : (start : State) (forced : ℕ) (c : Chosen) → IsClosed start forced (Some c) → c.state.design ≡ start.design
choice_design start forced c h = after_design start (zeros c.sources) c.state (zeros_lead (Some start) c.sources c.state h.0.forced)

-- ---- of two

firsts_equal : (a b : Chosen) → a.sources ≡ b.sources → a.state ≡ b.state → Some (first_of a) ≡ Some (first_of b)
firsts_equal a b os s = ap (λ (x : List ObjectId). Some (record { sources = x; state = a.state })) os ∙ ap (λ (x : State). Some (record { sources = b.sources; state = x })) s

sources_equal : (a b : Chosen) → Some (first_of a) ≡ Some (first_of b) → a.sources ≡ b.sources
sources_equal a b h = let same : first_of a ≡ first_of b = cc in ap (λ (c : FirstChoice). c.sources) same

states_equal : (a b : Chosen) → Some (first_of a) ≡ Some (first_of b) → a.state ≡ b.state
states_equal a b h = let same : first_of a ≡ first_of b = cc in ap (λ (c : FirstChoice). c.state) same

orders_equal : (a b : Chosen) → a.sources ≡ b.sources → zeros a.sources ++ a.order ≡ zeros b.sources ++ b.order → a.order ≡ b.order
orders_equal a b os h = append_cancel_left (zeros a.sources) a.order b.order (h ∙ ap (λ (x : List ObjectId). zeros x ++ b.order) (sym os))

-- where both had a choice
pub same_chosen :
    (m n : ℕ) (s t : State) (f g : ℕ) (a b : Chosen) (r : Bool) → m ≡ n → s.design ≡ t.design → IsClosed s f (Some a) → IsClosed t g (Some b)
    → (r ≡ true → a.sources ≡ b.sources) → (r ≡ true → a.state ≡ b.state) → (r ≡ true → a.order ≡ b.order)
    → (a.sources ≡ b.sources → a.state ≡ b.state → a.order ≡ b.order → r ≡ true)
    → r ≡ same_run (run_of m s f (Some a)) (run_of n t g (Some b))
same_chosen m n s t f g a b r number design ha hb sources state order back =
    let x = run_of m s f (Some a) in
    let y = run_of n t g (Some b) in
    let d = same_run_decides x y (of_one_design x y design) in
    let one = closed_first s f (Some a) ha in
    let two = closed_first t g (Some b) hb in
    decided_by r (same_run x y)
    (λ h. d.1 ((number, ap (λ (os : List ObjectId). zeros os ++ a.order) (sources h) ∙ ap (λ ks. zeros b.sources ++ ks) (order h)), one ∙ firsts_equal a b (sources h) (state h) ∙ sym two))
    (λ h.
    let is = d.0 h in
    let both : Some (first_of a) ≡ Some (first_of b) = sym one ∙ is.1 ∙ two in
    let os = sources_equal a b both in
    back os (states_equal a b both) (orders_equal a b os is.0.1))

-- where neither had one
pub same_forced : (m n : ℕ) (s t : State) (f g : ℕ) → m ≡ n → s.design ≡ t.design → IsClosed s f None → IsClosed t g None → nat_eq f g ≡ same_run (run_of m s f None) (run_of n t g None)
same_forced m n s t f g number design ha hb =
    let x = run_of m s f None in
    let y = run_of n t g None in
    let d = same_run_decides x y (of_one_design x y design) in
    let counts = Decides-eqb f g in
    decided_by (nat_eq f g) (same_run x y)
    (λ h. d.1 ((number, ap (λ k. replicate k 0) (counts.0 h)), closed_first s f None ha ∙ sym (closed_first t g None hb)))
    (λ h. counts.1 (sym (length-replicate f 0) ∙ ap length (d.0 h).0.1 ∙ length-replicate g 0))

no_such : (c : FirstChoice) → None ≡ Some c → ⊥
no_such c h = cc

-- where one of them had one
pub other_forced : (m n : ℕ) (s t : State) (f g : ℕ) (b : Chosen) → s.design ≡ t.design → IsClosed s f None → IsClosed t g (Some b) → false ≡ same_run (run_of m s f None) (run_of n t g (Some b))
other_forced m n s t f g b design ha hb =
    let x = run_of m s f None in
    let y = run_of n t g (Some b) in
    let d = same_run_decides x y (of_one_design x y design) in
    decided_by false (same_run x y) (λ h. cc) (λ h. absurd (no_such (first_of b) (sym (closed_first s f None ha) ∙ (d.0 h).1 ∙ closed_first t g (Some b) hb)))

-- and where the other had one
pub other_chosen : (m n : ℕ) (s t : State) (f g : ℕ) (a : Chosen) → s.design ≡ t.design → IsClosed s f (Some a) → IsClosed t g None → false ≡ same_run (run_of m s f (Some a)) (run_of n t g None)
other_chosen m n s t f g a design ha hb =
    let x = run_of m s f (Some a) in
    let y = run_of n t g None in
    let d = same_run_decides x y (of_one_design x y design) in
    decided_by false (same_run x y) (λ h. cc) (λ h. absurd (no_such (first_of a) (sym (closed_first t g None hb) ∙ sym (d.0 h).1 ∙ closed_first s f (Some a) ha)))

-- The segments of a run are of its design.
use Rattle.std.proofs.Common.{◌≡◌, ◌∙◌, ℕ, Bool, true, false, cond, List, [], ◌∷◌, ◌++◌, All, Option, Some, None, IfSome, refl, sym, ap, subst}
use Rattle.std.specs.Prelude.{if◌then◌else◌, option_copied}
use Rattle.std.specs.List.{find}
use Rattle.std.proofs.lemmas.List.Elements.{All-head, All-push, All-tail}
use denote.Ref.{Bor}
use Rattle.vp_bits.specs.declared.bit.Bit.{Bit}
use Rattle.vp_elab.specs.Built.{Elaborated}
use Rattle.vp_race.specs.Orders.{is_over}
use Rattle.vp_race.proofs.Within.{all_kept}
use Rattle.vp_race.specs.Recording.{Recorded, Segments, closed_run, kept_of, next_job, with_anew, with_step}
use Rattle.vp_race.specs.Segments.{Run}
use Rattle.vp_sim.specs.States as sim
use Rattle.vp_sim.specs.laws.Designs.{after_put, after_step}
use Rattle.vp_policy.specs.PolicyState.{Fits, PolicyState}
use Rattle.vp_expr.specs.declared.change.Change.{Change}
use Rattle.vp_world.specs.History.{outcome_of_put, segments_of_put}
use Rattle.vp_world.specs.Shown.{AreOfDesign}

-- a simulation with these segments
abbrev with_segments : sim.State → Segments → Recorded
with_segments s segments = record { simulation = s; segments = segments }

-- all of these segments are of a design
abbrev AllOf : Elaborated → List Run → Type 0
AllOf d runs = All (λ (run : Run). run.start.design ≡ d) runs

-- those that are kept, of a state of the same design
kept_same : (old : Recorded) (next : sim.State) → next.design ≡ old.simulation.design → AreOfDesign old → AllOf next.design old.segments.kept
kept_same old next same of = subst (λ (d : Elaborated). AllOf d old.segments.kept) (sym same) of.kept

-- other segments that are the same
of_same : (r : Recorded) (segments : Segments) → r.segments ≡ segments → AreOfDesign (with_segments r.simulation segments) → AreOfDesign r
of_same r segments is of = subst (λ (s : Segments). AreOfDesign (with_segments r.simulation s)) (sym is) of

-- ---- what goes on

-- a segment begins anew
anew_of : (old : Recorded) (next : sim.State) → next.design ≡ old.simulation.design → AreOfDesign old → AreOfDesign (with_segments next (with_anew old.segments next))
anew_of old next same of = record { opened = refl; kept = kept_same old next same of }

-- one of two
one_of : (b : Bool) (next : sim.State) (x y : Segments) → AreOfDesign (with_segments next x) → AreOfDesign (with_segments next y) → AreOfDesign (with_segments next (if b then x else y))
one_of true next x y h k = h
one_of false next x y h k = k

-- a step goes on to a state of the same design
goes_of : (old : Recorded) (k : ℕ) (next : sim.State) → next.design ≡ old.simulation.design → AreOfDesign old → AreOfDesign (with_segments next (with_step old.segments k next))
goes_of old k next same of =
    let kept = kept_same old next same of in
    let opened : old.segments.opened.start.design ≡ next.design = of.opened ∙ sym same in
    let P : Run → Type 0 = λ run. run.start.design ≡ next.design in
    let runs = old.segments.kept ++ closed_run old.segments k ∷ [] in
    one_of (is_over next) next _ _
    (record { opened = refl; kept = all_kept P runs (All-push P old.segments.kept (closed_run old.segments k) kept opened) })
    (record { opened = opened; kept = kept })

-- after a step
pub stepped_of : (old new : Recorded) (k : ℕ) (change : Option Change) → sim.step old.simulation k ≡ sim.Goes new.simulation change → new.segments ≡ with_step old.segments k new.simulation → AreOfDesign old → AreOfDesign new
stepped_of old new k change goes is of =
    of_same new (with_step old.segments k new.simulation) is
    (goes_of old k new.simulation (after_step old.simulation new.simulation k change goes) of)

-- after a put, if there is one
pub put_leaves : (old new : Recorded) (p : Option (ℕ × List Bit)) (change : Option Change) → outcome_of_put old.simulation p ≡ sim.Goes new.simulation change → new.segments ≡ segments_of_put old.segments p new.simulation → AreOfDesign old → AreOfDesign new
put_leaves old new None change goes is of =
    let same : old.simulation ≡ new.simulation = cc in
    of_same new old.segments is (subst (λ (s : sim.State). AreOfDesign (with_segments s old.segments)) same of)
put_leaves old new (Some p) change goes is of =
    of_same new (with_anew old.segments new.simulation) is
    (anew_of old new.simulation (after_put old.simulation new.simulation p.0 p.1 change goes) of)

-- ---- a policy that fits

-- fits after a step
pub fits_stepped : (policy : PolicyState) (old new : Recorded) (k : ℕ) (change : Option Change) → sim.step old.simulation k ≡ sim.Goes new.simulation change → Fits policy old.simulation.design.tree → Fits policy new.simulation.design.tree
fits_stepped policy old new k change goes fits = fits ∙ ap (λ (d : Elaborated). d.tree) (sym (after_step old.simulation new.simulation k change goes))

-- and after a put, if there is one
pub fits_put : (policy : PolicyState) (old new : Recorded) (p : Option (ℕ × List Bit)) (change : Option Change) → outcome_of_put old.simulation p ≡ sim.Goes new.simulation change → Fits policy old.simulation.design.tree → Fits policy new.simulation.design.tree
fits_put policy old new None change goes fits =
    let same : old.simulation ≡ new.simulation = cc in
    fits ∙ ap (λ (s : sim.State). s.design.tree) same
fits_put policy old new (Some p) change goes fits =
    fits ∙ ap (λ (d : Elaborated). d.tree) (sym (after_put old.simulation new.simulation p.0 p.1 change goes))

-- ---- the kept segment of a number

-- what holds of all holds of the one that is found
pub found : {X : Type 0} (P : X → Type 0) (test : X → Bool) (xs : List X) → All P xs → IfSome (find test xs) P
found P test [] all = tt
found P test (x ∷ xs) all =
    let rest = found P test xs (All-tail P x xs all) in
    elim (test x) as (λ b. IfSome (cond b (Some x) (find test xs)) P) [
      | true ↦ All-head P x xs all
      | false ↦ rest
    ]

-- and of what is borrowed of it
borrowed : {X : Type 0} (P : X → Type 0) (o : Option (Bor X)) (there : Option X) → option_copied o ≡ there → IfSome there P → IfSome o (λ b. P b.now)
borrowed P None there is holds = tt
borrowed P (Some b) there is holds = subst (λ t. IfSome t P) (sym is) holds

-- the kept segment of a number is of the same design as another of this design
pub kept_design : (r : Recorded) (number : ℕ) (o : Option (Bor Run)) (d : Elaborated) → option_copied o ≡ kept_of r.segments number → d ≡ r.simulation.design → AreOfDesign r → IfSome o (λ s. s.now.start.design ≡ d)
kept_design r number o d is same of =
    borrowed (λ (run : Run). run.start.design ≡ d) o (kept_of r.segments number) is
    (found (λ (run : Run). run.start.design ≡ d) _ r.segments.kept
    (subst (λ (e : Elaborated). AllOf e r.segments.kept) (sym same) of.kept))

-- and so is the next job
pub job_design : (r : Recorded) (o : Option (Bor Run)) (d : Elaborated) → option_copied o ≡ next_job r.segments → d ≡ r.simulation.design → AreOfDesign r → IfSome o (λ s. s.now.start.design ≡ d)
job_design r o d is same of =
    borrowed (λ (run : Run). run.start.design ≡ d) o (next_job r.segments) is
    (found (λ (run : Run). run.start.design ≡ d) _ r.segments.kept
    (subst (λ (e : Elaborated). AllOf e r.segments.kept) (sym same) of.kept))

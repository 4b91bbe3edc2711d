use Rattle.std.proofs.Common.{◌≡◌, ◌∙◌, ◌-◌, ◌<◌, ℕ, false, Option, Some, None, List, length, arith, refl, subst, sym}
use Rattle.std.specs.Prelude.{IfSome, is_some, option_map}
use Rattle.vp_elab.specs.declared.object.ObjectId.{ObjectId}
use Rattle.vp_sim.specs.States.{State, eligible}
use Rattle.vp_race.specs.Recording.{Begun, Chosen}
use Rattle.vp_race.proofs.Standing.{begun_with}
use Rattle.vp_race.proofs.open_segment.OpenSegment.keep_choice.Goals as goal

no_choice : (chosen : Option Chosen) → is_some chosen ≡ false → chosen ≡ None
no_choice None h = refl
no_choice (Some c) h = cc

-- a segment that is begun has no first choice where none is kept
none_first : (start : Option State) (sources : List ObjectId) (room : ℕ) (choice : Option Chosen) → choice ≡ None
    → IfSome (option_map (begun_with sources room choice) start) (λ (b : Begun). b.chosen ≡ None)
none_first None sources room choice none = tt
none_first (Some start) sources room choice none = none

pub keep-requires : goal.keep-requires
keep-requires c =
    let i = c.self.inside in
    let none = no_choice i.choice (sym c.is_some.ensures ∙ c.if-is_some.false) in
    let choice : 1 < length (eligible c.args.simulation.now) = omega (arith, c.eligible.ensures, c.if-eligible-le1.false) in
    record {
      stands = c.requires.stands;
      begun = c.requires.begun;
      first = subst (λ (b : Option Begun). IfSome b (λ x. x.chosen ≡ None)) c.self.view_is (none_first i.start i.sources.items (i.sources.cap - i.sources.len) i.choice none);
      choice = choice;
      unfinished = sym c.is_over.ensures ∙ c.if-is_over.false;
    }

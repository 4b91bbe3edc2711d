use Rattle.std.proofs.Common.{◌≡◌, ◌+◌, ◌∙◌, ap, sym, true, false, drop, map, List, ℕ, Option, [], arith}
use Rattle.std.proofs.Math.ListN.{drop_of_length-le}
use Rattle.vp_pragma.specs.declared.viewport.Viewport as declared
use Rattle.vp_pragma.specs.Reading.{viewport_of}
use Rattle.vp_pragma.specs.Rights.{RightSet, set_of}
use Rattle.vp_elab.specs.declared.step_rights.StepRights.{StepRights}
use Rattle.vp_elab.specs.Tree.{Step, matches, step_named}
use Rattle.vp_elab.proofs.OpenedSteps.{beside, either-nothing, first_beside, first_next, first_none, pair_same, rights_next}
use Rattle.vp_elab.specs.laws.Positions.{position_is}
use Rattle.vp_elab.proofs.step_rights.step_rights_of.Goals as goal
use Rattle.vp_elab.proofs.step_rights.step_rights_of.Goals.{then-is_on, else-is_on}

pub loop-number-init : goal.loop-number-init
loop-number-init c =
    let vs : List declared.Viewport = c.args.viewports.now in
    let s : Step = step_named c.args.envelope c.args.module.now c.args.item.now in
    record {
      rights = ap (λ (r : RightSet × Option ℕ). beside r.0 vs s) c.none-step_rights.ensures;
      viewport =
          ap (λ (r : RightSet × Option ℕ). first_beside r.1 0 vs s) c.none-step_rights.ensures ∙ sym (position_is (matches s) (map viewport_of vs));
    }

pub loop-number-preserved : goal.loop-number-preserved
loop-number-preserved c =
    let vs : List declared.Viewport = c.args.viewports.now in
    let s : Step = step_named c.args.envelope c.args.module.now c.args.item.now in
    let n : ℕ = c.loop-number.number in
    let v : declared.Viewport = c.index-viewports-number.result in
    elim c.if-is_on.branch [
      | then-is_on w ↦ record {
        rights =
            ap (λ (r : RightSet). beside r (drop (n + 1) vs) s) (ap (λ (x : StepRights). set_of x.rights) w.step_rights-is ∙ w.with-step_rights.ensures.rights)
            ∙ rights_next s vs n v true (set_of c.loop-number.step_rights.rights) c.loop-number-test.true c.index-viewports-number.is (sym w.if-is_on.true ∙ c.is_on.ensures)
            ∙ c.loop-number.invariant.rights;
        viewport =
            ap (λ (o : Option ℕ). first_beside o (n + 1) (drop (n + 1) vs) s) (ap (λ (x : StepRights). x.viewport) w.step_rights-is ∙ w.with-step_rights.ensures.viewport)
            ∙ first_next s vs n v true c.loop-number.step_rights.viewport c.loop-number-test.true c.index-viewports-number.is (sym w.if-is_on.true ∙ c.is_on.ensures)
            ∙ c.loop-number.invariant.viewport;
      }
      | else-is_on w ↦ record {
        rights =
            ap (λ (x : StepRights). beside (set_of x.rights) (drop (n + 1) vs) s) w.step_rights-is
            ∙ rights_next s vs n v false (set_of c.loop-number.step_rights.rights) c.loop-number-test.true c.index-viewports-number.is (sym w.if-is_on.false ∙ c.is_on.ensures)
            ∙ c.loop-number.invariant.rights;
        viewport =
            ap (λ (x : StepRights). first_beside x.viewport (n + 1) (drop (n + 1) vs) s) w.step_rights-is
            ∙ first_next s vs n v false c.loop-number.step_rights.viewport c.loop-number-test.true c.index-viewports-number.is (sym w.if-is_on.false ∙ c.is_on.ensures)
            ∙ c.loop-number.invariant.viewport;
      }
    ]

pub returns : goal.returns
returns c =
    let vs : List declared.Viewport = c.args.viewports.now in
    let s : Step = step_named c.args.envelope c.args.module.now c.args.item.now in
    let none : drop c.loop-number.number vs ≡ [] = let past = c.loop-number-test.false in drop_of_length-le vs (omega arith) in
    pair_same
    (sym (either-nothing (set_of c.loop-number.step_rights.rights)) ∙ sym (ap (λ ws. beside (set_of c.loop-number.step_rights.rights) ws s) none) ∙ c.loop-number.invariant.rights)
    (sym (first_none c.loop-number.step_rights.viewport) ∙ sym (ap (λ ws. first_beside c.loop-number.step_rights.viewport c.loop-number.number ws s) none) ∙ c.loop-number.invariant.viewport)

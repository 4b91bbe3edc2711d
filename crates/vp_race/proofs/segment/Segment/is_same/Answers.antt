use Rattle.std.proofs.Common.{◌≡◌, ◌∙◌, Bool, Option, Some, None, ap, subst, sym}
use Rattle.vp_race.specs.Recording.{Chosen, IsClosed}
use Rattle.vp_race.specs.Same.{same_run}
use Rattle.vp_race.specs.Segments.{Run}
use Rattle.vp_race.proofs.Matching.{choice_design, other_chosen, other_forced, run_of, same_chosen, same_forced}
use Rattle.vp_race.proofs.segment.Segment.is_same.Goals as goal

pub is_same-requires : goal.is_same-requires
is_same-requires c =
    let a = c.self.inside in
    let b = c.other.inside in
    choice_design a.start a.forced c.in-Some-Some.choice (subst (IsClosed a.start a.forced) c.in-Some-Some.is-0 c.self.invariant)
    ∙ ap (λ (r : Run). r.start.design) c.self.view_is ∙ c.requires ∙ sym (ap (λ (r : Run). r.start.design) c.other.view_is)
    ∙ sym (choice_design b.start b.forced c.in-Some-Some.beside (subst (IsClosed b.start b.forced) c.in-Some-Some.is-1 c.other.invariant))

-- what was compared, of the two segments
seen : (a b x y : Run) (r : Bool) → r ≡ same_run a b → a ≡ x → b ≡ y → r ≡ same_run x y
seen a b x y r is one two = is ∙ ap (λ z. same_run z b) one ∙ ap (same_run x) two

pub returns-in-Some-Some : goal.returns-in-Some-Some
returns-in-Some-Some c =
    let a = c.self.inside in
    let b = c.other.inside in
    let design = ap (λ (r : Run). r.start.design) c.self.view_is ∙ c.requires ∙ sym (ap (λ (r : Run). r.start.design) c.other.view_is) in
    let e = c.is_same.ensures in
    seen (run_of a.number a.start a.forced (Some c.in-Some-Some.choice)) (run_of b.number b.start b.forced (Some c.in-Some-Some.beside)) c.args.self.now c.args.other.now c.is_same.result
    (same_chosen a.number b.number a.start b.start a.forced b.forced c.in-Some-Some.choice c.in-Some-Some.beside c.is_same.result c.if-self-other.false design
    (subst (IsClosed a.start a.forced) c.in-Some-Some.is-0 c.self.invariant) (subst (IsClosed b.start b.forced) c.in-Some-Some.is-1 c.other.invariant)
    e.sources e.state e.order e.differs)
    (ap (run_of a.number a.start a.forced) (sym c.in-Some-Some.is-0) ∙ c.self.view_is) (ap (run_of b.number b.start b.forced) (sym c.in-Some-Some.is-1) ∙ c.other.view_is)

pub returns-in-None-None : goal.returns-in-None-None
returns-in-None-None c =
    let a = c.self.inside in
    let b = c.other.inside in
    let design = ap (λ (r : Run). r.start.design) c.self.view_is ∙ c.requires ∙ sym (ap (λ (r : Run). r.start.design) c.other.view_is) in
    seen (run_of a.number a.start a.forced None) (run_of b.number b.start b.forced None) c.args.self.now c.args.other.now _
    (same_forced a.number b.number a.start b.start a.forced b.forced c.if-self-other.false design
    (subst (IsClosed a.start a.forced) c.in-None-None.is-0 c.self.invariant) (subst (IsClosed b.start b.forced) c.in-None-None.is-1 c.other.invariant))
    (ap (run_of a.number a.start a.forced) (sym c.in-None-None.is-0) ∙ c.self.view_is) (ap (run_of b.number b.start b.forced) (sym c.in-None-None.is-1) ∙ c.other.view_is)

pub returns-in-Some-None : goal.returns-in-Some-None
returns-in-Some-None c =
    let a = c.self.inside in
    let b = c.other.inside in
    let design = ap (λ (r : Run). r.start.design) c.self.view_is ∙ c.requires ∙ sym (ap (λ (r : Run). r.start.design) c.other.view_is) in
    seen (run_of a.number a.start a.forced (Some c.in-Some-None.field-0-0)) (run_of b.number b.start b.forced None) c.args.self.now c.args.other.now _
    (other_chosen a.number b.number a.start b.start a.forced b.forced c.in-Some-None.field-0-0 design
    (subst (IsClosed a.start a.forced) c.in-Some-None.is-0 c.self.invariant) (subst (IsClosed b.start b.forced) c.in-Some-None.is-1 c.other.invariant))
    (ap (run_of a.number a.start a.forced) (sym c.in-Some-None.is-0) ∙ c.self.view_is) (ap (run_of b.number b.start b.forced) (sym c.in-Some-None.is-1) ∙ c.other.view_is)

pub returns-in-None-Some : goal.returns-in-None-Some
returns-in-None-Some c =
    let a = c.self.inside in
    let b = c.other.inside in
    let design = ap (λ (r : Run). r.start.design) c.self.view_is ∙ c.requires ∙ sym (ap (λ (r : Run). r.start.design) c.other.view_is) in
    seen (run_of a.number a.start a.forced None) (run_of b.number b.start b.forced (Some c.in-None-Some.field-0-1)) c.args.self.now c.args.other.now _
    (other_forced a.number b.number a.start b.start a.forced b.forced c.in-None-Some.field-0-1 design
    (subst (IsClosed a.start a.forced) c.in-None-Some.is-0 c.self.invariant) (subst (IsClosed b.start b.forced) c.in-None-Some.is-1 c.other.invariant))
    (ap (run_of a.number a.start a.forced) (sym c.in-None-Some.is-0) ∙ c.self.view_is) (ap (run_of b.number b.start b.forced) (sym c.in-None-Some.is-1) ∙ c.other.view_is)

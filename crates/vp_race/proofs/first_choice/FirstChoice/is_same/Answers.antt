use Rattle.std.proofs.Common.{◌≡◌, ◌∙◌, not, ap, sym}
use Rattle.std.specs.Cmp.Lexicographic.{pointwise_decides}
use Rattle.std.proofs.lemmas.Bool.{not-false}
use Rattle.vp_race.specs.Recording.{Chosen}
use Rattle.vp_race.specs.laws.Sameness.{same_object_decides}
use Rattle.vp_race.proofs.first_choice.FirstChoice.is_same.Goals as goal

pub returns-then-ne-clause-differs : goal.returns-then-ne-clause-differs
returns-then-ne-clause-differs c os s ks =
    let both =
    c.as_slice.ensures.value ∙ ap (λ (x : Chosen). x.sources) c.self.view_is ∙ os ∙ sym (ap (λ (x : Chosen). x.sources) c.other.view_is) ∙ sym c.as_slice-2.ensures.value in
    sym (c.if-ne.ensures {u = tt} ∙ ap not ((pointwise_decides same_object_decides c.as_slice.result.now c.as_slice-2.result.now).1 both))

pub returns-clause-sources : goal.returns-clause-sources
returns-clause-sources c same =
    ap (λ (x : Chosen). x.sources) (sym c.self.view_is) ∙ sym c.as_slice.ensures.value
    ∙ (pointwise_decides same_object_decides c.as_slice.result.now c.as_slice-2.result.now).0 (not-false _ (sym (c.if-ne.ensures {u = tt})))
    ∙ c.as_slice-2.ensures.value ∙ ap (λ (x : Chosen). x.sources) c.other.view_is

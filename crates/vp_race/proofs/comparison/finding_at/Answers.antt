use Rattle.std.proofs.Common.{◌∙◌, subst, sym}
use Rattle.vp_race.specs.Segments.{AreApart, Beside}
use Rattle.vp_race.proofs.Refused.{apart_race}
use Rattle.vp_race.proofs.comparison.finding_at.Goals as goal

pub invariant_of-result : goal.invariant_of-result
invariant_of-result c =
    subst (λ (b : Beside). AreApart b c.args.object c.in-Some.values) (sym (c.in_ok-beside.ensures {u = tt}))
    (apart_race c.args.beside.now c.args.object c.args.first.now c.args.second.now c.in-Some.values c.segment-run.ensures.end c.orders-other.ensures.end c.requires.first c.requires.second (sym c.values_apart.ensures ∙ c.in-Some.is))

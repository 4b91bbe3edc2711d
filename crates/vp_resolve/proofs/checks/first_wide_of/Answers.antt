use Rattle.std.proofs.Common.{◌∙◌, ℕ, Option, sym, ap}
use Rattle.vp_source.specs.Places.{earlier, earliest}
use Rattle.vp_source.specs.laws.Places.{earliest-more}
use Rattle.vp_elab.specs.Tree.{below}
use Rattle.vp_resolve.specs.Checks.{wide_among}
use Rattle.vp_resolve.proofs.Fitting.{below-more}
use Rattle.vp_resolve.proofs.checks.first_wide_of.Goals as goal

pub loop-place-preserved : goal.loop-place-preserved
loop-place-preserved c =
    let es = c.args.expressions.now in
    let ns = c.args.sizes.now in
    let n = c.loop-place.place in
    c.earlier-first.ensures
    ∙ ap (λ (x : Option ℕ). earlier x c.wide_among.result) c.loop-place.invariant
    ∙ ap (earlier (earliest (wide_among es ns) (below n))) c.wide_among.ensures
    ∙ sym (earliest-more (wide_among es ns) (below n) n)
    ∙ ap (earliest (wide_among es ns)) (sym (below-more n))

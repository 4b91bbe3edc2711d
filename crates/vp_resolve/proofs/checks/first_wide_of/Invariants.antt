use Rattle.std.proofs.Common.{◌≡◌}
use Rattle.vp_source.specs.Places.{earliest}
use Rattle.vp_elab.specs.Tree.{below}
use Rattle.vp_resolve.specs.Checks.{wide_among}
use Rattle.vp_resolve.proofs.checks.first_wide_of.Given as goal

abbrev pub invariant-loop-place : goal.invariant-loop-place
invariant-loop-place l =
    l.first ≡ earliest (wide_among l.expressions l.sizes) (below l.place)

use Rattle.std.proofs.Common.{◌≡◌, drop}
use Rattle.vp_source.specs.Places.{earlier}
use Rattle.vp_resolve.specs.Checks.{first_wide_in}
use Rattle.vp_resolve.proofs.checks.first_wide_expression.Given as goal

-- the sizes that are left are those of the expressions of the modules that are left
abbrev pub invariant-loop-module : goal.invariant-loop-module
invariant-loop-module l =
    earlier l.first (first_wide_in l.source (drop l.module-index l.source.modules) l.left) ≡ first_wide_in l.source l.source.modules l.sizes

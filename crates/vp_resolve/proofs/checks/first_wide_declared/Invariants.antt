use Rattle.std.proofs.Common.{◌≡◌, drop}
use Rattle.vp_source.specs.Places.{earlier, earliest}
use Rattle.vp_resolve.specs.Checks.{wide_declared}
use Rattle.vp_resolve.proofs.checks.first_wide_declared.Given as goal

abbrev pub invariant-loop-module : goal.invariant-loop-module
invariant-loop-module l =
    earlier l.first (earliest (wide_declared l.source) (drop l.module-index l.source.modules)) ≡ earliest (wide_declared l.source) l.source.modules

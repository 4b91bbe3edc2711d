use Rattle.std.proofs.Common.{◌≡◌, drop}
use Rattle.vp_source.specs.Places.{earlier, earliest}
use Rattle.vp_modules.specs.ModuleRefusals.{driven_twice}
use Rattle.vp_modules.proofs.checks.first_driven_twice.Given as goal

abbrev pub invariant-loop-module : goal.invariant-loop-module
invariant-loop-module l =
    earlier l.first (earliest (driven_twice l.source) (drop l.module-index l.source.modules)) ≡ earliest (driven_twice l.source) l.source.modules

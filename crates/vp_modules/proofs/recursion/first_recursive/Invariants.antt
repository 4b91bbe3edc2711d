use Rattle.std.proofs.Common.{◌≡◌, drop}
use Rattle.vp_source.specs.Places.{earlier, earliest}
use Rattle.vp_modules.specs.ModuleRefusals.{recursive}
use Rattle.vp_modules.proofs.recursion.first_recursive.Given as goal

abbrev pub invariant-loop-number : goal.invariant-loop-number
invariant-loop-number l =
    earlier l.first (earliest (recursive l.source) (drop l.number l.source.modules)) ≡ earliest (recursive l.source) l.source.modules

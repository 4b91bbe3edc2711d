use Rattle.std.proofs.Common.{◌≡◌, drop}
use Rattle.vp_source.specs.Places.{earlier, earliest}
use Rattle.vp_modules.specs.Refusals.{undeclared}
use Rattle.vp_modules.proofs.checks.first_undeclared.Given as goal

abbrev pub invariant-loop-number : goal.invariant-loop-number
invariant-loop-number l =
    earlier l.first (earliest (undeclared l.source) (drop l.number l.source.modules)) ≡ earliest (undeclared l.source) l.source.modules

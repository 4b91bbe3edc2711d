use Rattle.std.proofs.Common.{◌≡◌, drop}
use Rattle.vp_source.specs.Places.{earlier, earliest}
use Rattle.vp_modules.specs.Refusals.{bad_target}
use Rattle.vp_modules.proofs.checks.first_bad_target.Given as goal

abbrev pub invariant-loop-number : goal.invariant-loop-number
invariant-loop-number l =
    earlier l.first (earliest (bad_target l.source) (drop l.number l.source.modules)) ≡ earliest (bad_target l.source) l.source.modules

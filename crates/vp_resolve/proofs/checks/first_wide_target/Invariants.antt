use Rattle.std.proofs.Common.{◌≡◌, drop}
use Rattle.vp_source.specs.Places.{earlier, earliest}
use Rattle.vp_resolve.specs.Checks.{wide_target}
use Rattle.vp_resolve.proofs.checks.first_wide_target.Given as goal

abbrev pub invariant-loop-statement : goal.invariant-loop-statement
invariant-loop-statement l =
    earlier l.first (earliest wide_target (drop l.statement-index l.statements)) ≡ earliest wide_target l.statements

use Rattle.std.proofs.Common.{◌≡◌, drop}
use Rattle.vp_source.specs.Places.{earlier, earliest}
use Rattle.vp_resolve.specs.Checks.{bad_in}
use Rattle.vp_resolve.proofs.checks.first_bad.Given as goal

abbrev pub invariant-loop-number : goal.invariant-loop-number
invariant-loop-number l =
    earlier l.first (earliest (bad_in l.design) (drop l.number l.design.source.modules)) ≡ earliest (bad_in l.design) l.design.source.modules

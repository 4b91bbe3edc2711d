use Rattle.std.proofs.Common.{◌≡◌, drop}
use Rattle.vp_source.specs.Places.{earlier, earliest}
use Rattle.vp_resolve.specs.Checks.{signed_in}
use Rattle.vp_resolve.proofs.checks.first_signed_in.Given as goal

abbrev pub invariant-loop-module : goal.invariant-loop-module
invariant-loop-module l =
    earlier l.first (earliest (signed_in l.source l.signs) (drop l.module-index l.source.modules)) ≡ earliest (signed_in l.source l.signs) l.source.modules

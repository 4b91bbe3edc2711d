use Rattle.std.proofs.Common.{◌≡◌, drop}
use Rattle.std.specs.Prelude.{option_map}
use Rattle.vp_source.specs.Places.{earlier, earliest}
use Rattle.vp_resolve.specs.Checks.{bad_target}
use Rattle.vp_resolve.proofs.checks.first_bad_target.Given as goal

abbrev pub invariant-loop-statement : goal.invariant-loop-statement
invariant-loop-statement l =
    let scope = option_map (λ o. o.0) l.scope in
    earlier l.first (earliest (bad_target l.design scope) (drop l.statement-index l.statements)) ≡ earliest (bad_target l.design scope) l.statements

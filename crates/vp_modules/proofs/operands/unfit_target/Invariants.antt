use Rattle.std.proofs.Common.{◌≡◌, drop}
use Rattle.vp_source.specs.Places.{earlier, earliest}
use Rattle.vp_modules.specs.Purposes.{fits}
use Rattle.vp_modules.specs.Refusals.{target_of, unfit}
use Rattle.vp_modules.proofs.operands.unfit_target.Given as goal

abbrev pub invariant-loop-statement : goal.invariant-loop-statement
invariant-loop-statement l =
    earlier l.first (earliest (λ s. unfit l.source l.module (fits l.purpose) (target_of s)) (drop l.statement-index l.statement-items)) ≡ earliest (λ s. unfit l.source l.module (fits l.purpose) (target_of s)) l.statement-items

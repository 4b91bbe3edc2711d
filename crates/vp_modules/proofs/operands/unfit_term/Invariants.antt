use Rattle.std.proofs.Common.{◌≡◌, Some, drop}
use Rattle.vp_source.specs.Places.{earlier, earliest}
use Rattle.vp_modules.specs.Purposes.{fits}
use Rattle.vp_modules.specs.Refusals.{unfit}
use Rattle.vp_modules.proofs.operands.unfit_term.Given as goal

abbrev pub invariant-loop-term : goal.invariant-loop-term
invariant-loop-term l =
    earlier l.first (earliest (λ t. unfit l.source l.module (fits l.purpose) (Some t.name)) (drop l.term-index l.term-items)) ≡ earliest (λ t. unfit l.source l.module (fits l.purpose) (Some t.name)) l.term-items

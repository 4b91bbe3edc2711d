use Rattle.std.proofs.Common.{◌≡◌, drop}
use Rattle.vp_source.specs.Places.{earlier, earliest}
use Rattle.vp_modules.specs.Purposes.{fits}
use Rattle.vp_modules.specs.Refusals.{name_in, unfit}
use Rattle.vp_modules.proofs.operands.unfit_operand.Given as goal

abbrev pub invariant-loop-expression : goal.invariant-loop-expression
invariant-loop-expression l =
    earlier l.first (earliest (λ e. unfit l.source l.module (fits l.purpose) (name_in e)) (drop l.expression-index l.expression-items)) ≡ earliest (λ e. unfit l.source l.module (fits l.purpose) (name_in e)) l.expression-items

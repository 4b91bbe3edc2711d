use Rattle.std.proofs.Common.{◌≡◌, drop}
use Rattle.vp_source.specs.Places.{earlier, earliest}
use Rattle.vp_modules.specs.Purposes.{fits}
use Rattle.vp_modules.specs.Refusals.{assigned_by, unfit}
use Rattle.vp_modules.proofs.operands.unfit_assigned.Given as goal

abbrev pub invariant-loop-item : goal.invariant-loop-item
invariant-loop-item l =
    earlier l.first (earliest (λ i. unfit l.source l.module (fits l.purpose) (assigned_by i)) (drop l.item-index l.item-items)) ≡ earliest (λ i. unfit l.source l.module (fits l.purpose) (assigned_by i)) l.item-items

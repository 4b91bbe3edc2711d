use Rattle.std.proofs.Common.{◌≡◌, drop}
use Rattle.vp_source.specs.Places.{earlier, earliest}
use Rattle.vp_resolve.specs.Checks.{wide_item}
use Rattle.vp_resolve.proofs.checks.first_wide_item.Given as goal

abbrev pub invariant-loop-item : goal.invariant-loop-item
invariant-loop-item l =
    earlier l.first (earliest wide_item (drop l.item-index l.items)) ≡ earliest wide_item l.items

use Rattle.std.proofs.Common.{◌≡◌, drop}
use Rattle.vp_source.specs.Places.{earlier, earliest}
use Rattle.vp_modules.specs.ModuleRefusals.{missing_module}
use Rattle.vp_modules.proofs.instances.first_missing.Given as goal

abbrev pub invariant-loop-item : goal.invariant-loop-item
invariant-loop-item l =
    earlier l.first (earliest (missing_module l.source) (drop l.item-index l.source.items)) ≡ earliest (missing_module l.source) l.source.items

use Rattle.std.proofs.Common.{◌≡◌, ◌++◌, drop}
use Rattle.std.specs.List.{flat_map}
use Rattle.vp_modules.specs.ModuleRefusals.{driven_by}
use Rattle.vp_modules.proofs.drivers.driven_in.Given as goal

abbrev pub invariant-loop-item : goal.invariant-loop-item
invariant-loop-item l =
    l.places.items ++ flat_map (driven_by l.source) (drop l.item-index l.item-items) ≡ flat_map (driven_by l.source) l.item-items

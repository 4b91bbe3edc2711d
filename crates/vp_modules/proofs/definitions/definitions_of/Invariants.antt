use Rattle.std.proofs.Common.{◌≡◌, map, take}
use Rattle.vp_modules.specs.Items.{definition_number}
use Rattle.vp_modules.proofs.definitions.definitions_of.Given as goal

abbrev pub invariant-loop-item : goal.invariant-loop-item
invariant-loop-item l = l.definitions.items ≡ map (definition_number l.source) (take l.item-index l.source.items)

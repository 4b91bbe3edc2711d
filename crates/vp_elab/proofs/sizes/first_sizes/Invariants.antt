use Rattle.std.proofs.Common.{◌≡◌, map, take}
use Rattle.vp_modules.specs.Items.{items_in}
use Rattle.vp_elab.specs.Sizes.{capped, many, total}
use Rattle.vp_elab.proofs.sizes.first_sizes.Given as goal

abbrev pub invariant-loop-module : goal.invariant-loop-module
invariant-loop-module l = l.sizes.items ≡ map (λ m. capped (total (λ i. many) (items_in l.source m))) (take l.module-index l.source.modules)

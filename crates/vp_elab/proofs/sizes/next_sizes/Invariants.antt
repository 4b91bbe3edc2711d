use Rattle.std.proofs.Common.{◌≡◌, map, take}
use Rattle.vp_modules.specs.Definitions.{definitions_in}
use Rattle.vp_elab.specs.Sizes.{capped, size_by, total}
use Rattle.vp_elab.proofs.sizes.next_sizes.Given as goal

abbrev pub invariant-loop-module : goal.invariant-loop-module
invariant-loop-module l =
    l.next.items ≡ map (λ m. capped (total (size_by l.sizes) (definitions_in l.definitions m))) (take l.module-index l.source.modules)

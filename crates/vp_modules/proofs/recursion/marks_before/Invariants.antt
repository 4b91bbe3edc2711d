use Rattle.std.proofs.Common.{◌≡◌, map, take}
use Rattle.std.specs.List.{list_any}
use Rattle.vp_modules.specs.Definitions.{definitions_in, is_marked}
use Rattle.vp_modules.proofs.recursion.marks_before.Given as goal

abbrev pub invariant-loop-module : goal.invariant-loop-module
invariant-loop-module l =
    l.before.items ≡ map (λ m. list_any (is_marked l.marks) (definitions_in l.definitions m)) (take l.module-index l.source.modules)

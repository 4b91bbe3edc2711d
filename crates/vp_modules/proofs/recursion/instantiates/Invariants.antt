use Rattle.std.proofs.Common.{◌≡◌, drop}
use Rattle.std.specs.List.{list_any}
use Rattle.vp_modules.specs.Definitions.{is_number}
use Rattle.vp_modules.proofs.recursion.instantiates.Given as goal

abbrev pub invariant-loop-definition : goal.invariant-loop-definition
invariant-loop-definition l =
    list_any (is_number l.number) (drop l.definition-index l.definitions) ≡ list_any (is_number l.number) l.definitions

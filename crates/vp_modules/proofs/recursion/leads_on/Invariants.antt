use Rattle.std.proofs.Common.{◌≡◌, drop}
use Rattle.std.specs.List.{list_any}
use Rattle.vp_modules.specs.Definitions.{is_marked}
use Rattle.vp_modules.proofs.recursion.leads_on.Given as goal

abbrev pub invariant-loop-definition : goal.invariant-loop-definition
invariant-loop-definition l =
    list_any (is_marked l.marks) (drop l.definition-index l.definitions) ≡ list_any (is_marked l.marks) l.definitions

use Rattle.std.proofs.Common.{◌≡◌, ◌≤◌, ◌++◌, drop}
use Rattle.vp_elab.specs.Sizes.{many, slots_by}
use Rattle.vp_elab.proofs.sizes.slots_of.Given as goal

-- the slots so far, before those that are left
abbrev pub invariant-loop-definition : goal.invariant-loop-definition
invariant-loop-definition l = record {
  few : l.next ≤ many;
  slots : l.slots.items ++ slots_by l.sizes l.next (drop l.definition-index l.definitions) ≡ slots_by l.sizes 1 l.definitions;
}

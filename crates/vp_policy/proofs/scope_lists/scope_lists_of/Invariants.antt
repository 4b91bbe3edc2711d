use Rattle.std.proofs.Common.{◌≡◌, ℕ, None, Some, length, slice_get}
use Rattle.vp_elab.specs.Tree.{declared_envelopes}
use Rattle.vp_policy.proofs.scope_lists.scope_lists_of.Given as goal

-- the lists of the objects so far
abbrev pub invariant-loop-object : goal.invariant-loop-object
invariant-loop-object l = record {
  count : length l.of_objects.items ≡ l.object;
  each : (o k : ℕ) → slice_get l.of_objects.items o ≡ Some k → slice_get l.lists.items k ≡ Some (declared_envelopes l.design.tree (Some o));
  roots : slice_get l.lists.items l.of_roots ≡ Some (declared_envelopes l.design.tree None);
}

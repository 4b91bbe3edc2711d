-- The lists of the envelopes that are declared in the scopes of a design.
use Rattle.std.specs.Prelude.{◌≡◌, ℕ, length, slice_get, None, Some}
use Rattle.vp_elab.specs.Tree.{Tree, declared_envelopes}
use Rattle.vp_policy.specs.declared.scope_lists.ScopeLists.{ScopeLists}

-- of each object of a design, and of the top modules, the list of its number is that of the envelopes declared in it
pub record AreScopeLists (tree : Tree) (scopes : ScopeLists) : Type 0 where
  pub count : length scopes.of_objects ≡ length tree.nodes
  pub each : (o k : ℕ) → slice_get scopes.of_objects o ≡ Some k → slice_get scopes.lists k ≡ Some (declared_envelopes tree (Some o))
  pub roots : slice_get scopes.lists scopes.of_roots ≡ Some (declared_envelopes tree None)

-- The tables of a policy, and what they hold.
use Rattle.std.specs.Prelude.{◌≡◌, ℕ, ◌+◌, ◌<◌, List, filter, length, map, slice_get, slice_index_or, Some}
use Rattle.vp_pragma.specs.declared.rights.Rights.{Rights}
use Rattle.vp_pragma.specs.Rights.{RightSet, set_of}
use Rattle.vp_elab.specs.Tree.{Node, Tree}
use Rattle.vp_policy.specs.declared.rights_tables.RightsTables.{RightsTables}
use Rattle.vp_policy.specs.declared.rights_tables.UserTables.{UserTables}
use Rattle.vp_policy.specs.Users.{Member, granted, member_at}
use Rattle.vp_policy.specs.Filter.{is_closed, rights}
use Rattle.vp_policy.specs.ScopeLists.{AreScopeLists}

-- a row has what is granted to a user, by the numbers of the envelopes
abbrev pub AreGranted : Member → List Rights → Type 0
AreGranted u row = (e : ℕ) (d : Rights) → e < 256 → set_of (slice_index_or row e d) ≡ granted u e

-- a user's rights on these objects
abbrev pub rights_on : Tree → Member → List Node → List RightSet
rights_on tree u nodes = map (λ node. rights tree u node.path) nodes

-- of these lists of envelopes what is closed to a user
abbrev pub closed_among : Member → List (List ℕ) → List (List ℕ)
closed_among u lists = map (filter (is_closed u)) lists

-- tables have what is granted to a user, his rights on each object, and of each of these lists what is closed to him
pub record AreTablesOf (tree : Tree) (lists : List (List ℕ)) (u : Member) (tables : UserTables) : Type 0 where
  pub granted : AreGranted u tables.granted
  pub rights : map set_of tables.rights ≡ rights_on tree u tree.nodes
  pub closed : tables.closed ≡ closed_among u lists

-- tables have those of each user, by his number, and after them those of one who is not there, over the lists of the scopes
pub record AreTables (tree : Tree) (members : List Member) (tables : RightsTables) : Type 0 where
  pub count : length tables.users.items ≡ length members + 1
  pub each : (n : ℕ) (his : UserTables) → slice_get tables.users.items n ≡ Some his
      → AreTablesOf tree tables.scopes.lists (member_at members n) his
  pub scopes : AreScopeLists tree tables.scopes

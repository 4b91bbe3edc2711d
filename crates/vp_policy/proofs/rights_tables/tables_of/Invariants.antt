use Rattle.std.proofs.Common.{◌≡◌, ℕ, Some, length, map, slice_get}
use Rattle.vp_policy.specs.declared.rights_tables.UserTables.{UserTables}
use Rattle.vp_policy.specs.Members.{member_of}
use Rattle.vp_policy.specs.RightsTables.{AreTablesOf}
use Rattle.vp_policy.specs.Users.{member_at}
use Rattle.vp_policy.proofs.rights_tables.tables_of.Given as goal

-- the tables of the users so far
abbrev pub invariant-loop-number : goal.invariant-loop-number
invariant-loop-number l = record {
  count : length l.tables.items ≡ l.number;
  each :
      (n : ℕ) (his : UserTables) → slice_get l.tables.items n ≡ Some his
      → AreTablesOf l.design.tree l.scopes.lists (member_at (map member_of l.users.entries) n) his;
}

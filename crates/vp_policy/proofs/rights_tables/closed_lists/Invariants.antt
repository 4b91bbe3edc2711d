use Rattle.std.proofs.Common.{◌≡◌, take}
use Rattle.vp_policy.specs.RightsTables.{AreGranted, closed_among}
use Rattle.vp_policy.specs.Users.{Member}
use Rattle.vp_policy.proofs.rights_tables.closed_lists.Given as goal

abbrev pub invariant-loop-list : goal.invariant-loop-list
invariant-loop-list l = (u : Member) → AreGranted u l.granted → l.closed.items ≡ closed_among u (take l.list-index l.lists)

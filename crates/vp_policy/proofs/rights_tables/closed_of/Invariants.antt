use Rattle.std.proofs.Common.{◌≡◌, filter, take}
use Rattle.vp_policy.specs.Filter.{is_closed}
use Rattle.vp_policy.specs.RightsTables.{AreGranted}
use Rattle.vp_policy.specs.Users.{Member}
use Rattle.vp_policy.proofs.rights_tables.closed_of.Given as goal

abbrev pub invariant-loop-envelope : goal.invariant-loop-envelope
invariant-loop-envelope l = (u : Member) → AreGranted u l.granted → l.numbers.items ≡ filter (is_closed u) (take l.envelope-index l.list)

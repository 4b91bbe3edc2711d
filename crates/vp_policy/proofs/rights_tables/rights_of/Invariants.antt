use Rattle.std.proofs.Common.{◌≡◌, map, take}
use Rattle.vp_pragma.specs.Rights.{set_of}
use Rattle.vp_policy.specs.RightsTables.{AreGranted, rights_on}
use Rattle.vp_policy.specs.Users.{Member}
use Rattle.vp_policy.proofs.rights_tables.rights_of.Given as goal

-- the rights on the objects so far
abbrev pub invariant-loop-number : goal.invariant-loop-number
invariant-loop-number l =
    (u : Member) → AreGranted u l.granted → map set_of l.rights.items ≡ rights_on l.design.tree u (take l.number l.design.tree.nodes)

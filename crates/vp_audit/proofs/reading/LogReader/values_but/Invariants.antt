use Rattle.std.proofs.Common.{◌≡◌, ◌++◌, drop}
use Rattle.vp_policy.specs.Users.{member_at}
use Rattle.vp_audit.proofs.Marks.{over_marked}
use Rattle.vp_audit.specs.Readings.{value_but}
use Rattle.vp_audit.proofs.reading.LogReader.values_but.Given as goal

-- the values so far, and those of the objects that remain
abbrev pub invariant-loop-number : goal.invariant-loop-number
invariant-loop-number l =
    over_marked 0 l.self.known (value_but l.marks l.self.design.tree l.self.values (member_at l.self.policy.members l.self.user))
    ≡ l.values.items ++ over_marked l.number (drop l.number l.self.known) (value_but l.marks l.self.design.tree l.self.values (member_at l.self.policy.members l.self.user))

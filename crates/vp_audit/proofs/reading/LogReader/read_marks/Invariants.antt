use Rattle.std.proofs.Common.{◌≡◌, map}
use Rattle.vp_elab.specs.Tree.{below}
use Rattle.vp_policy.specs.Users.{member_at}
use Rattle.vp_audit.specs.Projections.{is_read}
use Rattle.vp_audit.proofs.reading.LogReader.read_marks.Given as goal

-- those of the objects so far
abbrev pub invariant-loop-number : goal.invariant-loop-number
invariant-loop-number l =
    l.marks.items ≡ map (is_read l.self.design.tree (member_at l.self.policy.members l.self.user) l.self.known) (below l.number)

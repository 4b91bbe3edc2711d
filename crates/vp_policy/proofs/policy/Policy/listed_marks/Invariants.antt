use Rattle.std.proofs.Common.{◌≡◌, take}
use Rattle.vp_policy.specs.Users.{member_at}
use Rattle.vp_policy.specs.View.{listed_marks}
use Rattle.vp_policy.proofs.policy.Policy.listed_marks.Given as goal

-- those that are listed, so far
abbrev pub invariant-loop-number : goal.invariant-loop-number
invariant-loop-number l = l.marks.items ≡ listed_marks l.design.tree (member_at l.self.members l.user.0) (take l.number l.design.tree.nodes)

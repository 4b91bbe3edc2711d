use Rattle.std.proofs.Common.{◌≡◌, ◌≤◌, [], length, take}
use Rattle.vp_policy.specs.SeenObjects.{nodes_from, numbers_from}
use Rattle.vp_policy.specs.Users.{member_at}
use Rattle.vp_policy.specs.View.{known_nodes}
use Rattle.vp_policy.proofs.policy.Policy.known_objects.Given as goal

-- the nodes so far are those of the objects that are marked so far, and each has its number among them
abbrev pub invariant-loop-number : goal.invariant-loop-number
invariant-loop-number l = record {
  nodes : nodes_from [] l.objects.items ≡ known_nodes l.design (member_at l.self.members l.user.0) (take l.number l.known) (take l.number l.design.tree.nodes);
  numbers : l.numbers.items ≡ numbers_from 0 (take l.number l.known);
  few : length l.objects.items ≤ l.number;
  many : length l.numbers.items ≡ l.number;
}

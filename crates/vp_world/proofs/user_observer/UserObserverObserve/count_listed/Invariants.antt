use Rattle.std.proofs.Common.{◌≡◌, ◌≤◌, length}
use Rattle.std.specs.Prelude.{option_map}
use Rattle.vp_elab.specs.declared.object.ObjectId.{ObjectId}
use Rattle.vp_policy.specs.Users.{member_at}
use Rattle.vp_world.proofs.ListedCounts.{listed_below}
use Rattle.vp_world.proofs.user_observer.UserObserverObserve.count_listed.Given as goal

-- how many of the objects so far
abbrev pub invariant-loop-number : goal.invariant-loop-number
invariant-loop-number l =
    let policy = l.self.policy.now in
    let tree = l.self.sim.now.design.tree in
    record {
      counted : l.count ≡ length (listed_below tree policy.tree (member_at policy.members l.self.user.0) l.kind (option_map (λ (o : ObjectId). o.0) l.scope) l.number);
      few : l.count ≤ l.number;
    }

use Rattle.std.proofs.Common.{◌≡◌, ◌++◌, ◌≤◌, drop, length}
use Rattle.vp_policy.specs.Users.{member_at}
use Rattle.vp_world.specs.Races.{races_seen}
use Rattle.vp_vpi.proofs.RaceLists.{told_from}
use Rattle.vp_world.proofs.user_observer.UserObserverObserve.race_lines.Given as goal

-- the races that are reported so far, and those of what is left
abbrev pub invariant-loop-finding : goal.invariant-loop-finding
invariant-loop-finding l = record {
  told :
      told_from l.from 0 (races_seen l.self.sim.now.design.tree (member_at l.self.policy.now.members l.self.user.0) l.self.book.now.races)
      ≡ l.lines.items ++ told_from l.from l.number (races_seen l.self.sim.now.design.tree (member_at l.self.policy.now.members l.self.user.0) (drop l.finding-index l.self.book.now.races));
  few : length l.lines.items ≤ 100;
  number : l.number ≤ l.finding-index;
}

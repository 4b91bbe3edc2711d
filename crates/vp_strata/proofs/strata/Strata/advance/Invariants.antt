use Rattle.std.proofs.Common.{◌≡◌, ◌≤◌, ◌-◌}
use Rattle.vp_strata.proofs.Moving.{queue_after}
use Rattle.vp_strata.proofs.strata.Strata.advance.Given as goal

-- the first so many have happened, and there is room for those that are left
abbrev pub invariant-loop : goal.invariant-loop
invariant-loop l = record {
  queue : l.self.queue ≡ queue_after l.fn.self.queue l.counter;
  room : l.due - l.counter ≤ l.self.spare;
  processes : l.self.processes ≡ l.fn.self.processes;
}

use Rattle.std.proofs.Common.{◌≡◌, ◌≤◌, drop}
use Rattle.vp_active_events.proofs.active.ActiveRegion.clear.Given as goal

-- the first so many are over
abbrev pub invariant-loop : goal.invariant-loop
invariant-loop l = record {
  events : l.self.events ≡ drop l.counter l.fn.self.events;
  room : l.fn.self.room ≤ l.self.room;
  processes : l.self.processes ≡ l.fn.self.processes;
}

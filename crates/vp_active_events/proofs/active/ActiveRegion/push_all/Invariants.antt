use Rattle.std.proofs.Common.{◌≡◌, ◌+◌, ◌++◌, take}
use Rattle.vp_active_events.proofs.active.ActiveRegion.push_all.Given as goal

-- those so far are active
abbrev pub invariant-loop-event : goal.invariant-loop-event
invariant-loop-event l = record {
  events : l.self.events ≡ l.fn.self.events ++ take l.event-index l.events;
  room : l.self.room + l.event-index ≡ l.fn.self.room;
  processes : l.self.processes ≡ l.fn.self.processes;
}

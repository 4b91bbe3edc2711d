use Rattle.std.proofs.Common.{◌≡◌, ◌-◌, ◌≤◌, filter, length, take}
use Rattle.vp_expr.specs.Tables.{tables_of}
use Rattle.vp_waking.specs.Listening.{listeners_of}
use Rattle.vp_waking.specs.Waking.{woken_state, wakes_at, with_evaluations}
use Rattle.vp_waking.proofs.waking.wake.Given as goal

-- those of the listeners so far that wait for the change are woken, and there is room for those that are left
abbrev pub invariant-loop-process : goal.invariant-loop-process
invariant-loop-process l = record {
  waiting : l.waiting ≡ woken_state l.fn.waiting (filter (wakes_at (tables_of l.listeners.design) l.old l.change l.fn.waiting) (take l.process-index (listeners_of l.listeners.lists l.change.object.0)));
  queue : l.queue.queue ≡ with_evaluations l.fn.queue.queue (filter (wakes_at (tables_of l.listeners.design) l.old l.change l.fn.waiting) (take l.process-index (listeners_of l.listeners.lists l.change.object.0)));
  room : length (listeners_of l.listeners.lists l.change.object.0) - l.process-index ≤ l.queue.spare;
  processes : l.queue.processes ≡ l.fn.queue.processes;
}

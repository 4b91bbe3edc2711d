use Rattle.std.proofs.Common.{◌≡◌, ◌+◌, ◌≤◌, drop, map, take}
use Rattle.std.specs.VecDeque.{deque_capacity, deque_len}
use Rattle.vp_active_events.specs.declared.event.Event.TheVariants.{Evaluation}
use Rattle.vp_strata.proofs.strata.Strata.activate_inactive.Given as goal

-- those so far are active, and the others are left; the rest of the queue and the room stay
abbrev pub invariant-loop : goal.invariant-loop
invariant-loop l = record {
  active : l.self-inside.active.events ≡ map Evaluation (take l.counter l.initial.self-inside.inactive.items);
  left : l.self-inside.inactive.items ≡ drop l.counter l.initial.self-inside.inactive.items;
  room : l.self-inside.spare + deque_len l.self-inside.inactive ≤ l.self-inside.active.room;
  capacity : deque_len l.self-inside.inactive + l.self-inside.spare ≤ deque_capacity l.self-inside.inactive;
  assignments : l.self-inside.assignments ≡ l.initial.self-inside.assignments;
  nonblocking : l.self-inside.nonblocking ≡ l.initial.self-inside.nonblocking;
  future : l.self-inside.future ≡ l.initial.self-inside.future;
  spare : l.self-inside.spare ≡ l.initial.self-inside.spare;
  processes : l.self-inside.active.processes ≡ l.initial.self-inside.active.processes;
}

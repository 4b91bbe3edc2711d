use Rattle.std.proofs.Common.{◌≡◌, map}
use Rattle.vp_elab.specs.Tree.{below}
use Rattle.vp_active_events.specs.declared.event.Event.TheVariants.{Evaluation}
use Rattle.vp_strata.specs.Queues.{no_events, with_active}
use Rattle.vp_sim.proofs.steps.first_queue.Given as goal

-- the processes so far are evaluated
abbrev pub invariant-loop-process : goal.invariant-loop-process
invariant-loop-process l = record {
  queue : l.queue.queue ≡ with_active no_events (map Evaluation (below l.process));
  processes : l.queue.processes ≡ l.processes;
}

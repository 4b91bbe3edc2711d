use Rattle.std.proofs.Common.{◌≡◌, ◌∙◌, ℕ, ◌+◌, ◌∷◌, ◌++◌, [], add-one, ap, arith, map, sym}
use Rattle.std.proofs.lemmas.List.{map_push}
use Rattle.vp_elab.specs.Tree.{below}
use Rattle.vp_active_events.specs.declared.event.Event.TheVariants.{Evaluation}
use Rattle.vp_strata.specs.Queues.{Queue, no_events, with_active}
use Rattle.vp_sim.proofs.steps.first_queue.Goals as goal

-- one process more is evaluated
one_more : (process : ℕ) → map Evaluation (below (process + 1)) ≡ map Evaluation (below process) ++ Evaluation process ∷ []
one_more process =
    ap (λ (n : ℕ). map Evaluation (below n)) (add-one process) ∙ map_push Evaluation (below process) process

pub loop-process-init : goal.loop-process-init
loop-process-init c =
    let made = c.in_ok-queue.ensures {u = tt} in
    let room = c.in_ok-room.ensures {u = tt} in
    record { queue = room.queue ∙ made.queue; processes = room.processes ∙ made.processes }

pub loop-process-preserved : goal.loop-process-preserved
loop-process-preserved c =
    let before = c.loop-process.invariant in
    let process = c.loop-process.process in
    let pushed = c.in_ok-push_active.ensures {u = tt} in
    record {
      queue = pushed.queue
          ∙ ap (λ (q : Queue). with_active q (q.active ++ Evaluation process ∷ [])) before.queue
          ∙ ap (with_active no_events) (sym (one_more process));
      processes = pushed.processes ∙ before.processes;
    }

pub returns-clause-queue : goal.returns-clause-queue
returns-clause-queue c =
    let all : c.loop-process.process ≡ c.args.processes = omega arith in
    c.loop-process.invariant.queue ∙ ap (λ (n : ℕ). with_active no_events (map Evaluation (below n))) all

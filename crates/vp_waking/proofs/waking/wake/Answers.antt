use Rattle.std.proofs.Common.{◌≡◌, ◌∙◌, ◌<◌, ◌≤◌, ℕ, List, ap, arith, get_or, length, subst}
use Rattle.vp_expr.specs.Tables.{tables_of}
use Rattle.vp_waking.specs.Listening.{listeners_of}
use Rattle.vp_waking.specs.Waking.{woken_state, with_evaluations, woken_alone}
use Rattle.vp_waking.proofs.Woken.{all_woken, alone_is, queue_more, waiting_more}
use Rattle.vp_waking.proofs.waking.wake.Goals as goal

pub loop-process-preserved : goal.loop-process-preserved
loop-process-preserved c =
    let tables = tables_of c.args.listeners.now.design in
    let t = tables_of c.checked.result.now in
    let old = c.args.old in
    let change = c.args.change.now in
    let waiting = c.args.waiting.now in
    let now = c.loop-process.waiting in
    let items = c.processes_on-process-items.result.now in
    let ns = listeners_of c.args.listeners.now.lists change.object.0 in
    let i = c.loop-process.process-index in
    let same : items ≡ ns = c.processes_on-process-items.ensures.listeners in
    let within : i < length ns = subst (λ (l : List ℕ). i < length l) same c.loop-process-test.true in
    let one = woken_alone t old change now (get_or items i 0) in
    let alone = alone_is t tables old change waiting now items ns i (ap tables_of c.checked.ensures) same c.processes_on-process-items.ensures.fit.rise c.loop-process-test.true c.loop-process.invariant.waiting in
    record {
      waiting = waiting_more tables old change waiting now c.wake_one.new.waiting ns one i within alone c.loop-process.invariant.waiting c.wake_one.ensures.waiting;
      queue = queue_more tables old change waiting now c.args.queue.now.queue c.loop-process.queue.queue c.wake_one.new.queue.queue ns one i within alone c.loop-process.invariant.queue c.wake_one.ensures.queue;
      room = (let before = c.loop-process.invariant.room in let spare = c.wake_one.ensures.spare in omega (arith, before, spare));
      processes = c.wake_one.ensures.processes ∙ c.loop-process.invariant.processes;
    }

pub returns-clause-waiting : goal.returns-clause-waiting
returns-clause-waiting c =
    let change = c.args.change.now in
    let ns = listeners_of c.args.listeners.now.lists change.object.0 in
    let i = c.loop-process.process-index in
    let end : length ns ≤ i = subst (λ (l : List ℕ). length l ≤ i) c.processes_on-process-items.ensures.listeners c.loop-process-test.false in
    all_woken (woken_state c.args.waiting.now) (tables_of c.args.listeners.now.design) c.args.listeners.now.lists c.args.old change c.args.waiting.now i c.loop-process.waiting end c.processes_on-process-items.ensures.fit c.requires.heard c.loop-process.invariant.waiting

pub returns-clause-queue : goal.returns-clause-queue
returns-clause-queue c =
    let change = c.args.change.now in
    let ns = listeners_of c.args.listeners.now.lists change.object.0 in
    let i = c.loop-process.process-index in
    let end : length ns ≤ i = subst (λ (l : List ℕ). length l ≤ i) c.processes_on-process-items.ensures.listeners c.loop-process-test.false in
    all_woken (with_evaluations c.args.queue.now.queue) (tables_of c.args.listeners.now.design) c.args.listeners.now.lists c.args.old change c.args.waiting.now i c.loop-process.queue.queue end c.processes_on-process-items.ensures.fit c.requires.heard c.loop-process.invariant.queue

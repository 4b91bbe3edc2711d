use Rattle.std.proofs.Common.{◌∙◌, List, ap, length, subst, sym}
use Rattle.std.specs.Arc.{arc_value}
use Rattle.vp_elab.specs.Built.{Elaborated}
use Rattle.vp_expr.specs.Tables.{tables_of}
use Rattle.vp_waking.specs.declared.waiting.Waiting.{Waiting}
use Rattle.vp_waking.specs.Listening.{AreHeard}
use Rattle.vp_sim.specs.States.{State}
use Rattle.vp_sim.proofs.Keeping.{one_state, whole_by}
use Rattle.vp_sim.proofs.machine.Machine.of_kept.Goals as goal

pub invariant_of-result : goal.invariant_of-result
invariant_of-result c =
    let kept = c.args.kept.now in
    let view = c.kept.view_is in
    let lists = c.in_ok-lists.lists in
    let copied = c.in_ok-lists.ensures {u = tt} in
    let made = c.in_ok-listeners.listeners in
    let listen = c.in_ok-listeners.ensures {u = tt} in
    let P : List Waiting → Type 0 = λ w. AreHeard (tables_of kept.design) made.lists w in
    let Q : Elaborated → Type 0 = λ d. AreHeard (tables_of d) made.lists lists.waiting in
    whole_by made.design (arc_value c.kept.inside.checked) (arc_value c.in_ok-flow.flow) (arc_value c.kept.inside.flow) lists.values c.kept.inside.values c.in_ok-queue.queue.processes c.kept.inside.queue.processes lists.waiting c.kept.inside.waiting made.lists c.kept.invariant
    (ap (λ (s : State). s.design) view ∙ sym listen.design)
    (c.in_ok-flow.ensures {u = tt})
    (copied.values ∙ sym (ap (λ (s : State). s.values) view))
    ((c.in_ok-queue.ensures {u = tt}).processes ∙ ap (λ (d : Elaborated). length (tables_of d).processes) (sym listen.design))
    (copied.waiting ∙ sym (ap (λ (s : State). s.waiting) view))
    (subst Q (sym listen.design) (subst P c.as_slice.ensures listen.heard))

pub returns-clause-state : goal.returns-clause-state
returns-clause-state c =
    let view = c.kept.view_is in
    let copied = c.in_ok-lists.ensures {u = tt} in
    one_state _ _ _ _ _ _ _ c.args.kept.now (c.in_ok-listeners.ensures {u = tt}).design (ap (λ (s : State). s.time) view) (ap (λ (s : State). s.finished) view) copied.values copied.remaining copied.waiting (c.in_ok-queue.ensures {u = tt}).queue

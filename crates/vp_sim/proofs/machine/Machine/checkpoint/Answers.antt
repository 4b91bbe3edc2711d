use Rattle.std.proofs.Common.{◌∙◌, ap, sym}
use Rattle.std.specs.Arc.{arc_value}
use Rattle.vp_sim.specs.States.{Running}
use Rattle.vp_sim.proofs.Keeping.{fits_by, one_state}
use Rattle.vp_sim.proofs.machine.Machine.checkpoint.Goals as goal

pub invariant_of-result : goal.invariant_of-result
invariant_of-result c =
    let own = c.self.inside in
    let lists = c.in_ok-lists.ensures {u = tt} in
    let back = sym (c.self.view_is ∙ c.keep_lists.ensures.same) in
    fits_by own.listeners.design (arc_value c.in_ok-share.field-0) (arc_value own.flow) (arc_value c.in_ok-try_clone.field-0) own.values c.in_ok-lists.lists.values own.queue.processes c.in-Ok.queue.processes own.waiting c.in_ok-lists.lists.waiting own.listeners.lists c.self.invariant
    (c.in_ok-share.ensures {u = tt})
    (c.in_ok-try_clone.ensures {u = tt})
    (lists.values ∙ ap (λ (r : Running). r.state.values) back)
    (c.in-Ok.ensures {u = tt}).processes
    (lists.waiting ∙ ap (λ (r : Running). r.state.waiting) back)

pub returns-clause-copy : goal.returns-clause-copy
returns-clause-copy c =
    let view = c.self.view_is ∙ c.keep_lists.ensures.same in
    let lists = c.in_ok-lists.ensures {u = tt} in
    one_state _ _ _ _ _ _ _ c.args.self.now.state
    (c.in_ok-share.ensures {u = tt} ∙ ap (λ (r : Running). r.state.design) view)
    (ap (λ (r : Running). r.state.time) view)
    (ap (λ (r : Running). r.state.finished) view)
    lists.values
    lists.remaining
    lists.waiting
    ((c.in-Ok.ensures {u = tt}).queue ∙ ap (λ (r : Running). r.state.queue) view)

use Rattle.std.proofs.Common.{◌≡◌, ◌∙◌, List, ap, subst, sym}
use Rattle.std.specs.Arc.{arc_value}
use Rattle.vp_elab.specs.Built.{Elaborated}
use Rattle.vp_expr.specs.Tables.{tables_of}
use Rattle.vp_statement.specs.Walking.{flow_of}
use Rattle.vp_waking.specs.declared.waiting.Waiting.{Waiting}
use Rattle.vp_waking.specs.Listening.{AreHeard}
use Rattle.vp_sim.specs.States.{Running, State}
use Rattle.vp_sim.proofs.Keeping.{at_ok, one_state, whole_by}
use Rattle.vp_sim.proofs.machine.Machine.go_on.Goals as goal

pub invariant_of-self-2 : goal.invariant_of-self-2
invariant_of-self-2 c =
    let own = c.self.inside in
    let kept = c.kept.inside in
    let lists = c.args.lists in
    let made = own.listeners in
    let view = c.kept.view_is in
    let same : arc_value kept.checked ≡ made.design = ap (λ (s : State). s.design) view ∙ sym c.requires.design ∙ sym (ap (λ (r : Running). r.state.design) c.self.view_is) in
    let P : Running → Type 0 = λ r. AreHeard (tables_of r.state.design) r.lists c.args.kept.now.waiting in
    let Q : List Waiting → Type 0 = λ w. AreHeard (tables_of made.design) made.lists w in
    whole_by made.design (arc_value kept.checked) (arc_value own.flow) (arc_value kept.flow) lists.values kept.values c.restore.new.self.processes kept.queue.processes lists.waiting kept.waiting made.lists c.kept.invariant same
    (c.self.invariant.flows ∙ ap (λ (d : Elaborated). flow_of d.source (tables_of d).actions) (sym same) ∙ sym c.kept.invariant.flows)
    (c.requires.values ∙ sym (ap (λ (s : State). s.values) view))
    (c.restore.ensures.processes ∙ c.self.invariant.processes)
    (c.requires.waiting ∙ sym (ap (λ (s : State). s.waiting) view))
    (subst Q (sym c.requires.waiting) (subst P (sym c.self.view_is) c.requires.heard))

pub returns-clause-ok : goal.returns-clause-ok
returns-clause-ok c =
    let view = c.kept.view_is in
    one_state _ _ _ _ _ _ _ c.args.kept.now
    (ap (λ (r : Running). r.state.design) c.self.view_is ∙ c.requires.design)
    (ap (λ (s : State). s.time) view)
    (ap (λ (s : State). s.finished) view)
    c.requires.values
    c.requires.remaining
    c.requires.waiting
    (at_ok c.restore.result (sym c.if-is_err.ensures.value) c.restore.ensures.queue ∙ ap (λ (s : State). s.queue) view)

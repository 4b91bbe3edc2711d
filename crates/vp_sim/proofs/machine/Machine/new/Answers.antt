use Rattle.std.proofs.Common.{◌≡◌, ◌∙◌, ℕ, ap, length, map, refl, subst, sym}
use Rattle.std.proofs.lemmas.Result.{err_from_is_err_and}
use Rattle.std.specs.Arc.{arc_value}
use Rattle.vp_elab.specs.Built.{Elaborated}
use Rattle.vp_elab.specs.Tree.{below}
use Rattle.vp_expr.specs.declared.tables.Tables.{Tables}
use Rattle.vp_expr.specs.Tables.{tables_of}
use Rattle.vp_statement.specs.Walking.{flow_of}
use Rattle.vp_active_events.specs.declared.event.Event.TheVariants.{Evaluation}
use Rattle.vp_strata.specs.Queues.{no_events, with_active}
use Rattle.vp_waking.specs.Listening.{Listening}
use Rattle.vp_sim.specs.States.{IsWhole, start}
use Rattle.vp_sim.proofs.Keeping.{one_state, whole_start}
use Rattle.vp_sim.proofs.machine.Machine.new.Goals as goal

-- how many processes the queue is made for
count : (c : goal.In_ok-listeners) → c.len.result ≡ length (tables_of (arc_value c.args.checked)).processes
count c =
    c.len.ensures ∙ ap (λ (t : Tables). length t.processes) (c.tables.ensures.tables ∙ ap tables_of c.deref-3.ensures)

-- the design, of the listeners
design : (c : goal.In_ok-listeners) → c.in_ok-listeners.listeners.design ≡ arc_value c.args.checked
design c = ap (λ (l : Listening). l.design) (c.in_ok-listeners.ensures {u = tt})

pub invariant_of-result : goal.invariant_of-result
invariant_of-result c =
    let d = arc_value c.args.checked in
    let lists = c.in_ok-lists.lists in
    let first = c.in_ok-lists.ensures {u = tt} in
    let made = c.in_ok-listeners.listeners in
    let P : Elaborated → Type 0 = λ x. IsWhole x (arc_value c.in_ok-flow.flow) lists.values c.in-Ok.queue.processes lists.waiting made.lists in
    subst P (sym (design c)) (whole_start d (arc_value c.in_ok-flow.flow) lists.values c.in-Ok.queue.processes lists.waiting made.lists
    (c.in_ok-flow.ensures {u = tt} ∙ ap (λ (x : Elaborated). flow_of x.source (tables_of x).actions) c.deref-2.ensures)
    (first.values ∙ ap (λ (x : Elaborated). (start x).values) c.deref.ensures)
    ((c.in-Ok.ensures {u = tt}).processes ∙ count c)
    (first.waiting ∙ ap (λ (x : Elaborated). (start x).waiting) c.deref.ensures))

pub returns-clause-state : goal.returns-clause-state
returns-clause-state c =
    let first = c.in_ok-lists.ensures {u = tt} in
    one_state _ _ _ _ _ _ _ (start (arc_value c.args.checked)) (design c) refl refl
    (first.values ∙ ap (λ (x : Elaborated). (start x).values) c.deref.ensures)
    (first.remaining ∙ ap (λ (x : Elaborated). (start x).remaining) c.deref.ensures)
    (first.waiting ∙ ap (λ (x : Elaborated). (start x).waiting) c.deref.ensures)
    ((c.in-Ok.ensures {u = tt}).queue ∙ ap (λ (n : ℕ). with_active no_events (map Evaluation (below n))) (count c))

pub returns-in_err-listeners-clause-err : goal.returns-in_err-listeners-clause-err
returns-in_err-listeners-clause-err c =
    let p = err_from_is_err_and c.from_residual-in_err-listeners.result c.from_residual-in_err-listeners.ensures.1 in
    rw (p.1, p.2) refl

use Rattle.std.proofs.Common.{◌∙◌, sym}
use Rattle.vp_expr.specs.Awaits.{term_change}
use Rattle.std.specs.Prelude.{option_map}
use Rattle.vp_expr.proofs.Growing.{option_left, option_pushed}
use Rattle.vp_expr.proofs.awaited.add_terms.Goals as goal
use Rattle.vp_expr.proofs.awaited.add_terms.Goals.{in-Some+in_ok-push, in_default}

pub loop-term-preserved : goal.loop-term-preserved
loop-term-preserved c =
    let f = term_change c.args.design.now (option_map (λ o. o.0) c.args.scope) in
    elim c.match-term_change.branch [
      | in-Some+in_ok-push w ↦ rw (w.awaited-is, w.in_ok-push.ensures.items) (option_pushed f c.loop-term.awaited.items c.args.terms.now c.loop-term.term-index _ w.in-Some.change _ c.loop-term-test.true c.loop-term.invariant (sym w.in-Some.is ∙ c.term_change.ensures))
      | in_default w ↦ rw w.awaited-is (option_left f c.loop-term.awaited.items c.args.terms.now c.loop-term.term-index _ _ _ c.loop-term-test.true c.loop-term.invariant (sym w.in_default.is ∙ c.term_change.ensures))
    ]

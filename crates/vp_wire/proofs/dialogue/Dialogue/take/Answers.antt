use Rattle.std.proofs.Common.{◌∙◌, ap, arith, refl, sym}
use Rattle.vp_wire.specs.Failures.{one_more}
use Rattle.vp_wire.proofs.Progressing.{failures_err, matches_err}
use Rattle.vp_wire.proofs.dialogue.Dialogue.take.Goals as goal

pub loop-remaining-init : goal.loop-remaining-init
loop-remaining-init g c = (λ first unread still_unread held p. p, omega arith, refl)

pub loop-remaining-preserved : goal.loop-remaining-preserved
loop-remaining-preserved g c =
    let answered = c.in_ok-remaining.ensures {u = tt} in
    let lines = rw c.in-Some.is at c.loop-remaining.invariant.1 in (
      λ first unread still_unread held p. answered.progress first unread still_unread held (rw c.in-Some.is at (c.loop-remaining.invariant.0 first unread still_unread held p)),
      omega (arith, lines, answered.lines),
      answered.failures ∙ c.loop-remaining.invariant.2,
    )

pub returns-in_err-remaining-clause-progress : goal.returns-in_err-remaining-clause-progress
returns-in_err-remaining-clause-progress g c = λ first unread still_unread held p.
    matches_err _ c.from_residual.result c.from_residual.ensures.0
    ((c.in_err-remaining.ensures {u = tt}).progress first unread still_unread held (rw c.in-Some.is at (c.loop-remaining.invariant.0 first unread still_unread held p)))

pub returns-clause-progress : goal.returns-clause-progress
returns-clause-progress g c = λ first unread still_unread held p. rw c.in_default.is at (c.loop-remaining.invariant.0 first unread still_unread held p)

pub returns-in_err-remaining-clause-failures : goal.returns-in_err-remaining-clause-failures
returns-in_err-remaining-clause-failures g c =
    (c.in_err-remaining.ensures {u = tt}).failures ∙ ap one_more c.loop-remaining.invariant.2
    ∙ sym (failures_err c.args.writer.now.failures c.from_residual.result c.from_residual.ensures.0)

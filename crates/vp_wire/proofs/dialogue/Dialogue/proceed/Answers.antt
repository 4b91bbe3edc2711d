use Rattle.std.proofs.Common.{◌∙◌, sym}
use Rattle.vp_wire.proofs.Ending.{handed}
use Rattle.vp_wire.proofs.Progressing.{failures_err, matches_err}
use Rattle.vp_wire.proofs.dialogue.Dialogue.proceed.Goals as goal

pub returns-clause-progress : goal.returns-clause-progress
returns-clause-progress g c = λ first unread still_unread held p.
    handed _ c.take.new.self c.flush.result ((c.in_ok-take.ensures {u = tt}).progress first unread still_unread held p) c.flush.ensures.bytes

pub returns-in_err-take-clause-progress : goal.returns-in_err-take-clause-progress
returns-in_err-take-clause-progress g c = λ first unread still_unread held p.
    matches_err _ c.from_residual.result c.from_residual.ensures.0 ((c.in_err-take.ensures {u = tt}).progress first unread still_unread held p)

pub returns-in_err-take-clause-failures : goal.returns-in_err-take-clause-failures
returns-in_err-take-clause-failures g c =
    (c.in_err-take.ensures {u = tt}).failures ∙ sym (failures_err c.args.writer.now.failures c.from_residual.result c.from_residual.ensures.0)

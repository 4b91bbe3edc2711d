use Rattle.std.proofs.Common.{◌∙◌, sym}
use Rattle.vp_wire.proofs.Ending.{handed_on}
use Rattle.vp_wire.proofs.Progressing.{failures_err, matches_err}
use Rattle.vp_wire.proofs.dialogue.Dialogue.finish.Goals as goal

pub returns-clause-whole : goal.returns-clause-whole
returns-clause-whole g c = λ first unread still_unread held p at_end.
    handed_on _ c.answer_last.new.self.out_of_memory _ c.answer_last.new.self.lines c.flush.result ((c.in_ok-answer_last.ensures {u = tt}).whole first unread still_unread held p at_end) c.flush.ensures.bytes

pub returns-in_err-answer_last-clause-whole : goal.returns-in_err-answer_last-clause-whole
returns-in_err-answer_last-clause-whole g c = λ first unread still_unread held p at_end.
    matches_err _ c.from_residual.result c.from_residual.ensures.0
    ((c.in_err-answer_last.ensures {u = tt}).whole first unread still_unread held p at_end)

pub returns-in_err-answer_last-clause-failures : goal.returns-in_err-answer_last-clause-failures
returns-in_err-answer_last-clause-failures g c =
    (c.in_err-answer_last.ensures {u = tt}).failures ∙ sym (failures_err c.args.writer.now.failures c.from_residual.result c.from_residual.ensures.0)

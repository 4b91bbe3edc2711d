use Rattle.vp_wire.proofs.Ending.{last_begun, none_begun}
use Rattle.vp_wire.proofs.dialogue.Dialogue.answer_last.Goals as goal

pub returns-then-has_begun-clause-whole : goal.returns-then-has_begun-clause-whole
returns-then-has_begun-clause-whole g c = λ first unread still_unread held p at_end.
    last_begun c.args.self.now c.answer.new.self c.has_begun.result c.answer.result p at_end c.has_begun.ensures c.if-has_begun.true c.answer.ensures.reply c.answer.ensures.lines

pub returns-else-has_begun-clause-whole : goal.returns-else-has_begun-clause-whole
returns-else-has_begun-clause-whole g c = λ first unread still_unread held p at_end.
    none_begun c.args.self.now c.has_begun.result p at_end c.has_begun.ensures c.if-has_begun.false

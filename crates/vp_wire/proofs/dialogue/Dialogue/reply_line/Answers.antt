use Rattle.vp_wire.proofs.Answering.{answered_at_once}
use Rattle.vp_wire.proofs.dialogue.Dialogue.reply_line.Goals as goal

pub returns-in-Err-clause-reply : goal.returns-in-Err-clause-reply
returns-in-Err-clause-reply g c = λ line begun. answered_at_once g.C.Caller.calls _ _ c.turn-turn.result c.in-Err.error c.in-Err.is (c.turn-turn.ensures line begun)

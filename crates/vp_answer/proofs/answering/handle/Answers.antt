use Rattle.vp_vpi.specs.Calls.{handle_of}
use Rattle.vp_answer.specs.Answers.{made}
use Rattle.vp_answer.proofs.Refusing.{refusal_gives}
use Rattle.vp_answer.proofs.answering.handle.Goals as goal

pub returns-in-Err-clause-given : goal.returns-in-Err-clause-given
returns-in-Err-clause-given g c =
    let session_state = c.args.session.now in
    let due = handle_of (g.E.Observe.observer c.args.observation.now) session_state.handles c.args.scope c.args.name.now in
    refusal_gives session_state c.handle_by_name.new.self (made session_state) due c.in-Err.error c.refusal.result
    c.in-Err.ensures.unchanged c.in-Err.ensures.refused c.refusal.ensures.answer c.refusal.ensures.reason

use Rattle.std.proofs.Common.{refl}
use Rattle.vp_vpi.specs.Calls.{same_of}
use Rattle.vp_vpi.specs.SessionStates.{object_of}
use Rattle.vp_answer.specs.declared.reply.Reply.TheVariants as reply
use Rattle.vp_answer.specs.Answers.{only_told}
use Rattle.vp_answer.proofs.Refusing.{refused_gives}
use Rattle.vp_answer.proofs.answering.compare.Goals as goal

pub returns-in-Err : goal.returns-in-Err
returns-in-Err c = λ observation.
    let session_state = c.args.session.now in
    let due = same_of (object_of session_state.handles c.args.first) (object_of session_state.handles c.args.second) in
    refused_gives session_state session_state (λ same. only_told session_state (reply.Same same)) due c.in-Err.error c.refusal.result
    refl c.in-Err.ensures.refused c.refusal.ensures.answer c.refusal.ensures.reason

use Rattle.std.proofs.Common.{refl}
use Rattle.vp_vpi.specs.Calls.{value_of}
use Rattle.vp_vpi.specs.SessionStates.{object_of}
use Rattle.vp_answer.specs.Answers.{only_told, value_in}
use Rattle.vp_answer.proofs.Refusing.{refused_gives}
use Rattle.vp_answer.proofs.answering.value.Goals as goal

pub returns-in-Err : goal.returns-in-Err
returns-in-Err g c =
    let session_state = c.args.session.now in
    let due = value_of (g.E.Observe.observer c.args.observation.now) (object_of session_state.handles c.args.handle) in
    refused_gives session_state session_state (λ bits. only_told session_state (value_in c.args.format bits)) due c.in-Err.error c.refusal.result
    refl c.in-Err.ensures.refused c.refusal.ensures.answer c.refusal.ensures.reason

use Rattle.std.proofs.Common.{refl}
use Rattle.vp_vpi.specs.Calls.{iterated}
use Rattle.vp_answer.specs.Answers.{scanned}
use Rattle.vp_answer.proofs.Refusing.{iteration_gives, refusal_gives}
use Rattle.vp_answer.proofs.answering.iterate.Goals as goal

pub returns-in-Ok-clause-given : goal.returns-in-Ok-clause-given
returns-in-Ok-clause-given g c =
    let session_state = c.args.session.now in
    let due = iterated (g.E.Observe.observer c.args.observation.now) session_state.handles c.args.kind c.args.scope in
    iteration_gives session_state c.scan.new.session due c.in-Ok.found c.scan.result c.in-Ok.ensures.ok c.scan.ensures.answer c.scan.ensures.made

pub returns-in-Err-clause-given : goal.returns-in-Err-clause-given
returns-in-Err-clause-given g c =
    let session_state = c.args.session.now in
    let due = iterated (g.E.Observe.observer c.args.observation.now) session_state.handles c.args.kind c.args.scope in
    refusal_gives session_state session_state (scanned session_state) due c.in-Err.error c.refusal.result
    refl c.in-Err.ensures.refused c.refusal.ensures.answer c.refusal.ensures.reason

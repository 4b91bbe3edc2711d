use Rattle.std.proofs.Common.{◌∙◌, ℕ, Result, Ok, Err, ap, subst}
use Rattle.std.specs.Prelude.{OnErr}
use Rattle.vp_policy.specs.Users.{member_at}
use Rattle.vp_sim.specs.States as sim
use Rattle.vp_vpi.specs.Observers.{Observer}
use Rattle.vp_world.specs.Races.{observer_with}
use Rattle.vp_answer.specs.Answers.{respond}
use Rattle.vp_answer.specs.Given.{IsGiven}
use Rattle.vp_world.specs.Given.{observer_in}
use Rattle.vp_answer.proofs.Sessions.{with_name_of}
use Rattle.vp_world.proofs.Asking.{put_gives, put_keeps}
use Rattle.vp_world.proofs.putting.answer_query.Goals as goal

-- what holds is so on an error
on_err : {A E P : Type 0} (r : Result A E) → P → OnErr r P
on_err (Ok x) holds = tt
on_err (Err e) holds = holds

pub returns-clause-given : goal.returns-clause-given
returns-clause-given c =
    let run = c.args.run.now in
    let policy = c.args.policy.now in
    let session_state = c.args.session.now.session_state in
    let races = c.args.book.now.races in
    let answer = c.in_ok-answer.answer in
    let same =
    c.new-observation.ensures.observer
    ∙ ap (λ (s : sim.State). observer_with s (member_at policy.members c.user.result.0) races) c.simulation.ensures
    ∙ ap (λ (u : ℕ). observer_with run.simulation (member_at policy.members u) races) c.user.ensures in
    let given = subst (λ (observation : Observer). IsGiven (respond observation session_state c.args.query.now) c.ask.new.self.session_state answer) same c.in_ok-answer.ensures.given in
    put_gives (observer_in run c.args.book.now policy session_state.user) session_state c.args.query.now run c.make_put.new.run c.ask.new.self.session_state answer c.in_ok-change.change
    given c.in_ok-change.ensures.change c.in_ok-change.ensures.segments

pub returns-in_err-change-clause-session : goal.returns-in_err-change-clause-session
returns-in_err-change-clause-session c =
    let observation = c.new-observation.result in
    let seen = observer_with observation.sim.now (member_at observation.policy.now.members observation.user.0) observation.book.now.races in
    let old = c.args.session.now in
    let new = c.ask.new.self in
    let kept = put_keeps seen old.session_state c.args.query.now new.session_state c.in_ok-answer.answer c.in_ok-answer.ensures.given c.in_err-change.ensures.asked in
    on_err c.from_residual-in_err-change.result
    (with_name_of new old old.session_state c.ask.ensures.id kept)

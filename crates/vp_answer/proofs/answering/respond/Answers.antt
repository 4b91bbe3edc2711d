use Rattle.std.proofs.Common.{◌≡◌, Result, IfOk, refl, subst, sym}
use Rattle.vp_vpi.specs.Observers.{Observer}
use Rattle.vp_vpi.specs.SessionStates.{SessionState}
use Rattle.vp_answer.specs.declared.answering.Answer.{Answer}
use Rattle.vp_answer.specs.declared.goal.GoalChange.{GoalChange}
use Rattle.vp_answer.specs.declared.goal.GoalChange.TheVariants.{Ends, RisesTo}
use Rattle.vp_answer.specs.declared.query.Query.{Query}
use Rattle.vp_answer.specs.declared.query.Query.TheVariants as query
use Rattle.vp_answer.specs.Answers.{Response, respond, steering}
use Rattle.vp_answer.specs.Given.{IsGiven}
use Rattle.vp_answer.proofs.answering.respond.Goals as goal

-- what is given for a query is given for the same one
same_given : {X : Type 0} (observation : Observer) (session_state new : SessionState) (asked r : Query) (result : Result Answer X) → asked ≡ r → IfOk result (IsGiven (respond observation session_state r) new) → IfOk result (IsGiven (respond observation session_state asked) new)
same_given observation session_state new asked r result is given = subst (λ (x : Query). IfOk result (IsGiven (respond observation session_state x) new)) (sym is) given

-- and so is an answer
same_answer : (observation : Observer) (session_state new : SessionState) (asked r : Query) (a : Answer) → asked ≡ r → IsGiven (respond observation session_state r) new a → IsGiven (respond observation session_state asked) new a
same_answer observation session_state new asked r a is given = subst (λ (x : Query). IsGiven (respond observation session_state x) new a) (sym is) given

pub returns-in-Compare-clause-given : goal.returns-in-Compare-clause-given
returns-in-Compare-clause-given g c =
    let observation = g.E.Observe.observer c.args.observation.now in
    same_given observation c.args.session.now c.args.session.now c.args.query.now (query.Compare c.in-Compare.first c.in-Compare.second) c.compare.result c.in-Compare.is (c.compare.ensures observation)

pub returns-in-Free-clause-given : goal.returns-in-Free-clause-given
returns-in-Free-clause-given g c =
    let observation = g.E.Observe.observer c.args.observation.now in
    same_given observation c.args.session.now c.free.new.session c.args.query.now (query.Free c.in-Free.handle) c.free.result c.in-Free.is (c.free.ensures.given observation)

pub returns-in-Unwatch-clause-given : goal.returns-in-Unwatch-clause-given
returns-in-Unwatch-clause-given g c =
    let observation = g.E.Observe.observer c.args.observation.now in
    same_given observation c.args.session.now c.unwatch.new.session c.args.query.now (query.Unwatch c.in-Unwatch.callback) c.unwatch.result c.in-Unwatch.is (c.unwatch.ensures.given observation)

pub returns-in-Poll-clause-given : goal.returns-in-Poll-clause-given
returns-in-Poll-clause-given g c =
    let observation = g.E.Observe.observer c.args.observation.now in
    same_given observation c.args.session.now c.poll.new.session c.args.query.now query.Poll c.poll.result c.in-Poll.is (c.poll.ensures.given observation)

-- of a change of the goal
steered : (observation : Observer) (session_state : SessionState) (asked r : Query) (change : GoalChange) (a : Answer) → asked ≡ r → respond observation session_state r ≡ steering observation session_state change
    → IsGiven (steering observation session_state change) session_state a → IsGiven (respond observation session_state asked) session_state a
steered observation session_state asked r change a is steers given =
    same_answer observation session_state session_state asked r a is (subst (λ (due : Response). IsGiven due session_state a) (sym steers) given)

pub returns-in-Run-clause-given : goal.returns-in-Run-clause-given
returns-in-Run-clause-given g c =
    let observation = g.E.Observe.observer c.args.observation.now in
    let session_state = c.args.session.now in
    steered observation session_state c.args.query.now (query.Run c.in-Run.until) (RisesTo c.in-Run.until) c.steer.result c.in-Run.is refl (c.steer.ensures session_state)

pub returns-in-Stop-clause-given : goal.returns-in-Stop-clause-given
returns-in-Stop-clause-given g c =
    let observation = g.E.Observe.observer c.args.observation.now in
    let session_state = c.args.session.now in
    steered observation session_state c.args.query.now query.Stop Ends c.steer-in-Stop.result c.in-Stop.is refl (c.steer-in-Stop.ensures session_state)

pub returns-in-Time-clause-given : goal.returns-in-Time-clause-given
returns-in-Time-clause-given g c =
    let observation = g.E.Observe.observer c.args.observation.now in
    let session_state = c.args.session.now in
    same_answer observation session_state session_state c.args.query.now query.Time c.time.result c.in-Time.is (c.time.ensures session_state)

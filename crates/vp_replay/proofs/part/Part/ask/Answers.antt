use Rattle.std.proofs.Common.{◌≡◌, ◌∙◌, ◌<◌, ap, sym, length, List, Some, subst}
use Rattle.std.specs.Prelude.{slice_get, slice_set}
use Rattle.vp_vpi.specs.Observers.{Observer}
use Rattle.vp_vpi.specs.SessionStates.{SessionState}
use Rattle.vp_answer.specs.Answers.{respond}
use Rattle.vp_answer.specs.OpenSessions.{OpenSessionState, index_of}
use Rattle.vp_answer.proofs.Sessions.{session_with, with_name_of}
use Rattle.vp_replay.specs.Seen.{observer_seen}
use Rattle.vp_replay.specs.Parts.{Asks, Part, observer_of_part, reply_of, with_own}
use Rattle.vp_replay.proofs.PartSteps.{asked_after, asked_reply, at_index, observations_are}
use Rattle.vp_replay.proofs.part.Part.ask.Goals as goal

module _ (c : goal.Joined-answer) where
  -- the part before
  abbrev before : Part
  before = record {
    view = c.self.inside.view.now;
    opens = c.self.inside.opens;
    sessions = c.self.inside.sessions.items;
    values = c.self.inside.values.items;
    time = c.self.inside.time;
    finished = c.self.inside.finished;
    races = c.self.inside.races.items;
  }

  abbrev session : OpenSessionState
  session = c.index_mut.result.now

  at : index_of before.sessions c.args.id ≡ Some c.in-Some.index
  at = sym (ap (λ (ts : List OpenSessionState). index_of ts c.args.id) c.deref.ensures.value) ∙ sym c.session_index.ensures.index ∙ c.in-Some.is

  within : c.in-Some.index < length before.sessions
  within = subst (λ (ts : List OpenSessionState). c.in-Some.index < length ts) c.deref.ensures.value c.in-Some.ensures.within

  there : slice_get before.sessions c.in-Some.index ≡ Some session
  there = at_index before.sessions c.in-Some.index session within c.index_mut.ensures.value

  abbrev observation : Observer
  observation = observer_seen c.new-observation.result.view.now c.new-observation.result.values.now c.new-observation.result.time c.new-observation.result.finished c.new-observation.result.races.now

  observation_is : observation ≡ observer_of_part before
  observation_is = c.new-observation.ensures.observer ∙ observations_are before.view c.deref-2.result.now before.values before.time before.finished c.deref-3.result.now before.races c.deref-2.ensures.value c.deref-3.ensures.value

pub returns-clause-reply : goal.returns-clause-reply
returns-clause-reply c =
    let r = c.args.query.now in
    (c.in_ok-answer.ensures {u = tt}).given.gives_reply ∙ ap (λ e. (respond e (session c).session_state r).reply) (observation_is c)
    ∙ sym (asked_reply (before c) c.args.id r c.in-Some.index (session c) (at c) (there c))
    ∙ ap (λ (q : Part). reply_of q (Asks c.args.id r)) c.self.view_is

pub returns-clause-after : goal.returns-clause-after
returns-clause-after c =
    let r = c.args.query.now in
    let q = before c in
    let after : SessionState = (respond (observer_of_part q) (session c).session_state r).session_state in
    let new : c.ask.new.self ≡ session_with (session c).id after =
    with_name_of c.ask.new.self (session c) after c.ask.ensures.id
    ((c.in_ok-answer.ensures {u = tt}).given.session_state ∙ ap (λ e. (respond e (session c).session_state r).session_state) (observation_is c)) in
    ap (λ (t : OpenSessionState). (let x : Part = record q { sessions = slice_set q.sessions c.in-Some.index t } in x)) new
    ∙ sym (asked_after q c.args.id r c.in-Some.index (session c) (at c) (there c))
    ∙ ap (λ (x : Part). with_own x (Asks c.args.id r)) c.self.view_is

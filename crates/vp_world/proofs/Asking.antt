-- A world after a query of the session at an index.
use Rattle.std.proofs.Common.{◌≡◌, ℕ, ◌<◌, Bool, true, false, List, length, Option, Some, None, refl, sym, ap, subst, ◌∙◌}
use Rattle.std.specs.Prelude.{slice_get, slice_index_or, slice_set, if◌then◌else◌, IfSome, IsSome}
use Rattle.std.proofs.lemmas.Option.{slice_get-get_or}
use Rattle.vp_bits.specs.declared.bit.Bit.{Bit}
use Rattle.vp_elab.specs.Built.{Elaborated}
use Rattle.vp_elab.specs.declared.object.ObjectId.{ObjectId}
use Rattle.vp_policy.specs.PolicyState.{PolicyState}
use Rattle.vp_race.specs.Booking.{BookState}
use Rattle.vp_race.specs.Recording.{Recorded, Segments, with_step}
use Rattle.vp_race.specs.Segments.{FindingState}
use Rattle.vp_sim.specs.declared.error.SimError.{SimError}
use Rattle.vp_sim.specs.States as sim
use Rattle.vp_sim.specs.laws.Designs.{after_step}
use Rattle.vp_vpi.specs.Observers.{Observer}
use Rattle.vp_vpi.specs.SessionStates.{SessionState}
use Rattle.vp_expr.specs.declared.change.Change.{Change}
use Rattle.vp_answer.specs.declared.answering.Answer.{Answer}
use Rattle.vp_world.specs.declared.putting.AnswerWithChange.{AnswerWithChange}
use Rattle.vp_answer.specs.declared.query.Query.{Query}
use Rattle.vp_world.specs.declared.limits.Limits.{Limits}
use Rattle.vp_answer.specs.declared.reply.Reply.{Reply}
use Rattle.vp_answer.specs.declared.reply.Reply.TheVariants as reply
use Rattle.vp_answer.specs.Answers.{Response, respond}
use Rattle.vp_answer.specs.Given.{IsGiven, put_shown}
use Rattle.vp_world.specs.Given.{Gives, observer_in}
use Rattle.vp_world.specs.History.{asked, asked_at, asked_in, change_of, changed_by, changed_in, noticed, outcome_of_put, goal_after, segments_of_put, state_asked, stepped, with_state}
use Rattle.vp_world.specs.Shown.{shown}
use Rattle.vp_answer.specs.laws.Puts.{put_only}
use Rattle.vp_answer.proofs.Sessions.{session_with, with_name_of}
use Rattle.vp_answer.specs.OpenSessions.{OpenSessionState}
use Rattle.vp_world.specs.Worlds.{WorldState, State}

-- the index of a session of a world is one of its list
pub within_shown :
    (run : Recorded) (book : List FindingState) (first policy : PolicyState) (limits : Limits) (sessions : List OpenSessionState) (opens : List ℕ) (goal : Option ℕ) (index : ℕ) (w : WorldState)
    → shown run book first policy limits sessions opens goal ≡ w → index < length w.state.sessions → index < length sessions
within_shown run book first policy limits sessions opens goal index w is within = subst (λ v. index < length v.state.sessions) (sym is) within

-- the design of an outcome
abbrev design_in : sim.State → sim.Outcome → Elaborated
design_in run (sim.Goes next change) = next.design
design_in run (sim.Refuses e) = run.design

chosen_design : (run next : sim.State) (change : Option Change) (e : SimError) (b : Bool) → next.design ≡ run.design → design_in run (if b then sim.Refuses e else sim.Goes next change) ≡ run.design
chosen_design run next change e true h = refl
chosen_design run next change e false h = h

-- a put leaves the design
put_design : (run : sim.State) (p : Option (ℕ × List Bit)) → design_in run (outcome_of_put run p) ≡ run.design
put_design run None = refl
put_design run (Some p) = chosen_design run _ _ _ run.finished refl

-- what a put changes, if there is one, only a query that is done changes
done_by : (put : Option (ℕ × List Bit)) (old new : sim.State) (change : Option Change) (r : Reply) → outcome_of_put old put ≡ sim.Goes new change → ((p : ℕ × List Bit) → put ≡ Some p → r ≡ reply.Done) → IfSome change (λ c. r ≡ reply.Done)
done_by None old new change r goes done =
    let none : None ≡ change = cc in
    subst (λ (x : Option Change). IfSome x (λ c. r ≡ reply.Done)) none tt
done_by (Some p) old new None r goes done = tt
done_by (Some p) old new (Some c) r goes done = done p refl

-- an answer with what its put changed
abbrev pub with_change : Answer → Option Change → AnswerWithChange
with_change a change = record { reply = a.reply; entry_reply = a.entry_reply; goal = a.goal; change = change }

-- an answer, and what its put does, give what comes of a query
pub put_gives :
    (observation : Observer) (session_state : SessionState) (r : Query) (old new : Recorded) (session : SessionState) (a : Answer) (change : Option Change)
    → IsGiven (respond observation session_state r) session a → outcome_of_put old.simulation (put_shown a.put) ≡ sim.Goes new.simulation change
    → new.segments ≡ segments_of_put old.segments (put_shown a.put) new.simulation
    → Gives (respond observation session_state r) old new session (with_change a change)
put_gives observation session_state r old new session a change given goes closes =
    let due = respond observation session_state r in
    let put : outcome_of_put old.simulation due.put ≡ sim.Goes new.simulation change = ap (outcome_of_put old.simulation) (sym given.put) ∙ goes in
    record {
      gives_reply = given.gives_reply;
      gives_entry = given.gives_entry;
      goal = given.goal;
      session_state = given.session_state;
      put = put;
      segments = closes ∙ ap (λ p. segments_of_put old.segments p new.simulation) given.put;
      gives_done =
          done_by due.put old.simulation new.simulation change a.reply put
          (λ p is. given.gives_reply ∙ (put_only observation session_state r p is).is_done);
    }

-- a put that is there, as it is shown
put_there : (put : Option (ObjectId × List Bit)) → IsSome put → (p : ℕ × List Bit) × (put_shown put ≡ Some p)
put_there None there = cc
put_there (Some p) there = ((p.0.0, p.1), refl)

-- a query with a put leaves its session as it was
pub put_keeps :
    (observation : Observer) (session_state : SessionState) (r : Query) (session : SessionState) (a : Answer)
    → IsGiven (respond observation session_state r) session a → IsSome a.put → session ≡ session_state
put_keeps observation session_state r session a given there =
    let p = put_there a.put there in
    given.session_state ∙ (put_only observation session_state r p.0 (sym given.put ∙ p.1)).same

-- what comes of a query of a session of this seat
abbrev pub due_of : Recorded → BookState → (policy : PolicyState) → SessionState → Query → Response
due_of run book policy session_state r = respond (observer_in run book policy session_state.user) session_state r

-- a world with this design, simulation, segments and sessions
abbrev pub with_run : WorldState → Elaborated → sim.State → Segments → List OpenSessionState → WorldState
with_run w design run segments sessions = record {
  opening = record w.opening { design = design };
  state = record w.state { run = run; segments = segments; sessions = sessions };
}

-- what is known of the fields of a world in which a session of an index is asked
module _
    (run : Recorded) (book : BookState) (first policy : PolicyState) (limits : Limits) (sessions : List OpenSessionState) (opens : List ℕ) (goal : Option ℕ)
    (index : ℕ) (session : OpenSessionState) (r : Query) (w : WorldState)
    (is : shown run book.races first policy limits sessions opens goal ≡ w) (inside : index < length w.state.sessions)
    (at : session ≡ slice_index_or sessions index session)
  where
    abbrev old : WorldState
    old = shown run book.races first policy limits sessions opens goal

    abbrev pub due : Response
    due = due_of run book policy session.session_state r

    found : slice_get sessions index ≡ Some session
    found =
        slice_get-get_or sessions index session (within_shown run book.races first policy limits sessions opens goal index w is inside)
        ∙ ap Some (sym at)

    pub told_given : (run' : Recorded) (new : SessionState) (a : AnswerWithChange) → Gives due run run' new a → a.reply ≡ asked_in w index r
    told_given run' new a given =
        given.gives_reply ∙ ap (λ there. asked old.state there r) (sym found) ∙ ap (λ (v : WorldState). asked_in v index r) is

    pub kept_given : (run' : Recorded) (new : SessionState) (a : AnswerWithChange) → Gives due run run' new a → a.entry_reply ≡ asked_in w index r
    kept_given run' new a given =
        given.gives_entry ∙ ap (λ there. asked old.state there r) (sym found) ∙ ap (λ (v : WorldState). asked_in v index r) is

    pub changed_given : (run' : Recorded) (new : SessionState) (a : AnswerWithChange) → Gives due run run' new a → a.change ≡ changed_in w index r
    changed_given run' new a given =
        sym (ap change_of given.put) ∙ ap (λ there. changed_by old.state there r) (sym found) ∙ ap (λ (v : WorldState). changed_in v index r) is

    -- the state in which this is the session, and this the goal
    abbrev with_session_state : OpenSessionState → Option ℕ → State
    with_session_state new goal' = record old.state { sessions = slice_set sessions index new; goal = goal' }

    pub state_given :
        (run' : Recorded) (new : OpenSessionState) (told : List OpenSessionState) (goal' : Option ℕ) (a : AnswerWithChange) → Gives due run run' new.session_state a → new.id ≡ session.id
        → goal' ≡ goal_after goal a.goal → told ≡ noticed a.change run'.simulation.time (slice_set sessions index new)
        → shown run' book.races first policy limits told opens goal' ≡ with_state w (asked_at w.state (Some index) r)
    state_given run' new told goal' a given same_id raises tells =
        let next = run'.simulation in
        let segments : sim.State → Segments = segments_of_put run.segments due.put in
        let between : OpenSessionState → Option ℕ → WorldState = λ s goal'. record old { state = with_session_state s goal' } in
        let following : OpenSessionState → Option ℕ → sim.Outcome → WorldState = λ s goal' o. with_state old (stepped (with_session_state s goal') segments o) in
        let after : OpenSessionState = session_with session.id due.session_state in
        ap (with_run (between new goal') next.design next run'.segments) tells
        ∙ ap (λ d. with_run (between new goal') d next run'.segments (noticed a.change next.time (with_session_state new goal').sessions)) (ap (design_in run.simulation) (sym given.put) ∙ put_design run.simulation due.put)
        ∙ ap (λ (s : Segments). with_run (between new goal') run.simulation.design next s (noticed a.change next.time (with_session_state new goal').sessions)) given.segments
        ∙ ap (following new goal') (sym given.put)
        ∙ ap (λ s. following s goal' (outcome_of_put run.simulation due.put)) (with_name_of new session due.session_state same_id given.session_state)
        ∙ ap (λ goal'. following after goal' (outcome_of_put run.simulation due.put)) (raises ∙ ap (goal_after goal) given.goal)
        ∙ ap (λ there. with_state old (state_asked old.state index there r)) (sym found)
        ∙ ap (λ v. with_state v (asked_at v.state (Some index) r)) is

-- the world after a step
pub step_shown :
    (old new : Recorded) (book : List FindingState) (first policy : PolicyState) (limits : Limits) (sessions told : List OpenSessionState) (opens : List ℕ) (goal : Option ℕ)
    (k : ℕ) (change : Option Change) (w : WorldState)
    → shown old book first policy limits sessions opens goal ≡ w → sim.step old.simulation k ≡ sim.Goes new.simulation change
    → new.segments ≡ with_step old.segments k new.simulation
    → told ≡ noticed change new.simulation.time sessions
    → shown new book first policy limits told opens goal ≡ with_state w (stepped w.state (with_step w.state.segments k) (sim.step w.state.run k))
step_shown old new book first policy limits sessions told opens goal k change w is goes closes tells =
    let was : WorldState = shown old book first policy limits sessions opens goal in
    let next = new.simulation in
    let notices : List OpenSessionState = noticed change next.time sessions in
    ap (with_run was next.design next new.segments) tells
    ∙ ap (λ (d : Elaborated). with_run was d next new.segments notices) (after_step old.simulation next k change goes)
    ∙ ap (λ (s : Segments). with_run was old.simulation.design next s notices) closes
    ∙ ap (λ (o : sim.Outcome). with_state was (stepped was.state (with_step old.segments k) o)) (sym goes)
    ∙ ap (λ (v : WorldState). with_state v (stepped v.state (with_step v.state.segments k) (sim.step v.state.run k))) is

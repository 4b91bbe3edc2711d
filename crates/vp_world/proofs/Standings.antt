-- What a world shows of changed fields.
use Rattle.std.proofs.Common.{◌≡◌, ℕ, ◌+◌, List, [], ◌∷◌, ◌++◌, length, map, Option, None, replicate, sym, ap, ◌∙◌}
use Rattle.std.specs.Prelude.{slice_index, slice_set}
use Rattle.std.specs.List.{remove}
use Rattle.vp_elab.specs.Built.{Elaborated}
use Rattle.vp_policy.specs.PolicyState.{PolicyState}
use Rattle.vp_policy.specs.Regrants.{regranted}
use Rattle.vp_race.specs.Recording.{Recorded, Segments, first_segments}
use Rattle.vp_race.specs.Segments.{FindingState}
use Rattle.vp_sim.specs.States as sim
use Rattle.vp_vpi.specs.SessionStates.{new_session_state}
use Rattle.vp_answer.specs.declared.request.GrantChange.{GrantChange}
use Rattle.vp_world.specs.declared.limits.Limits.{Limits}
use Rattle.vp_world.specs.History.{ended_for, granted_to, halted, next_session, opened_by, under_policy, with_state}
use Rattle.vp_world.specs.Shown.{shown}
use Rattle.vp_answer.specs.OpenSessions.{OpenSessionState, retired_for, without_user}
use Rattle.vp_world.specs.Worlds.{WorldState, State, start}
use Rattle.vp_answer.proofs.Lists.{replicate_is}

-- a state with this simulation
abbrev state_with : sim.State → Segments → List FindingState → PolicyState → List OpenSessionState → List ℕ → State
state_with run segments book policy sessions opens = record {
  run = run;
  segments = segments;
  book = book;
  policy = policy;
  sessions = sessions;
  opens = opens;
  goal = None;
}

-- a world of new fields stands at the start
pub fresh_shown :
    (design : Elaborated) (r : Recorded) (book : List FindingState) (first policy : PolicyState) (limits : Limits) (sessions : List OpenSessionState) (opens : List ℕ)
    → r.simulation ≡ sim.start design → r.segments ≡ first_segments r.simulation → book ≡ [] → policy ≡ first → sessions ≡ []
    → opens ≡ replicate {A = ℕ} (length first.members) 0
    → state_with r.simulation r.segments book policy sessions opens
    ≡ start (record { design = r.simulation.design; policy = first; limits = limits })
fresh_shown design r book first policy limits sessions opens at_start segments unbooked same none zeros =
    ap (λ s. state_with r.simulation r.segments book policy s opens) none
    ∙ ap (λ (p : PolicyState). state_with r.simulation r.segments book p [] opens) same
    ∙ ap (λ (b : List FindingState). state_with r.simulation r.segments b first [] opens) unbooked
    ∙ ap (λ (o : List ℕ). state_with r.simulation r.segments [] first [] o) (zeros ∙ replicate_is first.members)
    ∙ ap (λ (s : Segments). state_with r.simulation s [] first [] (map (λ u. 0) first.members)) segments
    ∙ ap (λ (s : sim.State). state_with s (first_segments s) [] first [] (map (λ u. 0) first.members)) at_start
    ∙ ap (λ (d : Elaborated). start (record { design = d; policy = first; limits = limits })) (ap (λ (s : sim.State). s.design) (sym at_start))

-- a world with other sessions and counts
abbrev pub with_sessions : WorldState → List OpenSessionState → List ℕ → WorldState
with_sessions w sessions opens = record { opening = w.opening; state = record w.state { sessions = sessions; opens = opens } }

-- a session is taken out
pub closed_shown :
    (r : Recorded) (book : List FindingState) (first policy : PolicyState) (limits : Limits) (sessions left : List OpenSessionState) (opens : List ℕ) (goal : Option ℕ) (index : ℕ) (w : WorldState)
    → shown r book first policy limits sessions opens goal ≡ w → left ≡ remove sessions index
    → shown r book first policy limits left opens goal
    ≡ record { opening = w.opening; state = record w.state { sessions = remove w.state.sessions index } }
closed_shown r book first policy limits sessions left opens goal index w is taken =
    ap (λ s. shown r book first policy limits s opens goal) taken
    ∙ ap (λ (v : WorldState). with_sessions v (remove v.state.sessions index) v.state.opens) is

-- the sessions of a user end
pub ended_shown :
    (r : Recorded) (book : List FindingState) (first policy : PolicyState) (limits : Limits) (sessions left : List OpenSessionState) (opens : List ℕ) (goal : Option ℕ) (user : ℕ) (w : WorldState)
    → shown r book first policy limits sessions opens goal ≡ w → left ≡ without_user user sessions
    → shown r book first policy limits left opens goal ≡ with_state w (ended_for w.state user)
ended_shown r book first policy limits sessions left opens goal user w is taken =
    ap (λ s. shown r book first policy limits s opens goal) taken
    ∙ ap (λ (v : WorldState). with_state v (ended_for v.state user)) is

-- the goal ends
pub halted_shown :
    (r : Recorded) (book : List FindingState) (first policy : PolicyState) (limits : Limits) (sessions : List OpenSessionState) (opens : List ℕ) (goal : Option ℕ) (w : WorldState)
    → shown r book first policy limits sessions opens goal ≡ w
    → shown r book first policy limits sessions opens None ≡ with_state w (halted w.state)
halted_shown r book first policy limits sessions opens goal w is = ap (λ (v : WorldState). with_state v (halted v.state)) is

-- a session is opened
pub opened_shown :
    (r : Recorded) (book : List FindingState) (first policy : PolicyState) (limits : Limits) (sessions more : List OpenSessionState) (opens counts : List ℕ) (goal : Option ℕ) (session : OpenSessionState) (user : ℕ) (w : WorldState)
    → shown r book first policy limits sessions opens goal ≡ w
    → session ≡ record { id = next_session w.state user; session_state = new_session_state user }
    → more ≡ sessions ++ session ∷ []
    → counts ≡ slice_set opens user (slice_index w.state.opens user + 1)
    → shown r book first policy limits more counts goal ≡ record { opening = w.opening; state = opened_by w.state user }
opened_shown r book first policy limits sessions more opens counts goal session user w is new added counted =
    ap (λ s. shown r book first policy limits s counts goal) added
    ∙ ap (λ c. shown r book first policy limits (sessions ++ session ∷ []) c goal) counted
    ∙ ap (λ s. with_sessions (shown r book first policy limits sessions opens goal) s (slice_set opens user (slice_index w.state.opens user + 1)))
    (ap (λ (s : OpenSessionState). sessions ++ s ∷ []) new)
    ∙ ap (λ (v : WorldState). with_sessions v (v.state.sessions ++ record { id = next_session w.state user; session_state = new_session_state user } ∷ []) (slice_set v.state.opens user (slice_index w.state.opens user + 1))) is

-- a user's grant is changed
pub granted_shown :
    (r : Recorded) (book : List FindingState) (first policy changed : PolicyState) (limits : Limits) (sessions left : List OpenSessionState) (opens : List ℕ) (goal : Option ℕ) (change : GrantChange) (user : ℕ) (w : WorldState)
    → shown r book first policy limits sessions opens goal ≡ w
    → changed ≡ regranted policy user change.envelope change.access
    → left ≡ map (retired_for changed user) sessions
    → shown r book first changed limits left opens goal ≡ with_state w (granted_to w.state change user)
granted_shown r book first policy changed limits sessions left opens goal change user w is regrants retires =
    let s = shown r book first policy limits sessions opens goal in
    ap (λ ss. shown r book first changed limits ss opens goal) retires
    ∙ ap (λ (p : PolicyState). with_state s (under_policy s.state user p)) regrants
    ∙ ap (λ (v : WorldState). with_state v (granted_to v.state change user)) is

-- A legal log opens no session twice.
use Rattle.std.proofs.Common.{◌≡◌, ◌≢◌, ◌∙◌, ◌<◌, ◌≤◌, ℕ, zero, suc, ◌+◌, All, Bool, List, [], ◌∷◌, ◌++◌, Option, Some, None, append-nil, append_assoc, ap, arith, length, length-set, map, option_to_list, refl, subst, sym, take, true, false, if◌then◌else◌, option_and_then, bytes_eq}
use Rattle.std.proofs.lemmas.List.{length-map, take_more}
use Rattle.std.specs.Prelude.{slice_get, slice_index, slice_set}
use Rattle.std.specs.List.{cons_option}
use Rattle.std.specs.Option.{option_map_or}
use Rattle.std.proofs.lemmas.List.Elements.{All-nil, All-push, All-weaker, filter_map-append}
use Rattle.std.proofs.lemmas.List.Sums.{fold_push}
use Rattle.std.proofs.lemmas.Option.{get_or_from_slice_get, slice_get_within}
use Rattle.vp_policy.specs.Users.{Member, has_token, login_of, user_of}
use Rattle.vp_answer.specs.Answers.{Response}
use Rattle.vp_answer.specs.OpenSessions.{OpenSessionState, index_of}
use Rattle.vp_answer.specs.declared.query.Query.{Query}
use Rattle.vp_answer.specs.declared.reply.Refusal.TheVariants as refusal
use Rattle.vp_answer.specs.declared.reply.Reply.{Reply}
use Rattle.vp_answer.specs.declared.reply.Reply.TheVariants as reply
use Rattle.vp_answer.specs.declared.request.GrantChange.{GrantChange}
use Rattle.vp_answer.specs.declared.request.SessionId.{SessionId}
use Rattle.vp_race.specs.Recording.{Segments, with_anew, with_step}
use Rattle.vp_sim.specs.States as sim
use Rattle.vp_world.specs.declared.event.Event.{Event}
use Rattle.vp_world.specs.declared.event.Event.TheVariants as event
use Rattle.vp_world.specs.Entries.{Entry}
use Rattle.vp_world.specs.History.{IsLegal, after, answer, asked_at, closed_at, ended_for, goal_after, granted_to, next_session, opened_by, outcome_of_put, refusal_of, refusal_of_open, response_of, segments_of_put, state_after, state_asked, stepped}
use Rattle.vp_world.specs.Worlds.{Opening, State, start}
use Rattle.vp_hub.specs.Calls.{opened_in, sessions_opened}

-- a session has a number that a count of each user's openings has reached
abbrev IsCounted : List ℕ → SessionId → Type 0
IsCounted counts id = id.opens ≤ slice_index counts id.user.0

-- a state counts the openings of each user, these among them
record Counts (s : State) (opened : List SessionId) : Type 0 where
  users : length s.opens ≡ length s.policy.members
  within : All (IsCounted s.opens) opened

-- ---- counts

-- a count that is raised is no less
count_raised : (counts : List ℕ) (user other : ℕ) → slice_index counts other ≤ slice_index (slice_set counts user (slice_index counts user + 1)) other
count_raised [] user other = omega arith
count_raised (n ∷ counts) zero zero = omega arith
count_raised (n ∷ counts) zero (suc other) = omega arith
count_raised (n ∷ counts) (suc user) zero = omega arith
count_raised (n ∷ counts) (suc user) (suc other) = count_raised counts user other

-- and is what it is raised to
count_is : (counts : List ℕ) (user n : ℕ) → user < length counts → slice_index (slice_set counts user n) user ≡ n
count_is [] user n within = absurd (omega arith)
count_is (m ∷ counts) zero n within = refl
count_is (m ∷ counts) (suc user) n within = count_is counts user n (omega arith)

-- who is logged in is among the users
login_within : (members : List Member) (name token : List ℕ) (user : ℕ) → login_of members name token ≡ Some user → user < length members
login_within members name token user is = found (user_of members name) is where
  member : (n : ℕ) (m : Option Member) → slice_get members n ≡ m → (if option_map_or (λ (x : Member). bytes_eq token x.token) m false then Some n else None) ≡ Some user → user < length members
  member n None at e = absurd (cc)
  member n (Some m) at e = tested (bytes_eq token m.token) e where
    tested : (b : Bool) → (if b then Some n else None) ≡ Some user → user < length members
    tested true same = let within = slice_get_within members n m at in subst (λ k. k < length members) (cc) within
    tested false same = absurd (cc)

  found : (o : Option ℕ) → option_and_then (λ n. if has_token members token n then Some n else None) o ≡ Some user → user < length members
  found None e = absurd (cc)
  found (Some n) e = member n (slice_get members n) refl e

-- ---- one event

-- an event that opens no session
same_counts : (s t : State) (opened : List SessionId) → Counts s opened → t.opens ≡ s.opens → length t.policy.members ≡ length s.policy.members → Counts t opened
same_counts s t opened counts same users = record {
  users = ap length same ∙ counts.users ∙ sym users;
  within = subst (λ (ns : List ℕ). All (IsCounted ns) opened) (sym same) counts.within;
}

-- what the simulation does
stepped_counts : (s : State) (opened : List SessionId) (segments : sim.State → Segments) (o : sim.Outcome) → Counts s opened → Counts (stepped s segments o) opened
stepped_counts s opened segments (sim.Goes run change) counts = record { users = counts.users; within = counts.within }
stepped_counts s opened segments (sim.Refuses e) counts = counts

-- a query of an open session
answered_counts : (s : State) (opened : List SessionId) (index : ℕ) (session : Option OpenSessionState) (r : Query) → Counts s opened → Counts (state_asked s index session r) opened
answered_counts s opened index None r counts = counts
answered_counts s opened index (Some session) r counts =
    let given : Response = response_of s session.session_state r in
    stepped_counts (record s { sessions = slice_set s.sessions index (record session { session_state = given.session_state }); goal = goal_after s.goal given.goal }) opened
    (segments_of_put s.segments given.put) (outcome_of_put s.run given.put) (record { users = counts.users; within = counts.within })

-- a query
asked_counts : (s : State) (opened : List SessionId) (index : Option ℕ) (r : Query) → Counts s opened → Counts (asked_at s index r) opened
asked_counts s opened None r counts = counts
asked_counts s opened (Some index) r counts = answered_counts s opened index (slice_get s.sessions index) r counts

-- a session that is closed
closed_counts : (s : State) (opened : List SessionId) (index : Option ℕ) → Counts s opened → Counts (closed_at s index) opened
closed_counts s opened None counts = counts
closed_counts s opened (Some index) counts = record { users = counts.users; within = counts.within }

-- a grant
granted_counts : (s : State) (opened : List SessionId) (change : GrantChange) (user : Option ℕ) → Counts s opened → Counts (option_map_or (granted_to s change) user s) opened
granted_counts s opened change None counts = counts
granted_counts s opened change (Some user) counts = same_counts s (granted_to s change user) opened counts refl (length-set s.policy.members user _)

-- an end of a user's sessions
ended_counts : (s : State) (opened : List SessionId) (user : Option ℕ) → Counts s opened → Counts (option_map_or (ended_for s) user s) opened
ended_counts s opened None counts = counts
ended_counts s opened (Some user) counts = record { users = counts.users; within = counts.within }

-- an opening, by the user whom it logs in
opened_counts : (opening : Opening) (full : Bool) (s : State) (opened : List SessionId) (user token : List ℕ) (found : Option ℕ) → login_of s.policy.members user token ≡ found → refusal_of_open opening full s found ≡ None → Counts s opened
    → Counts (option_map_or (opened_by s) found s) (opened ++ option_to_list (opened_in (event.Open user token) (option_map_or (λ u. reply.Opened (next_session s u)) found (reply.Error refusal.BadToken))))
opened_counts opening full s opened user token None is accepted counts = absurd (cc)
opened_counts opening full s opened user token (Some u) is accepted counts =
    let within : u < length s.opens = subst (λ n. u < n) (sym counts.users) (login_within s.policy.members user token u is) in
    record {
      users = length-set s.opens u (slice_index s.opens u + 1) ∙ counts.users;
      within = All-push (IsCounted (slice_set s.opens u (slice_index s.opens u + 1))) opened (next_session s u)
          (All-weaker (IsCounted s.opens) (IsCounted (slice_set s.opens u (slice_index s.opens u + 1))) (λ id few. let raised = count_raised s.opens u id.user.0 in omega (arith, few, raised)) opened counts.within)
          (let is_raised = count_is s.opens u (slice_index s.opens u + 1) within in omega (arith, is_raised));
    }

-- an event that is accepted
after_counts : (opening : Opening) (full : Bool) (s : State) (opened : List SessionId) (e : Event) → refusal_of opening full s e ≡ None → Counts s opened → Counts (after opening s e) (opened ++ option_to_list (opened_in e (answer opening s e)))
after_counts opening full s opened (event.Open user token) accepted counts = opened_counts opening full s opened user token (login_of s.policy.members user token) refl accepted counts
after_counts opening full s opened (event.Ask id r) accepted counts = subst (Counts _) (sym (append-nil opened)) (asked_counts s opened (index_of s.sessions id) r counts)
after_counts opening full s opened (event.Close id) accepted counts = subst (Counts _) (sym (append-nil opened)) (closed_counts s opened (index_of s.sessions id) counts)
after_counts opening full s opened (event.Grant change) accepted counts = subst (Counts _) (sym (append-nil opened)) (granted_counts s opened change (user_of s.policy.members change.user) counts)
after_counts opening full s opened (event.End order) accepted counts = subst (Counts _) (sym (append-nil opened)) (ended_counts s opened (user_of s.policy.members order.user) counts)
after_counts opening full s opened (event.Halt order) accepted counts = subst (Counts _) (sym (append-nil opened)) (record { users = counts.users; within = counts.within })
after_counts opening full s opened (event.Step k) accepted counts = subst (Counts _) (sym (append-nil opened)) (stepped_counts s opened (with_step s.segments k) (sim.step s.run k) counts)
after_counts opening full s opened event.Advance accepted counts = subst (Counts _) (sym (append-nil opened)) (stepped_counts s opened (with_anew s.segments) (sim.advance s.run) counts)
after_counts opening full s opened event.TakeJob accepted counts = subst (Counts _) (sym (append-nil opened)) (record { users = counts.users; within = counts.within })
after_counts opening full s opened (event.Book finding) accepted counts = subst (Counts _) (sym (append-nil opened)) (record { users = counts.users; within = counts.within })

-- ---- logs

-- the sessions of a log with one entry more
pub opened_more : (log : List Entry) (e : Entry) → sessions_opened (log ++ e ∷ []) ≡ sessions_opened log ++ option_to_list (opened_in e.event e.reply)
opened_more log e = filter_map-append (λ (x : Entry). opened_in x.event x.reply) log (e ∷ []) ∙ ap (λ l. sessions_opened log ++ l) (one (opened_in e.event e.reply)) where
  one : (o : Option SessionId) → cons_option o [] ≡ option_to_list o
  one None = refl
  one (Some id) = refl

-- and of its first entries
pub opened_to : (log : List Entry) (n : ℕ) (e : Entry) → slice_get log n ≡ Some e → sessions_opened (take (n + 1) log) ≡ sessions_opened (take n log) ++ option_to_list (opened_in e.event e.reply)
opened_to log n e at =
    let within : n < length log = slice_get_within log n e at in
    ap sessions_opened (take_more log n e within ∙ ap (λ (x : Entry). take n log ++ x ∷ []) (get_or_from_slice_get log n e e at)) ∙ opened_more (take n log) e

-- a log that goes on legally
counts_on : (opening : Opening) (before log : List Entry) → IsLegal opening before log → Counts (state_after opening before) (sessions_opened before) → Counts (state_after opening (before ++ log)) (sessions_opened (before ++ log))
counts_on opening before [] legal counts = subst (λ (l : List Entry). Counts (state_after opening l) (sessions_opened l)) (sym (append-nil before)) counts
counts_on opening before (e ∷ log) legal counts =
    let s : State = state_after opening before in
    let one = after_counts opening false s (sessions_opened before) e.event legal.1 counts in
    let opened : sessions_opened (before ++ e ∷ []) ≡ sessions_opened before ++ option_to_list (opened_in e.event (answer opening s e.event)) =
    opened_more before e ∙ ap (λ (x : Reply). sessions_opened before ++ option_to_list (opened_in e.event x)) (ap (λ (x : Entry). x.reply) legal.2) in
    let next : state_after opening (before ++ e ∷ []) ≡ after opening s e.event = fold_push (λ (t : State) (x : Entry). after opening t x.event) (start opening) before e in
    let counts_next : Counts (state_after opening (before ++ e ∷ [])) (sessions_opened (before ++ e ∷ [])) =
    subst (λ (x : State × List SessionId). Counts x.0 x.1) (λ i. (sym next i, sym opened i)) one in
    subst (λ (l : List Entry). Counts (state_after opening l) (sessions_opened l)) (append_assoc before (e ∷ []) log)
    (counts_on opening (before ++ e ∷ []) log legal.3 counts_next)

-- a legal log
counted : (opening : Opening) (log : List Entry) → IsLegal opening [] log → Counts (state_after opening log) (sessions_opened log)
counted opening log legal = counts_on opening [] log legal (record {
  users = length-map opening.policy.members (λ u. 0);
  within = All-nil (IsCounted (map (λ u. 0) opening.policy.members));
})

-- a session that is opened after a legal log was not opened in it
pub opened_anew : (opening : Opening) (log : List Entry) (user token : List ℕ) (id : SessionId) → IsLegal opening [] log → answer opening (state_after opening log) (event.Open user token) ≡ reply.Opened id → All (λ s. s ≢ id) (sessions_opened log)
opened_anew opening log user token id legal answered = by (login_of s.policy.members user token) answered where
  s : State
  s = state_after opening log

  counts : Counts s (sessions_opened log)
  counts = counted opening log legal

  by : (found : Option ℕ) → option_map_or (λ u. reply.Opened (next_session s u)) found (reply.Error refusal.BadToken) ≡ reply.Opened id → All (λ t. t ≢ id) (sessions_opened log)
  by None e = absurd (cc)
  by (Some u) e =
      let is : next_session s u ≡ id = cc in
      All-weaker (IsCounted s.opens) (λ t. t ≢ id) (λ t few same. let again : IsCounted s.opens (next_session s u) = subst (IsCounted s.opens) (same ∙ sym is) few in absurd (omega (arith, again))) (sessions_opened log) counts.within

-- What an event leaves of what decides what goes to a user.
use Rattle.std.proofs.Common.{◌≡◌, ℕ, Bool, false, true, List, length, Option, Some, None, refl, ap, sym}
use Rattle.std.specs.Prelude.{if◌then◌else◌, nat_lt, option_and_then, slice_get}
use Rattle.std.specs.Option.{option_map_or}
use Rattle.vp_elab.specs.Built.{Elaborated}
use Rattle.vp_policy.specs.PolicyState.{PolicyState}
use Rattle.vp_policy.specs.Regrants.{is_operator}
use Rattle.vp_policy.specs.Users.{login_of, user_of}
use Rattle.vp_race.specs.Recording.{Segments, with_anew, with_step}
use Rattle.vp_race.specs.Segments.{FindingState}
use Rattle.vp_sim.specs.States as sim
use Rattle.vp_sim.specs.laws.Designs.{Leaves, advance_leaves, step_leaves}
use Rattle.vp_bits.specs.declared.bit.Bit.{Bit}
use Rattle.vp_expr.specs.declared.change.Change.{Change}
use Rattle.vp_expr.specs.Changes.{values_with}
use Rattle.vp_answer.specs.declared.request.GrantChange.{GrantChange}
use Rattle.vp_answer.specs.declared.query.Query.{Query}
use Rattle.vp_world.specs.declared.event.Event.{Event}
use Rattle.vp_world.specs.declared.event.Event.TheVariants as event
use Rattle.vp_world.specs.declared.error.WorldError.TheVariants as error
use Rattle.vp_world.specs.History.{after, asked_at, change_of, changed, changed_by, closed_at, ended_for, entry_of, opened_by, outcome_of_put, refusal_of, refusal_of_grantee, refusal_of_log, response_of, segments_of_put, state_asked, stepped}
use Rattle.vp_world.specs.Worlds.{Opening, State}
use Rattle.vp_answer.specs.OpenSessions.{OpenSessionState, index_of}
use Rattle.vp_audit.specs.Readings.{LogReader, book_after, followed, reading_of}
use Rattle.vp_audit.specs.laws.Cases.{outcome_changes, outcome_leaves}
use Rattle.vp_audit.specs.laws.Sims.{Changes, advance_changes, step_changes}

-- after something the design and the policy are as before, and the values and the book are these
pub record Stays (s t : State) (change : Option Change) (book : List FindingState) : Type 0 where
  pub design : t.run.design ≡ s.run.design
  pub values : t.run.values ≡ values_with s.run.values change
  pub policy : t.policy ≡ s.policy
  pub booked : t.book ≡ book

-- nothing
nothing : (s : State) → Stays s s None s.book
nothing s = record { design = refl; values = refl; policy = refl; booked = refl }

-- what the simulation does
does : (s x : State) → x.run ≡ s.run → x.policy ≡ s.policy → x.book ≡ s.book → (segments : sim.State → Segments) (o : sim.Outcome) → Leaves s.run.design o → Changes s.run.values o
    → Stays s (stepped x segments o) (change_of o) s.book
does s x run policy book segments (sim.Goes next change) leaves (values, within) = record { design = leaves; values = values; policy = policy; booked = book }
does s x run policy book segments (sim.Refuses e) leaves changes =
    record { design = ap (λ (r : sim.State). r.design) run; values = ap (λ (r : sim.State). r.values) run; policy = policy; booked = book }

-- an opening
opens : (s : State) (user : Option ℕ) → Stays s (option_map_or (opened_by s) user s) None s.book
opens s None = nothing s
opens s (Some u) = record { design = refl; values = refl; policy = refl; booked = refl }

-- a query
asks : (s : State) (index : ℕ) (session : Option OpenSessionState) (r : Query) → Stays s (state_asked s index session r) (changed_by s session r) s.book
asks s index None r = nothing s
asks s index (Some session) r =
    let given = response_of s session.session_state r in
    does s _ refl refl refl (segments_of_put s.segments given.put) (outcome_of_put s.run given.put) (outcome_leaves s.run given.put) (outcome_changes s.run given.put)

asks_at : (s : State) (index : Option ℕ) (r : Query) → Stays s (asked_at s index r) (changed_by s (option_and_then (slice_get s.sessions) index) r) s.book
asks_at s None r = nothing s
asks_at s (Some index) r = asks s index (slice_get s.sessions index) r

-- a closing
closes : (s : State) (index : Option ℕ) → Stays s (closed_at s index) None s.book
closes s None = nothing s
closes s (Some index) = record { design = refl; values = refl; policy = refl; booked = refl }

-- an end of sessions
ends : (s : State) (user : Option ℕ) → Stays s (option_map_or (ended_for s) user s) None s.book
ends s None = nothing s
ends s (Some u) = record { design = refl; values = refl; policy = refl; booked = refl }

-- an event that is no change of grants
abbrev pub IsNoGrant : Event → Type 0
IsNoGrant (event.Grant change) = ⊥
IsNoGrant e = Unit {0}

-- after each of them
pub stays : (opening : Opening) (s : State) (e : Event) → IsNoGrant e → Stays s (after opening s e) (changed s e) (book_after s.book e)
stays opening s (event.Open name token) n = opens s (login_of s.policy.members name token)
stays opening s (event.Ask id query) n = asks_at s (index_of s.sessions id) query
stays opening s (event.Close id) n = closes s (index_of s.sessions id)
stays opening s (event.Grant change) n = absurd n
stays opening s (event.End order) n = ends s (user_of s.policy.members order.user)
stays opening s (event.Halt order) n = record { design = refl; values = refl; policy = refl; booked = refl }
stays opening s (event.Step k) n = does s s refl refl refl (with_step s.segments k) (sim.step s.run k) (step_leaves s.run k) (step_changes s.run k)
stays opening s event.Advance n = does s s refl refl refl (with_anew s.segments) (sim.advance s.run) (advance_leaves s.run) (advance_changes s.run)
stays opening s event.TakeJob n = record { design = refl; values = refl; policy = refl; booked = refl }
stays opening s (event.Book finding) n = record { design = refl; values = refl; policy = refl; booked = refl }

-- a reading, by its parts
same_readings : (u : ℕ) (known : List Bool) (time : ℕ) (finished : Bool) (d d' : Elaborated) (p p' : PolicyState) (v v' : List (List Bit)) (b b' : List FindingState) → d ≡ d' → p ≡ p' → v ≡ v' → b ≡ b'
    → ◌≡◌ {A = LogReader} (record { design = d; user = u; policy = p; known = known; values = v; book = b; time = time; finished = finished })
    (record { design = d'; user = u; policy = p'; known = known; values = v'; book = b'; time = time; finished = finished })
same_readings u known time finished d d' p p' v v' b b' hd hp hv hb = cc

-- so the reading of a state is followed by that of the next
pub followed_is : (opening : Opening) (u : ℕ) (s : State) (known : List Bool) (e : Event) → IsNoGrant e → followed (reading_of u s known) (entry_of opening s e) ≡ reading_of u (after opening s e) known
followed_is opening u s known e n =
    let t = after opening s e in
    let h = stays opening s e n in
    same_readings u known t.run.time t.run.finished s.run.design t.run.design s.policy t.policy (values_with s.run.values (changed s e)) t.run.values (book_after s.book e) t.book
    (sym h.design) (sym h.policy) (sym h.values) (sym h.booked)

-- ---- grants

-- a change of a grant that is not refused is of an envelope of the design
within_by : (b c : Bool) (full : Bool) → (if b then (if c then Some error.NoSuchEnvelope else refusal_of_log full) else Some error.BadOperator) ≡ None → c ≡ false
within_by true true full h = absurd (cc)
within_by true false full h = refl
within_by false c full h = absurd (cc)

envelope_by : (full : Bool) (s : State) (change : GrantChange) (user : Option ℕ) (v : ℕ) → user ≡ Some v
    → (if is_operator s.policy change.token then refusal_of_grantee full s.policy change.envelope user else Some error.BadOperator) ≡ None
    → nat_lt (length s.policy.tree.authors) change.envelope ≡ false
envelope_by full s change None v is h = absurd (cc)
envelope_by full s change (Some w) v is h = within_by (is_operator s.policy change.token) (nat_lt (length s.policy.tree.authors) change.envelope) full h

pub envelope_within : (opening : Opening) (full : Bool) (s : State) (change : GrantChange) (v : ℕ) → user_of s.policy.members change.user ≡ Some v
    → refusal_of opening full s (event.Grant change) ≡ None → nat_lt (length s.policy.tree.authors) change.envelope ≡ false
envelope_within opening full s change v is h = envelope_by full s change (user_of s.policy.members change.user) v is h

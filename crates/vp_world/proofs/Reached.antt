-- Each race in the book is of a segment that was kept when it was booked.
use Rattle.std.proofs.Common.{◌≡◌, ◌∙◌, ℕ, Bool, true, false, List, [], ◌∷◌, ◌++◌, All, Option, Some, None, refl, sym, ap, subst, append_assoc, append-nil}
use Rattle.std.specs.Prelude.{if◌then◌else◌, slice_get}
use Rattle.std.specs.Option.{option_map_or}
use Rattle.std.proofs.lemmas.List.Elements.{All-nil, All-push, All-weaker}
use Rattle.vp_policy.specs.Users.{login_of, user_of}
use Rattle.vp_race.specs.declared.error.RaceError.{RaceError}
use Rattle.vp_race.specs.declared.error.RaceError.TheVariants.{SegmentGone}
use Rattle.vp_race.specs.Booking.{BookState, refusal_of_finding, refusal_of_race}
use Rattle.vp_race.specs.Recording.{Segments, kept_of}
use Rattle.vp_race.specs.Same.{same_run}
use Rattle.vp_race.specs.Segments.{Run, FindingState}
use Rattle.vp_sim.specs.States as sim
use Rattle.vp_answer.specs.declared.request.GrantChange.{GrantChange}
use Rattle.vp_world.specs.declared.event.Event.{Event}
use Rattle.vp_world.specs.declared.event.Event.TheVariants as event
use Rattle.vp_answer.specs.declared.query.Query.{Query}
use Rattle.vp_world.specs.Entries.{Entry}
use Rattle.vp_world.specs.Events.{IsWellFormed}
use Rattle.vp_world.specs.History.{IsLegal, IsReached, after, asked_at, book_refusal, closed_at, ended_for, granted_to, opened_by, refusal_after, refusal_of, refusal_of_booking, state_asked, state_after, stepped}
use Rattle.vp_world.specs.Worlds.{Opening, State}
use Rattle.vp_answer.specs.OpenSessions.{OpenSessionState, index_of}
use Rattle.vp_race.proofs.Carrying.{carried}
use Rattle.vp_world.proofs.Logs.{state_more}
use Rattle.vp_world.proofs.OfDesign.{kept_of_design}

-- ---- what books nothing

stepped_book : (s : State) (segments : sim.State → Segments) (o : sim.Outcome) → (stepped s segments o).book ≡ s.book
stepped_book s segments (sim.Goes run change) = refl
stepped_book s segments (sim.Refuses e) = refl

opened_book : (s : State) (o : Option ℕ) → (option_map_or (opened_by s) o s).book ≡ s.book
opened_book s None = refl
opened_book s (Some u) = refl

granted_book : (s : State) (change : GrantChange) (o : Option ℕ) → (option_map_or (granted_to s change) o s).book ≡ s.book
granted_book s change None = refl
granted_book s change (Some u) = refl

ended_book : (s : State) (o : Option ℕ) → (option_map_or (ended_for s) o s).book ≡ s.book
ended_book s None = refl
ended_book s (Some u) = refl

session_book : (s : State) (index : ℕ) (o : Option OpenSessionState) (r : Query) → (state_asked s index o r).book ≡ s.book
session_book s index None r = refl
session_book s index (Some session) r = stepped_book _ _ _

asked_book : (s : State) (o : Option ℕ) (r : Query) → (asked_at s o r).book ≡ s.book
asked_book s None r = refl
asked_book s (Some index) r = session_book s index (slice_get s.sessions index) r

closed_book : (s : State) (o : Option ℕ) → (closed_at s o).book ≡ s.book
closed_book s None = refl
closed_book s (Some index) = refl

-- ---- what is booked

chosen : (b : Bool) (o : Option RaceError) → (if b then o else Some SegmentGone) ≡ None → b ≡ true
chosen true o none = refl
chosen false o none = absurd (cc)

-- the kept segment of a finding that a book takes
kept_there : (book : BookState) (kept : Option Run) (f : FindingState) → refusal_of_finding book kept f ≡ None → (run : Run) × (kept ≡ Some run) × (same_run run f.segment ≡ true)
kept_there book None f none = absurd (cc)
kept_there book (Some run) f none = (run, refl, chosen (same_run run f.segment) (refusal_of_race book f) none)

-- a booking is refused where the book refuses the finding
not_refused : (full : Bool) (refusal : Option RaceError) → refusal_of_booking full refusal ≡ None → refusal ≡ None
not_refused true refusal h = absurd (cc)
not_refused false None h = refl
not_refused false (Some e) h = absurd (cc)

-- ---- after one entry more

-- a race stays reached
stays : (opening : Opening) (log : List Entry) (e : Entry) (f : FindingState) → IsReached opening log f → IsReached opening (log ++ e ∷ []) f
stays opening log e f r = record {
  before = r.before;
  rest = r.rest ++ e ∷ [];
  cut = ap (λ (l : List Entry). l ++ e ∷ []) r.cut ∙ append_assoc r.before r.rest (e ∷ []);
  run = r.run;
  kept = r.kept;
  same = r.same;
  race = r.race;
}

-- and so do all
all_stay : (opening : Opening) (log : List Entry) (e : Entry) (book : List FindingState) → All (IsReached opening log) book → All (IsReached opening (log ++ e ∷ [])) book
all_stay opening log e book all = All-weaker (IsReached opening log) (IsReached opening (log ++ e ∷ [])) (stays opening log e) book all

-- the races after an event
after_event :
    (opening : Opening) (log : List Entry) (e : Entry) (happens : Event) → IsWellFormed opening.design happens
    → refusal_of opening false (state_after opening log) happens ≡ None → All (IsReached opening log) (state_after opening log).book
    → All (IsReached opening (log ++ e ∷ [])) (after opening (state_after opening log) happens).book
after_event opening log e (event.Open name token) formed none all =
    let s = state_after opening log in
    subst (All (IsReached opening (log ++ e ∷ []))) (sym (opened_book s (login_of s.policy.members name token))) (all_stay opening log e s.book all)
after_event opening log e (event.Ask id query) formed none all =
    let s = state_after opening log in
    subst (All (IsReached opening (log ++ e ∷ []))) (sym (asked_book s (index_of s.sessions id) query)) (all_stay opening log e s.book all)
after_event opening log e (event.Close id) formed none all =
    let s = state_after opening log in
    subst (All (IsReached opening (log ++ e ∷ []))) (sym (closed_book s (index_of s.sessions id))) (all_stay opening log e s.book all)
after_event opening log e (event.Grant change) formed none all =
    let s = state_after opening log in
    subst (All (IsReached opening (log ++ e ∷ []))) (sym (granted_book s change (user_of s.policy.members change.user))) (all_stay opening log e s.book all)
after_event opening log e (event.End order) formed none all =
    let s = state_after opening log in
    subst (All (IsReached opening (log ++ e ∷ []))) (sym (ended_book s (user_of s.policy.members order.user))) (all_stay opening log e s.book all)
after_event opening log e (event.Halt order) formed none all = all_stay opening log e (state_after opening log).book all
after_event opening log e (event.Step k) formed none all =
    let s = state_after opening log in
    subst (All (IsReached opening (log ++ e ∷ []))) (sym (stepped_book s _ (sim.step s.run k))) (all_stay opening log e s.book all)
after_event opening log e event.Advance formed none all =
    let s = state_after opening log in
    subst (All (IsReached opening (log ++ e ∷ []))) (sym (stepped_book s _ (sim.advance s.run))) (all_stay opening log e s.book all)
after_event opening log e event.TakeJob formed none all = all_stay opening log e (state_after opening log).book all
after_event opening log e (event.Book f) formed none all =
    let s = state_after opening log in
    let there = kept_there (record { races = s.book; limits = opening.limits.book }) (kept_of s.segments f.segment.number) f (not_refused false (book_refusal opening s f) none) in
    let new : IsReached opening (log ++ e ∷ []) f = record {
      before = log;
      rest = e ∷ [];
      cut = refl;
      run = there.0;
      kept = there.1;
      same = there.2;
      race = carried there.0 f formed.1 (kept_of_design opening log f.segment.number there.0 there.1 ∙ sym formed.0) there.2;
    } in
    All-push (IsReached opening (log ++ e ∷ [])) s.book f (all_stay opening log e s.book all) new

-- the races after one entry more of a legal log
after_entry :
    (opening : Opening) (log : List Entry) (e : Entry) → IsWellFormed opening.design e.event → refusal_after opening log e.event ≡ None
    → All (IsReached opening log) (state_after opening log).book → All (IsReached opening (log ++ e ∷ [])) (state_after opening (log ++ e ∷ [])).book
after_entry opening log e formed none all =
    subst (λ (s : State). All (IsReached opening (log ++ e ∷ [])) s.book) (sym (state_more opening log e)) (after_event opening log e e.event formed none all)

-- those after the rest of a legal log
after_rest :
    (opening : Opening) (before log : List Entry) → IsLegal opening before log → All (IsReached opening before) (state_after opening before).book
    → All (IsReached opening (before ++ log)) (state_after opening (before ++ log)).book
after_rest opening before [] legal all =
    subst (λ (l : List Entry). All (IsReached opening l) (state_after opening l).book) (sym (append-nil before)) all
after_rest opening before (e ∷ log) (formed, accepted, is, legal) all =
    subst (λ (l : List Entry). All (IsReached opening l) (state_after opening l).book) (append_assoc before (e ∷ []) log)
    (after_rest opening (before ++ e ∷ []) log legal (after_entry opening before e formed accepted all))

-- each race in the book is reached
pub all_reached : (opening : Opening) (log : List Entry) → IsLegal opening [] log → All (IsReached opening log) (state_after opening log).book
all_reached opening log legal = after_rest opening [] log legal (All-nil (IsReached opening []))

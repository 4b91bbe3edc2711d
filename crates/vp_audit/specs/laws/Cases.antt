-- A user's part after each event.
use Rattle.std.proofs.Common.{◌≡◌, ℕ, zero, suc, ◌+◌, ◌<◌, Bool, false, true, List, [], ◌∷◌, ◌++◌, length, Option, Some, None, refl, ap, sym, subst, ◌∙◌, arith, append-nil}
use Rattle.std.specs.Prelude.{◌==◌, cond, filter, if◌then◌else◌, map, not, option_and_then, option_map, slice_get, slice_index, slice_set}
use Rattle.std.specs.List.{All, position, position_from, remove}
use Rattle.std.specs.Option.{option_map_or}
use Rattle.std.proofs.lemmas.List.{length-set, map-append, map-set}
use Rattle.std.proofs.lemmas.List.Elements.{All-append, All-cons, All-nil, filter-append}
use Rattle.std.proofs.lemmas.Iterator.Adapters.{position_from-zero}
use Rattle.std.proofs.lemmas.Option.{slice_get-map}
use Rattle.vp_bits.specs.declared.bit.Bit.{Bit}
use Rattle.vp_elab.specs.Built.{Elaborated}
use Rattle.vp_policy.specs.View.{known_view}
use Rattle.vp_policy.specs.Users.{member_at}
use Rattle.vp_sim.specs.States as sim
use Rattle.vp_sim.specs.laws.Designs.{Leaves, put_leaves}
use Rattle.vp_race.specs.Recording.{Segments}
use Rattle.vp_race.specs.Segments.{FindingState}
use Rattle.vp_expr.specs.declared.change.Change.{Change}
use Rattle.vp_vpi.specs.declared.races.ShownRace.{ShownRace}
use Rattle.vp_world.specs.Races.{is_shown, observer_with, race_seen, races_seen}
use Rattle.vp_vpi.specs.SessionStates.{SessionState, new_session_state}
use Rattle.vp_answer.specs.declared.query.Query.{Query}
use Rattle.vp_answer.specs.declared.request.SessionId.{SessionId}
use Rattle.vp_answer.specs.declared.reply.Refusal.TheVariants as refusal
use Rattle.vp_answer.specs.declared.reply.Reply.{Reply}
use Rattle.vp_answer.specs.declared.reply.Reply.TheVariants as reply
use Rattle.vp_answer.specs.Answers.{Response, respond}
use Rattle.vp_answer.specs.Renumbering as under
use Rattle.vp_answer.specs.laws.Renumbering.{respond_under}
use Rattle.vp_world.specs.History.{observer_at, asked, asked_at, change_of, changed_by, closed_at, ended_for, goal_after, halted, next_session, opened_by, outcome_of_put, response_of, segments_of_put, state_asked, stepped, with_booked, with_response}
use Rattle.vp_answer.specs.OpenSessions.{OpenSessionState, index_of, notified_session, same_session, without_user}
use Rattle.vp_world.specs.Worlds.{State}
use Rattle.vp_replay.specs.declared.item.OwnEvent.{OwnEvent}
use Rattle.vp_replay.specs.declared.item.OwnEvent.TheVariants.{Asks, Closes, Opens}
use Rattle.vp_replay.specs.Parts.{Part, observer_of_part, opens_after, races_after, reply_of, response_in, sessions_after, with_answer}
use Rattle.vp_audit.specs.Projections.{own_if}
use Rattle.vp_replay.specs.Seen.{observer_seen}
use Rattle.vp_audit.specs.laws.Alike.{IsKnown, seen_as}
use Rattle.vp_audit.specs.laws.After.{AreWatched, watched_kept}
use Rattle.vp_answer.proofs.Lists.{map_same}
use Rattle.vp_audit.specs.laws.Events.{AreSessions, IsPartOf, after_is, is_of, part_following, same_number, session_under, stepped_is}
use Rattle.vp_replay.specs.laws.Known.{by_index}
use Rattle.vp_replay.specs.laws.Looks.{first_passes}
use Rattle.vp_replay.specs.laws.Sessions.{apart_remove, apart_set, stands_from, user_kept}
use Rattle.vp_audit.specs.laws.Sims.{Changes, put_changes}
use Rattle.vp_answer.specs.laws.Tests.{both_first}

-- ---- lists

-- what all have, but for one that is exchanged
all_set : {X : Type 0} (P : X → Type 0) (xs : List X) (i : ℕ) (x : X) → All P xs → P x → All P (slice_set xs i x)
all_set P [] i x h px = h
all_set P (y ∷ xs) zero x h px = All-cons P x xs px (λ k d l. h (suc k) d (omega arith))
all_set P (y ∷ xs) (suc i) x h px = All-cons P y (slice_set xs i x) (h 0 y (omega arith)) (all_set P xs i x (λ k d l. h (suc k) d (omega arith)) px)

-- or taken out
all_remove : {X : Type 0} (P : X → Type 0) (xs : List X) (i : ℕ) → All P xs → All P (remove xs i)
all_remove P [] zero h = h
all_remove P [] (suc i) h = h
all_remove P (y ∷ xs) zero h = λ k d l. h (suc k) d (omega arith)
all_remove P (y ∷ xs) (suc i) h = All-cons P y (remove xs i) (h 0 y (omega arith)) (all_remove P xs i (λ k d l. h (suc k) d (omega arith)))

-- what one of them has
all_get : {X : Type 0} (P : X → Type 0) (xs : List X) (i : ℕ) (x : X) → All P xs → slice_get xs i ≡ Some x → P x
all_get P [] i x h at = absurd (cc)
all_get P (y ∷ xs) zero x h at = let same : y ≡ x = cc in subst P same (h 0 y (omega arith))
all_get P (y ∷ xs) (suc i) x h at = all_get P xs i x (λ k d l. h (suc k) d (omega arith)) at

-- where none passes a test, none of some does
none_of_some : {X : Type 0} (p q : X → Bool) (xs : List X) (o : ℕ) → position_from p o xs ≡ None → (i : ℕ) → position_from p i (filter q xs) ≡ None
none_of_some p q [] o e i = refl
none_of_some p q (x ∷ xs) o e i = by_test (p x) refl e (q x) refl (none_of_some p q xs (o + 1)) where
  by_test : (b : Bool) → p x ≡ b → cond b (Some o) (position_from p (o + 1) xs) ≡ None → (c : Bool) → q x ≡ c
      → (position_from p (o + 1) xs ≡ None → (i : ℕ) → position_from p i (filter q xs) ≡ None) → position_from p i (filter q (x ∷ xs)) ≡ None
  by_test true is e c there rest = absurd (cc)
  by_test false is e true there rest =
      ap (λ (b : Bool). position_from p i (if b then x ∷ filter q xs else filter q xs)) there
      ∙ ap (λ (b : Bool). cond b (Some i) (position_from p (i + 1) (filter q xs))) is ∙ rest e (i + 1)
  by_test false is e false there rest = ap (λ (b : Bool). position_from p i (if b then x ∷ filter q xs else filter q xs)) there ∙ rest e i

-- the first that passes a test, under a form that it does not see
position_form : {X Y : Type 0} (f : X → Y) (p : X → Bool) (q : Y → Bool) → ((x : X) → q (f x) ≡ p x) → (xs : List X) (i : ℕ) → position_from q i (map f xs) ≡ position_from p i xs
position_form f p q h [] i = refl
position_form f p q h (x ∷ xs) i =
    ap (λ (b : Bool). cond b (Some i) (position_from q (i + 1) (map f xs))) (h x) ∙ ap (λ n. cond (p x) (Some i) n) (position_form f p q h xs (i + 1))

-- the one that a form makes
formed : {X Y : Type 0} (f : X → Y) (x : Option X) (y : Y) → option_map f x ≡ Some y → (z : X) × (x ≡ Some z) × (f z ≡ y)
formed f None y e = absurd (cc)
formed f (Some z) y e = (z, refl, cc)

-- things that are there are the same
some_same : {X : Type 0} (x y : X) → Some x ≡ Some y → x ≡ y
some_same x y e = cc

-- ---- sessions by their names

-- a session of the name of a user's is his
same_own : (u : ℕ) (id : SessionId) → (id.user.0 == u) ≡ true → (t : OpenSessionState) → same_session t.id id ≡ true → is_of u t ≡ true
same_own u id own_event t e =
    let first = same_number t.id.user.0 id.user.0 (both_first (t.id.user.0 == id.user.0) (t.id.opens == id.opens) e) in
    ap (λ (n : ℕ). n == u) first ∙ own_event

-- and one of another's is not
same_other : (u : ℕ) (id : SessionId) → (id.user.0 == u) ≡ false → (t : OpenSessionState) → same_session t.id id ≡ true → is_of u t ≡ false
same_other u id other t e =
    let first = same_number t.id.user.0 id.user.0 (both_first (t.id.user.0 == id.user.0) (t.id.opens == id.opens) e) in
    ap (λ (n : ℕ). n == u) first ∙ other

-- where the session of a name stands in a part
part_position : (u : ℕ) (known : List Bool) (mine world : List OpenSessionState) → AreSessions u known mine world → (id : SessionId)
    → index_of mine id ≡ position (λ (t : OpenSessionState). same_session t.id id) (filter (is_of u) world)
part_position u known mine world are id =
    position_from-zero (λ (t : OpenSessionState). same_session t.id id) mine
    ∙ sym (position_form (session_under known) (λ (t : OpenSessionState). same_session t.id id) (λ (t : OpenSessionState). same_session t.id id) (λ t. refl) mine 0)
    ∙ ap (position_from (λ (t : OpenSessionState). same_session t.id id) 0) are
    ∙ sym (position_from-zero (λ (t : OpenSessionState). same_session t.id id) (filter (is_of u) world))

-- no session of a user's name is open: nor in his part
pub part_none : (u : ℕ) (known : List Bool) (mine world : List OpenSessionState) → AreSessions u known mine world → (id : SessionId) → index_of world id ≡ None → index_of mine id ≡ None
part_none u known mine world are id none =
    part_position u known mine world are id
    ∙ position_from-zero (λ (t : OpenSessionState). same_session t.id id) (filter (is_of u) world)
    ∙ none_of_some (λ (t : OpenSessionState). same_session t.id id) (is_of u) world 0 (sym (position_from-zero (λ (t : OpenSessionState). same_session t.id id) world) ∙ none) 0

-- one is open: it stands in his part, under the numbers of what he knows
pub record StandsIn (u : ℕ) (known : List Bool) (mine world : List OpenSessionState) (id : SessionId) (index : ℕ) : Type 0 where
  pub session : OpenSessionState
  pub there : slice_get world index ≡ Some session
  pub its_name : same_session session.id id ≡ true
  pub inner : ℕ
  pub found : index_of mine id ≡ Some inner
  pub his : OpenSessionState
  pub there_too : slice_get mine inner ≡ Some his
  pub is_under : session_under known his ≡ session
  pub exchanged : (y : OpenSessionState) → is_of u (session_under known y) ≡ true → AreSessions u known (slice_set mine inner y) (slice_set world index (session_under known y))
  pub removed : AreSessions u known (remove mine inner) (remove world index)

-- one that is taken out, under a form
map_remove : {X Y : Type 0} (f : X → Y) (xs : List X) (i : ℕ) → map f (remove xs i) ≡ remove (map f xs) i
map_remove f [] zero = refl
map_remove f [] (suc i) = refl
map_remove f (x ∷ xs) zero = refl
map_remove f (x ∷ xs) (suc i) = ap (λ ys. f x ∷ ys) (map_remove f xs i)

-- so it stands in his part
pub part_stands : (u : ℕ) (known : List Bool) (mine world : List OpenSessionState) → AreSessions u known mine world → (id : SessionId) → (id.user.0 == u) ≡ true → (index : ℕ)
    → index_of world id ≡ Some index → StandsIn u known mine world id index
part_stands u known mine world are id own_event index e =
    let s = stands_from (λ (t : OpenSessionState). same_session t.id id) (is_of u) (same_own u id own_event) world 0 index (sym (position_from-zero (λ (t : OpenSessionState). same_session t.id id) world) ∙ e) in
    let at : index ≡ s.index = let is = s.index_is in omega (arith, is) in
    let mapped = slice_get-map (session_under known) mine s.inner in
    let (his, his_at, his_is) = formed (session_under known) (slice_get mine s.inner) s.thing (sym mapped ∙ ap (λ ts. slice_get ts s.inner) are ∙ s.there_too) in
    record {
      session = s.thing;
      there = ap (slice_get world) at ∙ s.there;
      its_name = s.passes;
      inner = s.inner;
      found = part_position u known mine world are id ∙ position_from-zero (λ (t : OpenSessionState). same_session t.id id) (filter (is_of u) world)
          ∙ s.found 0 ∙ ap Some (let e0 : 0 + s.inner ≡ s.inner = omega arith in e0);
      his = his;
      there_too = his_at;
      is_under = his_is;
      exchanged = λ y passes.
          map-set (session_under known) mine s.inner y ∙ ap (λ ts. slice_set ts s.inner (session_under known y)) are
          ∙ sym (s.exchanged (session_under known y) passes) ∙ ap (λ (n : ℕ). filter (is_of u) (slice_set world n (session_under known y))) (sym at);
      removed = map_remove (session_under known) mine s.inner ∙ ap (λ ts. remove ts s.inner) are ∙ sym s.removed ∙ ap (λ (n : ℕ). filter (is_of u) (remove world n)) (sym at);
    }

-- ---- what a session is answered

-- what comes of a query of a session of a user's, and of his in his part
pub response_is : (design : Elaborated) (u : ℕ) (s : State) (known : List Bool) (p : Part) → IsPartOf design u s known p → (his : SessionState) → his.user ≡ u → (r : Query)
    → response_of s (under.session_state (by_index known) his) r ≡ under.response (by_index known) (respond (observer_of_part p) his r)
response_is design u s known p is his user r =
    let m = member_at s.policy.members u in
    let observation = seen_as s.run m known p.values s.book (subst (λ d. IsKnown d s.run.values m known p.values) (sym is.its_design) is.is_known) in
    let same : observer_of_part p ≡ observer_seen (known_view s.run.design m known) p.values s.run.time s.run.finished (races_seen s.run.design.tree m s.book) =
    ap (λ v. observer_seen v p.values p.time p.finished p.races) (is.view ∙ ap (λ d. known_view d m known) (sym is.its_design))
    ∙ ap (λ (n : ℕ). observer_seen (known_view s.run.design m known) p.values n p.finished p.races) is.time
    ∙ ap (λ b. observer_seen (known_view s.run.design m known) p.values s.run.time b p.races) is.finished
    ∙ ap (observer_seen (known_view s.run.design m known) p.values s.run.time s.run.finished) (is.races ∙ ap (λ (d : Elaborated). races_seen d.tree m s.book) (sym is.its_design)) in
    ap (λ (n : ℕ). respond (observer_with s.run (member_at s.policy.members n) s.book) (under.session_state (by_index known) his) r) user
    ∙ respond_under (by_index known) (observer_seen (known_view s.run.design m known) p.values s.run.time s.run.finished (races_seen s.run.design.tree m s.book)) (observer_with s.run m s.book) observation his r
    ∙ ap (λ e. under.response (by_index known) (respond e his r)) (sym same)

-- a put, or none, changes the values by its change alone
pub outcome_changes : (run : sim.State) (put : Option (ℕ × List Bit)) → Changes run.values (outcome_of_put run put)
outcome_changes run None = (refl, tt)
outcome_changes run (Some p) = put_changes run p.0 p.1

-- and leaves the design
pub outcome_leaves : (run : sim.State) (put : Option (ℕ × List Bit)) → Leaves run.design (outcome_of_put run put)
outcome_leaves run None = refl
outcome_leaves run (Some p) = put_leaves run p.0 p.1

-- an own event, and none
pub own_is : (u : ℕ) (id : SessionId) (own_event : OwnEvent) → (id.user.0 == u) ≡ true → own_if u id own_event ≡ Some own_event
own_is u id own_event e = ap (λ (b : Bool). if b then Some own_event else None) e

-- and of another's is not
pub own_not : (u : ℕ) (id : SessionId) (own_event : OwnEvent) → (id.user.0 == u) ≡ false → own_if u id own_event ≡ None
own_not u id own_event e = ap (λ (b : Bool). if b then Some own_event else None) e

-- ---- events

-- what of an event goes to a user comes to in his part: the part after it, and the reply
pub record ComesTo (design : Elaborated) (u : ℕ) (s t : State) (known : List Bool) (p : Part) (own_event : Option OwnEvent) (change : Option Change) (answered : Reply) (races : List ShownRace) : Type 0 where
  pub part : IsPartOf design u t known (part_following p design.tree (member_at s.policy.members u) known (option_map_or (opens_after p) own_event p.opens)
      (option_map_or (sessions_after p) own_event p.sessions) change t.run races)
  pub replied : option_map (λ (o : OwnEvent). answered) own_event ≡ option_map (reply_of p) own_event

-- a step
pub step_case : (design : Elaborated) (u : ℕ) (s : State) (known : List Bool) (p : Part) → IsPartOf design u s known p → (segments : sim.State → Segments) (o : sim.Outcome) → Changes s.run.values o
    → Leaves s.run.design o → (answered : Reply) → ComesTo design u s (stepped s segments o) known p None (change_of o) answered p.races
step_case design u s known p is segments o changes leaves answered =
    record {
      part = stepped_is design u s known p is s.goal p.opens p.sessions s.sessions segments o changes leaves is.sessions is.named is.watched is.opens;
      replied = refl;
    }

-- nothing
pub nothing_case : (design : Elaborated) (u : ℕ) (s : State) (known : List Bool) (p : Part) → IsPartOf design u s known p → (answered : Reply) → ComesTo design u s s known p None None answered p.races
nothing_case design u s known p is answered =
    record {
      part = after_is design u s known p is s None p.opens p.sessions s.sessions p.races refl is.its_design refl tt (sym (map_same (notified_session None s.run.time) (λ t. refl) s.sessions))
          is.sessions is.named is.watched refl is.opens is.races;
      replied = refl;
    }

-- a halt
pub halted_case : (design : Elaborated) (u : ℕ) (s : State) (known : List Bool) (p : Part) → IsPartOf design u s known p → (answered : Reply) → ComesTo design u (s) (halted s) known p None None answered p.races
halted_case design u s known p is answered =
    record {
      part = after_is design u s known p is (halted s) None p.opens p.sessions s.sessions p.races refl is.its_design refl tt (sym (map_same (notified_session None s.run.time) (λ t. refl) s.sessions))
          is.sessions is.named is.watched refl is.opens is.races;
      replied = refl;
    }

-- ---- ends of sessions

-- what all of some have, the others have without those of a user
all_others : (P : OpenSessionState → Type 0) (v : ℕ) (ts : List OpenSessionState) → All P ts → All P (without_user v ts)
all_others P v [] h = All-nil P
all_others P v (t ∷ ts) h = by_test (is_of v t) (all_others P v ts (λ k d l. h (suc k) d (omega arith))) where
  by_test : (b : Bool) → All P (without_user v ts) → All P (if not b then t ∷ without_user v ts else without_user v ts)
  by_test true rest = rest
  by_test false rest = All-cons P t (without_user v ts) (h 0 t (omega arith)) rest

-- of another's end a user's sessions know nothing
own_stay : (u v : ℕ) → (v == u) ≡ false → (ts : List OpenSessionState) → filter (is_of u) (without_user v ts) ≡ filter (is_of u) ts
own_stay u v other [] = refl
own_stay u v other (t ∷ ts) = by_test (is_of v t) refl (own_stay u v other ts) where
  by_test : (b : Bool) → is_of v t ≡ b → filter (is_of u) (without_user v ts) ≡ filter (is_of u) ts
      → filter (is_of u) (if not b then t ∷ without_user v ts else without_user v ts) ≡ filter (is_of u) (t ∷ ts)
  by_test true his rest =
      let same : t.id.user.0 ≡ v = same_number t.id.user.0 v his in
      let not_own : is_of u t ≡ false = ap (λ (n : ℕ). n == u) same ∙ other in
      rest ∙ sym (ap (λ (b : Bool). if b then t ∷ filter (is_of u) ts else filter (is_of u) ts) not_own)
  by_test false his rest = ap (λ ys. if is_of u t then t ∷ ys else ys) rest

-- after his own he has none
none_stay : (u : ℕ) (ts : List OpenSessionState) → filter (is_of u) (without_user u ts) ≡ []
none_stay u [] = refl
none_stay u (t ∷ ts) = by_test (is_of u t) refl (none_stay u ts) where
  by_test : (b : Bool) → is_of u t ≡ b → filter (is_of u) (without_user u ts) ≡ []
      → filter (is_of u) (if not b then t ∷ without_user u ts else without_user u ts) ≡ []
  by_test true his rest = rest
  by_test false his rest = ap (λ (b : Bool). if b then t ∷ filter (is_of u) (without_user u ts) else filter (is_of u) (without_user u ts)) his ∙ rest

-- an end of another's sessions
pub ended_other : (design : Elaborated) (u : ℕ) (s : State) (known : List Bool) (p : Part) → IsPartOf design u s known p → (v : ℕ) → (v == u) ≡ false → (answered : Reply)
    → ComesTo design u s (ended_for s v) known p None None answered p.races
ended_other design u s known p is v other answered =
    record {
      part = after_is design u s known p is (ended_for s v) None p.opens p.sessions (without_user v s.sessions) p.races refl is.its_design refl tt
          (sym (map_same (notified_session None s.run.time) (λ t. refl) (without_user v s.sessions))) (is.sessions ∙ sym (own_stay u v other s.sessions))
          (all_others (λ (t : OpenSessionState). t.session_state.user ≡ t.id.user.0) v s.sessions is.named) is.watched refl is.opens is.races;
      replied = refl;
    }

-- an end of his own
pub ended_own : (design : Elaborated) (u : ℕ) (s : State) (known : List Bool) (p : Part) → IsPartOf design u s known p → IsPartOf design u (ended_for s u) known (record p { sessions = [] })
ended_own design u s known p is =
    record {
      its_design = is.its_design;
      its_tree = is.its_tree;
      many = is.many;
      view = is.view;
      is_known = is.is_known;
      counts = is.counts;
      opens = is.opens;
      sessions = sym (none_stay u s.sessions);
      named = all_others (λ (t : OpenSessionState). t.session_state.user ≡ t.id.user.0) u s.sessions is.named;
      watched = All-nil _;
      time = is.time;
      finished = is.finished;
      races = is.races;
    }

-- a query of a user's open session
pub asked_own : (design : Elaborated) (u : ℕ) (s : State) (known : List Bool) (p : Part) → IsPartOf design u s known p → (id : SessionId) (r : Query) → (id.user.0 == u) ≡ true → (index : ℕ)
    → index_of s.sessions id ≡ Some index
    → ComesTo design u s (asked_at s (Some index) r) known p (Some (Asks id r)) (changed_by s (slice_get s.sessions index) r) (asked s (slice_get s.sessions index) r) p.races
asked_own design u s known p is id r own_event index at =
    let i = part_stands u known p.sessions s.sessions is.sessions id own_event index at in
    let user : i.his.session_state.user ≡ u =
    ap (λ (t : OpenSessionState). t.session_state.user) i.is_under
    ∙ all_get (λ (t : OpenSessionState). t.session_state.user ≡ t.id.user.0) s.sessions index i.session is.named i.there
    ∙ same_number i.session.id.user.0 u (same_own u id own_event i.session i.its_name) in
    let mine = respond (observer_of_part p) i.his.session_state r in
    let session_states : i.session.session_state ≡ under.session_state (by_index known) i.his.session_state = ap (λ (t : OpenSessionState). t.session_state) (sym i.is_under) in
    let world : response_of s i.session.session_state r ≡ under.response (by_index known) mine =
    ap (λ x. response_of s x r) session_states ∙ response_is design u s known p is i.his.session_state user r in
    let given = under.response (by_index known) mine in
    let new : OpenSessionState = record { id = i.his.id; session_state = mine.session_state } in
    let named_new : given.session_state.user ≡ i.his.id.user.0 =
    user_kept (observer_of_part p) i.his.session_state r ∙ ap (λ (t : OpenSessionState). t.session_state.user) i.is_under
    ∙ all_get (λ (t : OpenSessionState). t.session_state.user ≡ t.id.user.0) s.sessions index i.session is.named i.there ∙ ap (λ (t : OpenSessionState). t.id.user.0) (sym i.is_under) in
    let stays = stepped_is design u s known p is (goal_after s.goal mine.goal) p.opens (slice_set p.sessions i.inner new) (slice_set s.sessions index (session_under known new))
    (segments_of_put s.segments given.put) (outcome_of_put s.run given.put) (outcome_changes s.run given.put) (outcome_leaves s.run given.put)
    (i.exchanged new (ap (λ (t : OpenSessionState). t.id.user.0 == u) i.is_under ∙ same_own u id own_event i.session i.its_name))
    (all_set (λ (t : OpenSessionState). t.session_state.user ≡ t.id.user.0) s.sessions index (session_under known new) is.named named_new)
    (all_set (λ (t : OpenSessionState). AreWatched p.view t.session_state.registry.callbacks) p.sessions i.inner new is.watched
    (watched_kept p.view p.values p.time p.finished p.races i.his.session_state r
    (all_get (λ (t : OpenSessionState). AreWatched p.view t.session_state.registry.callbacks) p.sessions i.inner i.his is.watched i.there_too)))
    is.opens in
    let ids : i.his.id ≡ i.session.id = ap (λ (t : OpenSessionState). t.id) i.is_under in
    let after_world : asked_at s (Some index) r ≡ with_response s index i.his given =
    ap (λ x. state_asked s index x r) i.there ∙ ap (with_response s index i.session) world
    ∙ ap (λ (n : SessionId). stepped (record s { sessions = slice_set s.sessions index (record { id = n; session_state = given.session_state }); goal = goal_after s.goal given.goal })
    (segments_of_put s.segments given.put) (outcome_of_put s.run given.put)) (sym ids) in
    let change_is : changed_by s (slice_get s.sessions index) r ≡ change_of (outcome_of_put s.run given.put) =
    ap (λ x. changed_by s x r) i.there ∙ ap (λ (g : Response). change_of (outcome_of_put s.run g.put)) world in
    let mine_is : sessions_after p (Asks id r) ≡ slice_set p.sessions i.inner new =
    ap (λ n. option_map_or (λ k. with_answer p.sessions k (slice_get p.sessions k) (response_in p (slice_get p.sessions k) r)) n p.sessions) i.found
    ∙ ap (λ x. with_answer p.sessions i.inner x (response_in p x r)) i.there_too in
    let reply_is : reply_of p (Asks id r) ≡ mine.reply =
    ap (λ n. option_map_or (λ (g : Response). g.reply) (response_in p (option_and_then (slice_get p.sessions) n) r) (reply.Error refusal.NotOpen)) i.found
    ∙ ap (λ x. option_map_or (λ (g : Response). g.reply) (response_in p x r) (reply.Error refusal.NotOpen)) i.there_too in
    record {
      part =
          subst (λ (t : State). IsPartOf design u t known (part_following p design.tree (member_at s.policy.members u) known p.opens (sessions_after p (Asks id r))
          (changed_by s (slice_get s.sessions index) r) t.run p.races)) (sym after_world)
          (subst (λ c. IsPartOf design u (with_response s index i.his given) known (part_following p design.tree (member_at s.policy.members u) known p.opens (sessions_after p (Asks id r)) c
          (with_response s index i.his given).run p.races)) (sym change_is)
          (subst (λ ts. IsPartOf design u (with_response s index i.his given) known (part_following p design.tree (member_at s.policy.members u) known p.opens ts
          (change_of (outcome_of_put s.run given.put)) (with_response s index i.his given).run p.races)) (sym mine_is) stays));
      replied = ap Some (ap (λ x. asked s x r) i.there ∙ ap (λ (g : Response). g.reply) world ∙ sym reply_is);
    }

-- a query of a session of another's
pub asked_other : (design : Elaborated) (u : ℕ) (s : State) (known : List Bool) (p : Part) → IsPartOf design u s known p → (id : SessionId) (r : Query) → (id.user.0 == u) ≡ false → (index : ℕ)
    → index_of s.sessions id ≡ Some index → (session : Option OpenSessionState) → slice_get s.sessions index ≡ session → (answered : Reply)
    → ComesTo design u s (state_asked s index session r) known p None (changed_by s session r) answered p.races
asked_other design u s known p is id r other index at None there answered = nothing_case design u s known p is answered
asked_other design u s known p is id r other index at (Some session) there answered =
    let (t, t_at, t_is) = first_passes (λ (x : OpenSessionState). same_session x.id id) s.sessions index at in
    let same : session ≡ t = some_same session t (sym there ∙ t_at) in
    let not_his : is_of u session ≡ false = ap (is_of u) same ∙ same_other u id other t t_is in
    let given = response_of s session.session_state r in
    let new : OpenSessionState = record session { session_state = given.session_state } in
    record {
      part = stepped_is design u s known p is (goal_after s.goal given.goal) p.opens p.sessions (slice_set s.sessions index new) (segments_of_put s.segments given.put)
          (outcome_of_put s.run given.put) (outcome_changes s.run given.put) (outcome_leaves s.run given.put)
          (is.sessions ∙ sym (apart_set (is_of u) s.sessions index session new there not_his not_his))
          (all_set (λ (x : OpenSessionState). x.session_state.user ≡ x.id.user.0) s.sessions index new is.named
          (user_kept (observer_at s (member_at s.policy.members session.session_state.user)) session.session_state r ∙ all_get (λ (x : OpenSessionState). x.session_state.user ≡ x.id.user.0) s.sessions index session is.named there))
          is.watched is.opens;
      replied = refl;
    }

-- ---- closings

-- a session of his is closed
pub closed_own : (design : Elaborated) (u : ℕ) (s : State) (known : List Bool) (p : Part) → IsPartOf design u s known p → (id : SessionId) → (id.user.0 == u) ≡ true → (index : ℕ)
    → index_of s.sessions id ≡ Some index → ComesTo design u s (closed_at s (Some index)) known p (Some (Closes id)) None reply.Done p.races
closed_own design u s known p is id own_event index at =
    let i = part_stands u known p.sessions s.sessions is.sessions id own_event index at in
    let t = closed_at s (Some index) in
    let stays = after_is design u s known p is t None p.opens (remove p.sessions i.inner) (remove s.sessions index) p.races refl is.its_design refl tt
    (sym (map_same (notified_session None s.run.time) (λ x. refl) (remove s.sessions index))) i.removed
    (all_remove (λ (x : OpenSessionState). x.session_state.user ≡ x.id.user.0) s.sessions index is.named)
    (all_remove (λ (x : OpenSessionState). AreWatched p.view x.session_state.registry.callbacks) p.sessions i.inner is.watched) refl is.opens is.races in
    record {
      part = subst (λ ts. IsPartOf design u t known (part_following p design.tree (member_at s.policy.members u) known p.opens ts None t.run p.races))
          (sym (ap (λ n. option_map_or (remove p.sessions) n p.sessions) i.found)) stays;
      replied = refl;
    }

-- one of another's is
pub closed_other : (design : Elaborated) (u : ℕ) (s : State) (known : List Bool) (p : Part) → IsPartOf design u s known p → (id : SessionId) → (id.user.0 == u) ≡ false → (index : ℕ)
    → index_of s.sessions id ≡ Some index → ComesTo design u s (closed_at s (Some index)) known p None None reply.Done p.races
closed_other design u s known p is id other index at =
    let (x, x_at, x_is) = first_passes (λ (y : OpenSessionState). same_session y.id id) s.sessions index at in
    let t = closed_at s (Some index) in
    record {
      part = after_is design u s known p is t None p.opens p.sessions (remove s.sessions index) p.races refl is.its_design refl tt
          (sym (map_same (notified_session None s.run.time) (λ y. refl) (remove s.sessions index)))
          (is.sessions ∙ sym (apart_remove (is_of u) s.sessions index x x_at (same_other u id other x x_is)))
          (all_remove (λ (y : OpenSessionState). y.session_state.user ≡ y.id.user.0) s.sessions index is.named) is.watched refl is.opens is.races;
      replied = refl;
    }

-- ---- openings

-- a number that is set
index_set : (xs : List ℕ) (i x : ℕ) → i < length xs → slice_index (slice_set xs i x) i ≡ x
index_set [] i x l = absurd (omega arith)
index_set (y ∷ xs) zero x l = refl
index_set (y ∷ xs) (suc i) x l = index_set xs i x (omega arith)

-- another stays
index_kept : (xs : List ℕ) (i j x : ℕ) → (j ≡ i → ⊥) → slice_index (slice_set xs i x) j ≡ slice_index xs j
index_kept [] i j x n = refl
index_kept (y ∷ xs) zero zero x n = absurd (n refl)
index_kept (y ∷ xs) zero (suc j) x n = refl
index_kept (y ∷ xs) (suc i) zero x n = refl
index_kept (y ∷ xs) (suc i) (suc j) x n = index_kept xs i j x (λ e. n (ap suc e))

-- numbers that a test finds different
differ_number : (a b : ℕ) → (a == b) ≡ false → b ≡ a → ⊥
differ_number a b e same = let self : (a == b) ≡ true = grind (arith, same) in absurd (cc)

-- the sessions with one more
opened_sessions : (u : ℕ) (known : List Bool) (mine world : List OpenSessionState) → AreSessions u known mine world → (y : OpenSessionState) → session_under known y ≡ y → (b : Bool) → is_of u y ≡ b
    → AreSessions u known (if b then mine ++ y ∷ [] else mine) (world ++ y ∷ [])
opened_sessions u known mine world are y same true his =
    map-append (session_under known) mine (y ∷ []) ∙ ap (λ ts. ts ++ session_under known y ∷ []) are ∙ ap (λ t. filter (is_of u) world ++ t ∷ []) same
    ∙ sym (filter-append (is_of u) world (y ∷ []) ∙ ap (λ (b : Bool). filter (is_of u) world ++ (if b then y ∷ [] else [])) his)
opened_sessions u known mine world are y same false his =
    are ∙ sym (append-nil (filter (is_of u) world)) ∙ sym (filter-append (is_of u) world (y ∷ []) ∙ ap (λ (b : Bool). filter (is_of u) world ++ (if b then y ∷ [] else [])) his)

-- what all have, and one more
all_more : {X : Type 0} (P : X → Type 0) (xs : List X) (x : X) → All P xs → P x → All P (xs ++ x ∷ [])
all_more P xs x h px = All-append P xs (x ∷ []) h (All-cons P x [] px (All-nil P))

-- he opens a session
pub opened_own : (design : Elaborated) (u : ℕ) (s : State) (known : List Bool) (p : Part) → IsPartOf design u s known p → u < length s.opens
    → ComesTo design u s (opened_by s u) known p (Some (Opens (next_session s u))) None (reply.Opened (next_session s u)) p.races
opened_own design u s known p is within =
    let t = opened_by s u in
    let new : OpenSessionState = record { id = next_session s u; session_state = new_session_state u } in
    let named : next_session s u ≡ record { user = record { 0 = u }; opens = p.opens + 1 } = ap (λ (n : ℕ). record { user = record { 0 = u }; opens = n + 1 }) (sym is.opens) in
    let self : (u == u) ≡ true = grind arith in
    let stays = after_is design u s known p is t None (p.opens + 1) (p.sessions ++ new ∷ []) (s.sessions ++ new ∷ []) p.races refl is.its_design refl tt
    (sym (map_same (notified_session None s.run.time) (λ x. refl) (s.sessions ++ new ∷ [])))
    (opened_sessions u known p.sessions s.sessions is.sessions new refl true self)
    (all_more (λ (x : OpenSessionState). x.session_state.user ≡ x.id.user.0) s.sessions new is.named refl)
    (all_more (λ (x : OpenSessionState). AreWatched p.view x.session_state.registry.callbacks) p.sessions new is.watched (All-nil _))
    (length-set s.opens u (slice_index s.opens u + 1))
    (ap (λ (n : ℕ). n + 1) is.opens ∙ sym (index_set s.opens u (slice_index s.opens u + 1) within)) is.races in
    record {
      part = subst (λ (n : SessionId). IsPartOf design u t known (part_following p design.tree (member_at s.policy.members u) known (p.opens + 1) (p.sessions ++ record { id = n; session_state = new_session_state u } ∷ []) None t.run p.races))
          named stays;
      replied = ap (λ n. Some (reply.Opened n)) named;
    }

-- another does
pub opened_other : (design : Elaborated) (u : ℕ) (s : State) (known : List Bool) (p : Part) → IsPartOf design u s known p → (v : ℕ) → (v == u) ≡ false → (answered : Reply)
    → ComesTo design u s (opened_by s v) known p None None answered p.races
opened_other design u s known p is v other answered =
    let t = opened_by s v in
    let new : OpenSessionState = record { id = next_session s v; session_state = new_session_state v } in
    record {
      part = after_is design u s known p is t None p.opens p.sessions (s.sessions ++ new ∷ []) p.races refl is.its_design refl tt
          (sym (map_same (notified_session None s.run.time) (λ x. refl) (s.sessions ++ new ∷ [])))
          (opened_sessions u known p.sessions s.sessions is.sessions new refl false other)
          (all_more (λ (x : OpenSessionState). x.session_state.user ≡ x.id.user.0) s.sessions new is.named refl) is.watched
          (length-set s.opens v (slice_index s.opens v + 1))
          (is.opens ∙ sym (index_kept s.opens v u (slice_index s.opens v + 1) (differ_number v u other))) is.races;
      replied = refl;
    }

-- ---- bookings

-- a race is booked
pub booked_case : (design : Elaborated) (u : ℕ) (s : State) (known : List Bool) (p : Part) → IsPartOf design u s known p → (finding : FindingState) (answered : Reply)
    → ComesTo design u s (with_booked s finding) known p None None answered
    (races_after p.races (if is_shown design.tree (member_at s.policy.members u) finding then Some (race_seen design.tree (member_at s.policy.members u) finding) else None))
booked_case design u s known p is finding answered =
    let m = member_at s.policy.members u in
    let t = with_booked s finding in
    record {
      part = after_is design u s known p is t None p.opens p.sessions s.sessions (races_after p.races (if is_shown design.tree m finding then Some (race_seen design.tree m finding) else None))
          refl is.its_design refl tt (sym (map_same (notified_session None s.run.time) (λ x. refl) s.sessions)) is.sessions is.named is.watched refl is.opens
          (by_test (is_shown design.tree m finding) refl);
      replied = refl;
    }
  where
    by_test : (b : Bool) → is_shown design.tree (member_at s.policy.members u) finding ≡ b
        → races_after p.races (if is_shown design.tree (member_at s.policy.members u) finding then Some (race_seen design.tree (member_at s.policy.members u) finding) else None)
        ≡ races_seen design.tree (member_at s.policy.members u) (s.book ++ finding ∷ [])
    by_test b e =
        let m = member_at s.policy.members u in
        ap (λ (c : Bool). races_after p.races (if c then Some (race_seen design.tree m finding) else None)) e
        ∙ shown_test b ∙ sym (ap (map (race_seen design.tree m)) (filter-append (is_shown design.tree m) s.book (finding ∷ []) ∙ ap (λ (c : Bool). filter (is_shown design.tree m) s.book ++ (if c then finding ∷ [] else [])) e))
      where
        shown_test : (b : Bool) → races_after p.races (if b then Some (race_seen design.tree (member_at s.policy.members u) finding) else None)
            ≡ map (race_seen design.tree (member_at s.policy.members u)) (filter (is_shown design.tree (member_at s.policy.members u)) s.book ++ (if b then finding ∷ [] else []))
        shown_test true = ap (λ rs. rs ++ race_seen design.tree (member_at s.policy.members u) finding ∷ []) is.races
            ∙ sym (map-append (race_seen design.tree (member_at s.policy.members u)) (filter (is_shown design.tree (member_at s.policy.members u)) s.book) (finding ∷ []))
        shown_test false = is.races ∙ ap (map (race_seen design.tree (member_at s.policy.members u))) (sym (append-nil (filter (is_shown design.tree (member_at s.policy.members u)) s.book)))

-- Objects that may be watched, while callbacks come and go.
use Rattle.std.proofs.Common.{◌≡◌, ◌∙◌, ◌<◌, ◌==◌, ℕ, zero, suc, not, ◌||◌, Bool, true, false, List, [], ◌∷◌, map, filter, length, Option, Some, None, refl, sym, ap}
use Rattle.std.specs.Prelude.{cond, if◌then◌else◌, slice_index_or, slice_set}
use Rattle.std.specs.List.{fold, list_any, remove}
use Rattle.std.proofs.lemmas.Bool.{eq-eqb, eqb-true}
use Rattle.vp_notify.specs.declared.notice.Notice.{Notice}
use Rattle.vp_notify.specs.declared.registry.Callback.{Callback}
use Rattle.vp_notify.specs.Registry.{RegistryState, due, is_on, notice_of, with_notice}
use Rattle.vp_policy.specs.PolicyState.{PolicyState}
use Rattle.vp_policy.specs.Users.{member_at}
use Rattle.vp_vpi.specs.Observers.{is_watch_denied}
use Rattle.vp_vpi.specs.SessionStates.{SessionState, retired}
use Rattle.vp_expr.specs.declared.change.Change.{Change}
use Rattle.vp_answer.specs.OpenSessions.{OpenSessionState, is_of, notified_session, retired_for, without_user}
use Rattle.vp_answer.specs.laws.Tests.{all_implied, all_index, all_kept, all_mapped, all_removed, all_set, both, both_first, both_second}
use Rattle.vp_world.specs.Marks.{all_marked, are_marked, is_marked, is_session_marked, is_watched, may_be_watched}

-- ---- one of two tests

first_of_two : (a b : Bool) → a ≡ true → (a || b) ≡ true
first_of_two a b h = ap (λ x. x || b) h

second_of_two : (a b : Bool) → b ≡ true → (a || b) ≡ true
second_of_two true b h = refl
second_of_two false b h = h

-- ---- marks

-- an object that is marked may be watched
pub marked_same : (watched : List Bool) (object : ℕ) → may_be_watched (slice_set watched object true) object ≡ true
marked_same [] object = refl
marked_same (w ∷ watched) zero = refl
marked_same (w ∷ watched) (suc object) = marked_same watched object

-- what may be watched still may where another mark is set, unless that is on it
set_keeps : (watched : List Bool) (object other : ℕ) (mark : Bool) → may_be_watched watched other ≡ true → (other ≡ object → mark ≡ true) → may_be_watched (slice_set watched object mark) other ≡ true
set_keeps [] object other mark may same = refl
set_keeps (w ∷ watched) zero zero mark may same = same refl
set_keeps (w ∷ watched) zero (suc other) mark may same = may
set_keeps (w ∷ watched) (suc object) zero mark may same = may
set_keeps (w ∷ watched) (suc object) (suc other) mark may same = set_keeps watched object other mark may (λ e. same (ap suc e))

-- a mark takes none away
pub mark_keeps : (watched : List Bool) (object other : ℕ) → may_be_watched watched other ≡ true → may_be_watched (slice_set watched object true) other ≡ true
mark_keeps watched object other may = set_keeps watched object other true may (λ e. refl)

-- ---- callbacks

-- callbacks that are marked stay so where more is
pub are_marked_more : (watched more : List Bool) (callbacks : List Callback) → ((object : ℕ) → may_be_watched watched object ≡ true → may_be_watched more object ≡ true) → are_marked watched callbacks ≡ true → are_marked more callbacks ≡ true
are_marked_more watched more callbacks grown = all_implied (is_marked watched) (is_marked more) (λ c. grown c.object.0) callbacks

-- and so do those of open sessions
pub all_marked_more : (watched more : List Bool) (sessions : List OpenSessionState) → ((object : ℕ) → may_be_watched watched object ≡ true → may_be_watched more object ≡ true) → all_marked watched sessions ≡ true → all_marked more sessions ≡ true
all_marked_more watched more sessions grown =
    all_implied (is_session_marked watched) (is_session_marked more) (λ s. are_marked_more watched more s.session_state.registry.callbacks grown) sessions

-- where the mark of an object says whether it is watched, callbacks are marked
callbacks_marked : (watched : List Bool) (object : ℕ) (mark : Bool) (callbacks : List Callback) → are_marked watched callbacks ≡ true → (list_any (is_on object) callbacks ≡ true → mark ≡ true) → are_marked (slice_set watched object mark) callbacks ≡ true
callbacks_marked watched object mark [] marked says = refl
callbacks_marked watched object mark (c ∷ callbacks) marked says =
    both (is_marked (slice_set watched object mark) c) (are_marked (slice_set watched object mark) callbacks)
    (set_keeps watched object c.object.0 mark (both_first (is_marked watched c) (are_marked watched callbacks) marked)
    (λ e. says (first_of_two (is_on object c) (list_any (is_on object) callbacks) (eq-eqb c.object.0 object e))))
    (callbacks_marked watched object mark callbacks (both_second (is_marked watched c) (are_marked watched callbacks) marked)
    (λ any. says (second_of_two (is_on object c) (list_any (is_on object) callbacks) any)))

-- and so are those of open sessions
pub sessions_marked : (watched : List Bool) (object : ℕ) (mark : Bool) (sessions : List OpenSessionState) → all_marked watched sessions ≡ true → (is_watched sessions object ≡ true → mark ≡ true) → all_marked (slice_set watched object mark) sessions ≡ true
sessions_marked watched object mark [] marked says = refl
sessions_marked watched object mark (s ∷ sessions) marked says =
    let own = s.session_state.registry.callbacks in
    both (are_marked (slice_set watched object mark) own) (all_marked (slice_set watched object mark) sessions)
    (callbacks_marked watched object mark own (both_first (are_marked watched own) (all_marked watched sessions) marked)
    (λ any. says (first_of_two (list_any (is_on object) own) (is_watched sessions object) any)))
    (sessions_marked watched object mark sessions (both_second (are_marked watched own) (all_marked watched sessions) marked)
    (λ any. says (second_of_two (list_any (is_on object) own) (is_watched sessions object) any)))

-- ---- open sessions

-- one less
pub marked_without : (watched : List Bool) (sessions : List OpenSessionState) (index : ℕ) → all_marked watched sessions ≡ true → all_marked watched (remove sessions index) ≡ true
marked_without watched sessions index = all_removed (is_session_marked watched) sessions index

-- those of a user less
pub marked_others : (watched : List Bool) (sessions : List OpenSessionState) (user : ℕ) → all_marked watched sessions ≡ true → all_marked watched (without_user user sessions) ≡ true
marked_others watched sessions user = all_kept (is_session_marked watched) (λ s. not (is_of user s)) sessions

-- another at an index
pub marked_set : (watched : List Bool) (sessions : List OpenSessionState) (index : ℕ) (s : OpenSessionState) → all_marked watched sessions ≡ true → is_session_marked watched s ≡ true → all_marked watched (slice_set sessions index s) ≡ true
marked_set watched sessions index s = all_set (is_session_marked watched) sessions index s

-- the session at an index
pub marked_at : (watched : List Bool) (sessions : List OpenSessionState) (index : ℕ) (s : OpenSessionState) → index < length sessions → s ≡ slice_index_or sessions index s → all_marked watched sessions ≡ true → is_session_marked watched s ≡ true
marked_at watched sessions index s within at marked =
    ap (is_session_marked watched) at ∙ all_index (is_session_marked watched) sessions index s marked within

-- ---- changes

notice_keeps : (r : RegistryState) (notice : Notice) (has_room : Bool) (more less : RegistryState) → more.callbacks ≡ r.callbacks → less.callbacks ≡ r.callbacks → (let x : RegistryState = if has_room then more else less in x.callbacks ≡ r.callbacks)
notice_keeps r notice true more less h k = h
notice_keeps r notice false more less h k = k

notices_keep : (r : RegistryState) (notices : List Notice) → (fold with_notice r notices).callbacks ≡ r.callbacks
notices_keep r [] = refl
notices_keep r (n ∷ notices) = notices_keep (with_notice r n) notices ∙ notice_keeps r n _ _ _ refl refl

-- a change leaves the callbacks
pub due_keeps : (r : RegistryState) (change : Option Change) (time : ℕ) → (due r change time).callbacks ≡ r.callbacks
due_keeps r None time = refl
due_keeps r (Some change) time = notices_keep r (map (notice_of change time) (filter (is_on change.object.0) r.callbacks))

-- and so their marks
pub notified_marked : (watched : List Bool) (change : Option Change) (time : ℕ) (sessions : List OpenSessionState) → all_marked watched sessions ≡ true → all_marked watched (map (notified_session change time) sessions) ≡ true
notified_marked watched change time sessions =
    all_mapped (is_session_marked watched) (is_session_marked watched) (notified_session change time)
    (λ s marked. ap (are_marked watched) (due_keeps s.session_state.registry change time) ∙ marked) sessions

-- a callback that is marked is not on an object that may not be watched
off_object : (watched : List Bool) (object : ℕ) (c : Callback) → may_be_watched watched object ≡ false → is_marked watched c ≡ true → (on : Bool) → is_on object c ≡ on → on ≡ false
off_object watched object c quiet marked false is = refl
off_object watched object c quiet marked true is =
    let same : c.object.0 ≡ object = eqb-true c.object.0 object is in
    sym marked ∙ ap (may_be_watched watched) same ∙ quiet

-- no callback is on an object that may not be watched
none_on : (watched : List Bool) (object : ℕ) (callbacks : List Callback) → may_be_watched watched object ≡ false → are_marked watched callbacks ≡ true → filter (is_on object) callbacks ≡ []
none_on watched object [] quiet marked = refl
none_on watched object (c ∷ callbacks) quiet marked =
    let rest = none_on watched object callbacks quiet (both_second (is_marked watched c) (are_marked watched callbacks) marked) in
    let off : is_on object c ≡ false =
    off_object watched object c quiet (both_first (is_marked watched c) (are_marked watched callbacks) marked) (is_on object c) refl in
    ap (λ b. cond b (c ∷ filter (is_on object) callbacks) (filter (is_on object) callbacks)) off ∙ rest

-- a change of such an object is reported to nobody
pub quiet_notified : (watched : List Bool) (change : Change) (time : ℕ) (sessions : List OpenSessionState) → may_be_watched watched change.object.0 ≡ false → all_marked watched sessions ≡ true → map (notified_session (Some change) time) sessions ≡ sessions
quiet_notified watched change time [] quiet marked = refl
quiet_notified watched change time (s ∷ sessions) quiet marked =
    let own = s.session_state.registry in
    let none = none_on watched change.object.0 own.callbacks quiet (both_first (are_marked watched own.callbacks) (all_marked watched sessions) marked) in
    let state : RegistryState → OpenSessionState = λ r. record { id = s.id; session_state = record s.session_state { registry = r } } in
    ap (λ cs. state (fold with_notice own (map (notice_of change time) cs)) ∷ map (notified_session (Some change) time) sessions) none
    ∙ ap (λ more. s ∷ more) (quiet_notified watched change time sessions quiet (both_second (are_marked watched own.callbacks) (all_marked watched sessions) marked))

-- out of one of two sessions callbacks are taken
retired_marked_by : (watched : List Bool) (gone : ℕ → Bool) (session_state : SessionState) (his : Bool) → are_marked watched session_state.registry.callbacks ≡ true
    → (let after : SessionState = (if his then retired gone session_state else session_state) in are_marked watched after.registry.callbacks ≡ true)
retired_marked_by watched gone session_state true marked = all_kept (is_marked watched) (λ c. not (gone c.object.0)) session_state.registry.callbacks marked
retired_marked_by watched gone session_state false marked = marked

-- open sessions after a change of what a user is granted
pub retired_marked : (watched : List Bool) (policy : PolicyState) (user : ℕ) (sessions : List OpenSessionState) → all_marked watched sessions ≡ true → all_marked watched (map (retired_for policy user) sessions) ≡ true
retired_marked watched policy user sessions =
    all_mapped (is_session_marked watched) (is_session_marked watched) (retired_for policy user)
    (λ s. retired_marked_by watched (is_watch_denied policy.tree (member_at policy.members user)) s.session_state (s.session_state.user == user)) sessions

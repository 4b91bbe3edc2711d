-- What a change comes to in a part.
use Rattle.std.proofs.Common.{◌≡◌, ℕ, zero, suc, ◌+◌, ◌-◌, ◌<◌, Bool, false, true, List, [], ◌∷◌, ◌++◌, length, Option, Some, None, refl, ap, sym, subst, ◌∙◌, arith, inl, inr}
use Rattle.std.specs.Prelude.{◌==◌, ◌||◌, ◌^◌, min, filter, fold, if◌then◌else◌, is_none, map, not, nat_lt, option_map, slice_get, slice_index_or, slice_set, Result, Ok, Err}
use Rattle.std.specs.List.{All}
use Rattle.std.proofs.lemmas.Bool.{cases_eq}
use Rattle.std.proofs.lemmas.List.Elements.{All-append, All-cons}
use Rattle.vp_bits.specs.declared.bit.Bit.{Bit}
use Rattle.vp_bits.specs.declared.bit.Bit.TheVariants.{Unknown}
use Rattle.vp_pragma.specs.declared.rights.Right.{Right}
use Rattle.vp_pragma.specs.declared.rights.Right.TheVariants as right
use Rattle.vp_elab.specs.Built.{Elaborated}
use Rattle.vp_policy.specs.Denials.{DenialText}
use Rattle.vp_policy.specs.Filter.{denial_at, words_of}
use Rattle.vp_policy.specs.Users.{Member}
use Rattle.vp_policy.specs.View.{View, known_view}
use Rattle.vp_notify.specs.declared.registry.Callback.{Callback}
use Rattle.vp_notify.specs.declared.notice.Notice.{Notice}
use Rattle.vp_notify.specs.Registry as registry
use Rattle.vp_expr.specs.declared.change.Change.{Change}
use Rattle.vp_expr.specs.Changes.{values_with}
use Rattle.vp_vpi.specs.declared.error.VpiError.{VpiError}
use Rattle.vp_vpi.specs.declared.error.VpiError.TheVariants as vpi
use Rattle.vp_vpi.specs.Calls.{allowed, handle_of, is_watchable, iterated, number_of, or_refusal, put_of, race_of, same_of, text_of, then_by, undenied, value_of, watchable_of, watched_of}
use Rattle.vp_vpi.specs.declared.races.ShownRace.{ShownRace}
use Rattle.vp_vpi.specs.Observers.{Observer, is_readable}
use Rattle.vp_vpi.specs.SessionStates.{SessionState, object_of, with_due, without_callback}
use Rattle.vp_answer.specs.declared.query.Query.{Query}
use Rattle.vp_answer.specs.declared.query.Query.TheVariants as query
use Rattle.vp_answer.specs.declared.reply.Reply.TheVariants as reply
use Rattle.vp_answer.specs.Answers.{Response, freed, made, only_told, putting, refused, respond, response_by, scanned, value_in, watching}
use Rattle.vp_answer.specs.Renumbering as under
use Rattle.vp_answer.specs.laws.Renumbering.{due_under}
use Rattle.vp_replay.specs.Known.{known_index}
use Rattle.vp_replay.specs.Parts.{values_after}
use Rattle.vp_audit.specs.Projections.{change_seen, is_followed, number_in}
use Rattle.vp_replay.specs.Seen.{denied_seen, kind_seen, observer_seen}
use Rattle.vp_audit.specs.laws.Alike.{AreValues}
use Rattle.vp_replay.specs.laws.Known.{by_index}
use Rattle.vp_replay.specs.laws.Looks.{filter_mapped}
use Rattle.vp_replay.specs.laws.Names.{filter_all}
use Rattle.vp_audit.specs.laws.Sims.{IsWithin}

-- ---- numbers

-- the number of what stands in the place of a number
pub index_number : (known : List Bool) (k : ℕ) → known_index known k < length known → number_in known (known_index known k) ≡ Some k
index_number [] k l = absurd (omega arith)
index_number (true ∷ known) zero l = refl
index_number (true ∷ known) (suc k) l = ap (option_map suc) (index_number known k (omega arith))
index_number (false ∷ known) k l = index_number known k (omega arith)

-- the index of the next
next_index : (known : List Bool) (o k : ℕ) (n : Option ℕ) → number_in known o ≡ n → option_map suc n ≡ Some k → ((j : ℕ) → number_in known o ≡ Some j → known_index known j ≡ o)
    → known_index (true ∷ known) k ≡ suc o
next_index known o k None is f rest = absurd (cc)
next_index known o k (Some n) is f rest = let same : suc n ≡ k = cc in ap (known_index (true ∷ known)) (sym same) ∙ ap suc (rest n is)

-- and its index
pub number_index : (known : List Bool) (o k : ℕ) → number_in known o ≡ Some k → known_index known k ≡ o
number_index [] o k e = absurd (cc)
number_index (true ∷ known) zero k e = let same : 0 ≡ k = cc in ap (known_index (true ∷ known)) (sym same)
number_index (false ∷ known) zero k e = absurd (cc)
number_index (true ∷ known) (suc o) k e = next_index known o k (number_in known o) refl e (number_index known o)
number_index (false ∷ known) (suc o) k e = ap suc (number_index known o k e)

-- ---- lists

-- the item at an index that is set
get_same : {X : Type 0} (xs : List X) (k : ℕ) (x : X) → k < length xs → slice_get (slice_set xs k x) k ≡ Some x
get_same [] k x h = absurd (omega arith)
get_same (y ∷ xs) zero x h = refl
get_same (y ∷ xs) (suc k) x h = get_same xs k x (omega arith)

-- and at another
pub get_other : {X : Type 0} (xs : List X) (p k : ℕ) (x : X) → (k ≡ p → ⊥) → slice_get (slice_set xs p x) k ≡ slice_get xs k
get_other [] p k x h = refl
get_other (y ∷ ys) zero zero x h = absurd (h refl)
get_other (y ∷ ys) zero (suc k) x h = refl
get_other (y ∷ ys) (suc p) zero x h = refl
get_other (y ∷ ys) (suc p) (suc k) x h = get_other ys p k x (λ e. h (ap suc e))

-- the same by an index within
index_same : {X : Type 0} (xs : List X) (k : ℕ) (x d : X) → k < length xs → slice_index_or (slice_set xs k x) k d ≡ x
index_same [] k x d h = absurd (omega arith)
index_same (y ∷ xs) zero x d h = refl
index_same (y ∷ xs) (suc k) x d h = index_same xs k x d (omega arith)

-- and at another
index_other : {X : Type 0} (xs : List X) (p k : ℕ) (x d : X) → (k ≡ p → ⊥) → slice_index_or (slice_set xs p x) k d ≡ slice_index_or xs k d
index_other [] p k x d h = refl
index_other (y ∷ ys) zero zero x d h = absurd (h refl)
index_other (y ∷ ys) zero (suc k) x d h = refl
index_other (y ∷ ys) (suc p) zero x d h = refl
index_other (y ∷ ys) (suc p) (suc k) x d h = index_other ys p k x d (λ e. h (ap suc e))

-- an index with an item is within
within_some : {X : Type 0} (xs : List X) (k : ℕ) (x : X) → slice_get xs k ≡ Some x → k < length xs
within_some [] k x e = absurd (cc)
within_some (y ∷ xs) zero x e = omega arith
within_some (y ∷ xs) (suc k) x e = let rest = within_some xs k x e in omega (arith, rest)

-- what is none under another form is none
none_of : {A B : Type 0} (f : A → B) (x : Option A) → option_map f x ≡ None → is_none x ≡ true
none_of f None e = refl
none_of f (Some x) e = absurd (cc)

-- a change of the object in the place of another's number
same_change : (known : List Bool) (d c : Change) → known_index known d.object.0 ≡ c.object.0 → d.value ≡ c.value → under.change (by_index known) d ≡ c
same_change known d c at value =
    ap (λ (o : ℕ). record { object = record { 0 = o }; value = d.value }) at ∙ ap (λ (v : List Bit). record { object = c.object; value = v }) value

-- numbers that differ
not_same : (a b : ℕ) → (a ≡ b → ⊥) → (a == b) ≡ false
not_same a b h = grind (arith, h)

-- one of two tests holds
or_first : (a b : Bool) → a ≡ true → (a || b) ≡ true
or_first true b e = refl
or_first false b e = absurd (cc)

-- or the second
or_second : (a b : Bool) → b ≡ true → (a || b) ≡ true
or_second true b e = refl
or_second false b e = e

-- ---- changes that a user may follow

module _ (design : Elaborated) (u : Member) (known : List Bool) (long : length known ≡ length design.tree.nodes)
    (denied_is : (r : Right) (k : ℕ) → denied_seen (known_view design u known) r k ≡ option_map (words_of design.tree) (denial_at design.tree u r (known_index known k))) where
  -- a right that is not denied in the view is not denied
  none_denied : (r : Right) (k : ℕ) → denied_seen (known_view design u known) r k ≡ None → is_none (denial_at design.tree u r (known_index known k)) ≡ true
  none_denied r k e = none_of (words_of design.tree) (denial_at design.tree u r (known_index known k)) (sym (denied_is r k) ∙ e)

  -- the change of an object that may be read or watched goes to its user
  pub followed : (c : Change) (k : ℕ) → known_index known k ≡ c.object.0 → c.object.0 < length known → is_followed design.tree u c.object.0 ≡ true
      → change_seen design.tree u known (Some c) ≡ Some (record { object = record { 0 = k }; value = c.value })
  followed c k at l is =
      let number = ap (number_in known) (sym at) ∙ index_number known k (omega (arith, at, l)) in
      ap (option_map (λ (n : ℕ). record { object = record { 0 = n }; value = c.value }))
      (ap (λ (b : Bool). if b then number_in known c.object.0 else None) is ∙ number)

  -- what goes to him is the change of that object
  pub change_is : (c : Change) (d : Change) → change_seen design.tree u known (Some c) ≡ Some d → (known_index known d.object.0 ≡ c.object.0) × (d.value ≡ c.value)
  change_is c d e = by_test (is_followed design.tree u c.object.0) (number_in known c.object.0) refl e where
    by_number : (n : Option ℕ) → number_in known c.object.0 ≡ n → option_map (λ (k : ℕ). record { object = record { 0 = k }; value = c.value }) n ≡ Some d
        → (known_index known d.object.0 ≡ c.object.0) × (d.value ≡ c.value)
    by_number None is f = absurd (cc)
    by_number (Some k) is f =
        let same : record { object = record { 0 = k }; value = c.value } ≡ d = cc in
        (ap (λ (x : Change). known_index known x.object.0) (sym same) ∙ number_index known c.object.0 k is, ap (λ (x : Change). x.value) (sym same))

    by_test : (b : Bool) (n : Option ℕ) → number_in known c.object.0 ≡ n → option_map (λ (k : ℕ). record { object = record { 0 = k }; value = c.value }) (if b then n else None) ≡ Some d
        → (known_index known d.object.0 ≡ c.object.0) × (d.value ≡ c.value)
    by_test true n is f = by_number n is f
    by_test false n is f = absurd (cc)

  -- ---- values

  -- the values after a change are known, where those before it were
  pub values_kept : (all : List (List Bit)) (values : List (Option (List Bit))) → length all ≡ length design.tree.nodes → AreValues design all u known values
      → (c : Option Change) → IsWithin all c → AreValues design (values_with all c) u known (values_after values (change_seen design.tree u known c))
  values_kept all values many are None within = are
  values_kept all values many are (Some c) within = λ k open_to readable.
      elim (cases_eq (known_index known k) c.object.0) [
        | inl at ↦
            let before = are k open_to readable in
            let l : c.object.0 < length known = omega (arith, within, many, long) in
            let goes = followed c k at l
            (or_first (is_none (denial_at design.tree u right.Read c.object.0)) (is_none (denial_at design.tree u right.Watch c.object.0))
            (subst (λ (o : ℕ). is_none (denial_at design.tree u right.Read o) ≡ true) at (none_denied right.Read k open_to))) in
            ap (λ d. slice_get (values_after values d) k) goes
            ∙ get_same values k (Some c.value) (within_some values k _ before)
            ∙ ap (λ (v : List Bit). Some (Some v)) (sym (ap (λ (o : ℕ). slice_index_or (slice_set all c.object.0 c.value) o (Unknown ∷ [])) at ∙ index_same all c.object.0 c.value (Unknown ∷ []) within))
        | inr other ↦
            by_goes k open_to readable other (change_seen design.tree u known (Some c)) refl
      ]
    where
      by_goes : (k : ℕ) → denied_seen (known_view design u known) right.Read k ≡ None → is_readable (kind_seen (known_view design u known) k) ≡ true → (known_index known k ≡ c.object.0 → ⊥)
          → (d : Option Change) → change_seen design.tree u known (Some c) ≡ d
          → slice_get (values_after values (change_seen design.tree u known (Some c))) k ≡ Some (Some (slice_index_or (slice_set all c.object.0 c.value) (known_index known k) (Unknown ∷ [])))
      by_goes k open_to readable other None is =
          ap (λ d. slice_get (values_after values d) k) is ∙ are k open_to readable
          ∙ ap (λ (v : List Bit). Some (Some v)) (sym (index_other all c.object.0 (known_index known k) c.value (Unknown ∷ []) other))
      by_goes k open_to readable other (Some d) is =
          let (at, value) = change_is c d is in
          ap (λ x. slice_get (values_after values x) k) is
          ∙ get_other values d.object.0 k (Some d.value) (λ same. other (ap (known_index known) same ∙ at))
          ∙ are k open_to readable
          ∙ ap (λ (v : List Bit). Some (Some v)) (sym (index_other all c.object.0 (known_index known k) c.value (Unknown ∷ []) other))

  -- ---- notices

  -- no callback of a session is on an object that its user may not watch
  due_none : (r : registry.RegistryState) (c : Change) (time : ℕ) → filter (registry.is_on c.object.0) r.callbacks ≡ [] → registry.due r (Some c) time ≡ r
  due_none r c time none = ap (λ cs. fold registry.with_notice r (map (registry.notice_of c time) cs)) none

  -- nothing passes a test that nothing passes
  none_left : {X : Type 0} (p : X → Bool) (xs : List X) → All (λ x. p x ≡ false) xs → filter p xs ≡ []
  none_left p [] h = refl
  none_left p (x ∷ xs) h =
      ap (λ (b : Bool). if b then x ∷ filter p xs else filter p xs) (h 0 x (omega arith)) ∙ none_left p xs (λ k d l. h (suc k) d (omega arith))

  -- a change is due to a session as what goes to its user of it is due to his part of it
  pub due_same : (all : List (List Bit)) → length all ≡ length design.tree.nodes → (s : SessionState) (c : Option Change) (time : ℕ) → IsWithin all c
      → All (λ (b : Callback). denied_seen (known_view design u known) right.Watch b.object.0 ≡ None) s.registry.callbacks
      → with_due c time (under.session_state (by_index known) s) ≡ under.session_state (by_index known) (with_due (change_seen design.tree u known c) time s)
  due_same all many s None time within watched = due_under (by_index known) None time s
  due_same all many s (Some c) time within watched = by_goes (change_seen design.tree u known (Some c)) refl where
    not_on : change_seen design.tree u known (Some c) ≡ None → (b : Callback) → denied_seen (known_view design u known) right.Watch b.object.0 ≡ None
        → registry.is_on c.object.0 (under.callback (by_index known) b) ≡ false
    not_on gone b open_to =
        elim (cases_eq (known_index known b.object.0) c.object.0) [
          | inl at ↦
              let l : c.object.0 < length known = omega (arith, within, many, long) in
              let goes = followed c b.object.0 at l
              (or_second (is_none (denial_at design.tree u right.Read c.object.0)) (is_none (denial_at design.tree u right.Watch c.object.0))
              (subst (λ (o : ℕ). is_none (denial_at design.tree u right.Watch o) ≡ true) at (none_denied right.Watch b.object.0 open_to))) in
              absurd (cc)
          | inr other ↦ not_same (known_index known b.object.0) c.object.0 other
        ]

    by_goes : (d : Option Change) → change_seen design.tree u known (Some c) ≡ d
        → with_due (Some c) time (under.session_state (by_index known) s) ≡ under.session_state (by_index known) (with_due (change_seen design.tree u known (Some c)) time s)
    by_goes None is =
        let none = filter_mapped (under.callback (by_index known)) (registry.is_on c.object.0) s.registry.callbacks
        ∙ ap (map (under.callback (by_index known))) (none_left (λ b. registry.is_on c.object.0 (under.callback (by_index known) b)) s.registry.callbacks
        (λ k d l. not_on is (slice_index_or s.registry.callbacks k d) (watched k d l))) in
        ap (λ r. record { user = s.user; handles = map (under.handle (by_index known)) s.handles; registry = r })
        (due_none (under.registry (by_index known) s.registry) c time none)
        ∙ sym (ap (λ d. under.session_state (by_index known) (with_due d time s)) is)
    by_goes (Some d) is =
        let (at, value) = change_is c d is in
        let same = same_change known d c at value in
        ap (λ x. with_due x time (under.session_state (by_index known) s)) (ap Some (sym same))
        ∙ due_under (by_index known) (Some d) time s
        ∙ sym (ap (λ x. under.session_state (by_index known) (with_due x time s)) is)

-- ---- callbacks

-- callbacks on objects that may be watched
abbrev pub AreWatched : View → List Callback → Type 0
AreWatched v callbacks = All (λ (b : Callback). denied_seen v right.Watch b.object.0 ≡ None) callbacks

-- a change leaves the callbacks
due_callbacks : (r : registry.RegistryState) (c : Option Change) (time : ℕ) → (registry.due r c time).callbacks ≡ r.callbacks
due_callbacks r None time = refl
due_callbacks r (Some c) time = in_turn (map (registry.notice_of c time) (filter (registry.is_on c.object.0) r.callbacks)) r where
  one : (b : Bool) (q : registry.RegistryState) (t : Notice)
      → (if b then record q { waiting = q.waiting ++ t ∷ [] } else record q { lost = min (q.lost + 1) (2 ^ 64 - 1) }).callbacks ≡ q.callbacks
  one true q t = refl
  one false q t = refl

  in_turn : (ts : List Notice) (q : registry.RegistryState) → (fold registry.with_notice q ts).callbacks ≡ q.callbacks
  in_turn [] q = refl
  in_turn (t ∷ ts) q = in_turn ts (registry.with_notice q t) ∙ one (nat_lt (length q.waiting) 4096) q t

-- so they are on objects that may be watched after it
pub watched_due : (v : View) (c : Option Change) (time : ℕ) (s : SessionState) → AreWatched v s.registry.callbacks → AreWatched v (with_due c time s).registry.callbacks
watched_due v c time s h = subst (AreWatched v) (sym (due_callbacks s.registry c time)) h

-- an object on which a right is allowed
undenied_of : (o p : ℕ) (d : Option DenialText) → undenied o d ≡ Ok p → (d ≡ None) × (o ≡ p)
undenied_of o p None e = (refl, cc)
undenied_of o p (Some words) e = absurd (cc)

-- the same of the object of a handle
allowed_of : (observation : Observer) (r : Right) (found : Option ℕ) (o : ℕ) → allowed observation r found ≡ Ok o → observation.denied r o ≡ None
allowed_of observation r None o e = absurd (cc)
allowed_of observation r (Some p) o e = let both = undenied_of p o (observation.denied r p) e in subst (λ (q : ℕ). observation.denied r q ≡ None) both.1 both.0

-- what comes next of a value, where there is one
then_of : {A B : Type 0} (x : Result A VpiError) (next : A → Result B VpiError) (y : B) → then_by x next ≡ Ok y → (a : A) × (x ≡ Ok a) × (next a ≡ Ok y)
then_of (Ok a) next y e = (a, refl, e)
then_of (Err e0) next y e = absurd (cc)

-- where a test lets it
test_of : (b : Bool) (o p : ℕ) (e0 : VpiError) → (if b then Ok o else Err e0) ≡ Ok p → o ≡ p
test_of true o p e0 e = cc
test_of false o p e0 e = absurd (cc)

-- and where one does not refuse it
full_of : (b : Bool) (o p : ℕ) (e0 : VpiError) → (if b then Err e0 else Ok o) ≡ Ok p → o ≡ p
full_of true o p e0 e = absurd (cc)
full_of false o p e0 e = cc

-- a callback is registered on an object that may be watched
watched_object : (observation : Observer) (r : registry.RegistryState) (found : Option ℕ) (o : ℕ) → watched_of observation r found ≡ Ok o → observation.denied right.Watch o ≡ None
watched_object observation r found o e =
    let (a, first, last) = then_of (watchable_of observation found) (λ x. if registry.is_full r then Err vpi.TooManyCallbacks else Ok x) o e in
    let (b, allowed_is, kind) = then_of (allowed observation right.Watch found) (λ x. if is_watchable (observation.kind x) then Ok x else Err vpi.WrongKind) a first in
    subst (λ (q : ℕ). observation.denied right.Watch q ≡ None) (test_of (is_watchable (observation.kind b)) b a vpi.WrongKind kind ∙ full_of (registry.is_full r) a o vpi.TooManyCallbacks last)
    (allowed_of observation right.Watch found b allowed_is)

-- the callbacks of a session after a query are on objects that may be watched
abbrev KeepsWatched : (v : View) → SessionState → Response → Type 0
KeepsWatched v session_state given = AreWatched v given.session_state.registry.callbacks

-- an answer or a refusal keeps them so
watched_by : {A : Type 0} (v : View) (session_state : SessionState) → AreWatched v session_state.registry.callbacks → (given : A → Response) (due : Result A VpiError)
    → ((x : A) → due ≡ Ok x → KeepsWatched v session_state (given x)) → KeepsWatched v session_state (response_by session_state given due)
watched_by v session_state h given (Ok x) k = k x refl
watched_by v session_state h given (Err e) k = h

-- so each query does
pub watched_kept : (v : View) (values : List (Option (List Bit))) (time : ℕ) (finished : Bool) (races : List ShownRace) (session_state : SessionState) (r : Query)
    → AreWatched v session_state.registry.callbacks → KeepsWatched v session_state (respond (observer_seen v values time finished races) session_state r)
watched_kept v values time finished races session_state (query.Handle name scope) h =
    watched_by v session_state h (made session_state) (handle_of (observer_seen v values time finished races) session_state.handles scope name) (λ x e. h)
watched_kept v values time finished races session_state (query.Iterate k scope) h =
    watched_by v session_state h (scanned session_state) (iterated (observer_seen v values time finished races) session_state.handles k scope) (λ x e. h)
watched_kept v values time finished races session_state (query.Get handle n) h =
    watched_by v session_state h (λ x. only_told session_state (reply.Number x)) (number_of (observer_seen v values time finished races) n (object_of session_state.handles handle)) (λ x e. h)
watched_kept v values time finished races session_state (query.GetStr handle t) h =
    watched_by v session_state h (λ x. only_told session_state (reply.Text x)) (text_of (observer_seen v values time finished races) t (object_of session_state.handles handle)) (λ x e. h)
watched_kept v values time finished races session_state (query.Value handle f) h =
    watched_by v session_state h (λ x. only_told session_state (value_in f x)) (value_of (observer_seen v values time finished races) (object_of session_state.handles handle)) (λ x e. h)
watched_kept v values time finished races session_state (query.Put handle w) h =
    watched_by v session_state h (putting session_state) (put_of (observer_seen v values time finished races) w (object_of session_state.handles handle)) (λ x e. h)
watched_kept v values time finished races session_state (query.Compare a b) h =
    watched_by v session_state h (λ x. only_told session_state (reply.Same x)) (same_of (object_of session_state.handles a) (object_of session_state.handles b)) (λ x e. h)
watched_kept v values time finished races session_state (query.Free handle) h =
    watched_by v session_state h (λ o. freed session_state handle) (or_refusal (object_of session_state.handles handle) vpi.BadHandle) (λ x e. h)
watched_kept v values time finished races session_state (query.Watch handle) h =
    watched_by v session_state h (watching session_state) (watched_of (observer_seen v values time finished races) session_state.registry (object_of session_state.handles handle))
    (λ o e.
    let new : Callback = record { number = session_state.registry.given + 1; object = record { 0 = o } } in
    let watch = λ (b : Callback). denied_seen v right.Watch b.object.0 ≡ None in
    All-append watch (filter (registry.is_by o) session_state.registry.callbacks) (new ∷ filter (registry.is_past_goal o) session_state.registry.callbacks)
    (filter_all watch (registry.is_by o) session_state.registry.callbacks h)
    (All-cons watch new (filter (registry.is_past_goal o) session_state.registry.callbacks)
    (watched_object (observer_seen v values time finished races) session_state.registry (object_of session_state.handles handle) o e)
    (filter_all watch (registry.is_past_goal o) session_state.registry.callbacks h)))
watched_kept v values time finished races session_state (query.Unwatch callback) h =
    by_test (registry.has_number session_state.registry callback)
  where
    by_test : (b : Bool) → (let r : Response = if b then only_told (without_callback callback session_state) reply.Done else only_told session_state (refused vpi.NoSuchCallback) in KeepsWatched v session_state r)
    by_test true = filter_all (λ (b : Callback). denied_seen v right.Watch b.object.0 ≡ None) (λ b. not (registry.is_numbered callback b)) session_state.registry.callbacks h
    by_test false = h
watched_kept v values time finished races session_state query.Poll h = h
watched_kept v values time finished races session_state (query.Races from) h = h
watched_kept v values time finished races session_state (query.Race number) h =
    watched_by v session_state h (λ x. only_told session_state (reply.Race x)) (race_of (observer_seen v values time finished races) number) (λ x e. h)
watched_kept v values time finished races session_state (query.Run until) h = h
watched_kept v values time finished races session_state query.Stop h = h
watched_kept v values time finished races session_state query.Time h = h

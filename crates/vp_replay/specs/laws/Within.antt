-- The objects of a part's sessions are among those of its view.
use Rattle.std.proofs.Common.{◌≡◌, ◌∙◌, ℕ, zero, suc, ◌+◌, ◌-◌, ◌≤◌, Bool, true, false, List, [], ◌∷◌, ◌++◌, length, map, Option, Some, None, Result, Ok, Err, refl, ap, sym, subst, arith}
use Rattle.std.specs.Prelude.{◌&&◌, filter, if◌then◌else◌, nat_lt, not, option_and_then, option_map, slice_get, slice_index_or}
use Rattle.std.specs.List.{fold, list_all, position}
use Rattle.std.specs.Option.{option_flatten}
use Rattle.std.proofs.lemmas.List.Quantifiers.{position-Some}
use Rattle.vp_bits.specs.declared.bit.Bit.{Bit}
use Rattle.vp_text.specs.Texts.{parts}
use Rattle.vp_pragma.specs.declared.rights.Right.{Right}
use Rattle.vp_pragma.specs.declared.rights.Right.TheVariants as right
use Rattle.vp_elab.specs.declared.object.Kind.{Kind}
use Rattle.vp_elab.specs.declared.object.ObjectId.{ObjectId}
use Rattle.vp_elab.specs.Tree.{below}
use Rattle.vp_policy.specs.Denials.{DenialText}
use Rattle.vp_policy.specs.View.{View}
use Rattle.vp_expr.specs.declared.change.Change.{Change}
use Rattle.vp_notify.specs.declared.notice.Notice.{Notice}
use Rattle.vp_notify.specs.Registry.{RegistryState, due, has_number, is_past_goal, is_by, is_numbered, is_on, notice_of, registered, with_notice}
use Rattle.vp_notify.specs.Registry as registry
use Rattle.vp_notify.specs.Renumbered.{is_callback_within, is_notice_within, is_within, moved_callback, moved_notice, moved_registry}
use Rattle.vp_vpi.specs.declared.error.VpiError.{VpiError}
use Rattle.vp_vpi.specs.declared.error.VpiError.TheVariants as error
use Rattle.vp_vpi.specs.declared.races.ShownRace.{ShownRace}
use Rattle.vp_vpi.specs.Calls.{Iterated, allowed, handle_of, is_of, is_watchable, iterated, iteration, iteration_in_room, listed_of, object_found, or_refusal, put_of, scope_of, then_by, undenied, watchable_of, watched_of}
use Rattle.vp_vpi.specs.Observers.{Absent, Denied, Found, Lookup, Observer}
use Rattle.vp_vpi.specs.Renumbered.{is_handle_within, is_session_state_within, moved_handle, moved_session_state}
use Rattle.vp_vpi.specs.SessionStates.{SessionState, handle_to, has_room, is_full, object_of, retired, with_due}
use Rattle.vp_answer.specs.declared.query.Query.{Query}
use Rattle.vp_answer.specs.declared.query.Query.TheVariants as query
use Rattle.vp_answer.specs.declared.reply.Reply.{Reply}
use Rattle.vp_answer.specs.Answers.{freed, made, only_told, putting, respond, response_by, scanned, reply_with, watching}
use Rattle.vp_replay.specs.Seen.{children_seen, closed_seen, find_listed_seen, find_seen, from_seen, is_named_seen, listed_seen, observer_seen, scope_seen, unlisted_seen, walk_seen}
use Rattle.vp_replay.specs.Parts.{moved_to}
use Rattle.vp_answer.specs.laws.Tests.{all_index, all_join, all_kept, all_mapped, all_passing, all_set, both, both_first, both_second}

-- ---- what can be looked up

-- what is found is one of so many objects
abbrev IsFoundIn : (count : ℕ) → Lookup → Type 0
IsFoundIn n (Found o) = nat_lt o n ≡ true
IsFoundIn n (Denied words) = Unit {0}
IsFoundIn n Absent = Unit {0}

-- all objects that can be looked up are among so many
pub record IsOf (observation : Observer) (count : ℕ) : Type 0 where
  pub named : (scope : Option ℕ) (name : List ℕ) → IsFoundIn count (observation.named scope name)
  pub listed : (scope : Option ℕ) → list_all (λ o. nat_lt o count) (observation.listed scope) ≡ true

-- the first that passes a test is one of the list
position_within : {X : Type 0} (p : X → Bool) (xs : List X) (k : ℕ) → position p xs ≡ Some k → nat_lt k (length xs) ≡ true
position_within p [] k at = absurd (cc)
position_within p (x ∷ xs) k at = let l = (position-Some p (x ∷ xs) k x at).0 in grind (arith, l)

-- an object that is found in a view by its names
find_within : (v : View) (names : List (List ℕ)) (o : ℕ) → find_listed_seen v names ≡ Some o → nat_lt o (length v.nodes) ≡ true
find_within v names o e = by_found (find_seen v names) refl e where
  by_found : (x : Option ℕ) → find_seen v names ≡ x → option_and_then (λ k. if listed_seen v k then Some k else None) x ≡ Some o → nat_lt o (length v.nodes) ≡ true
  by_found None at f = absurd (cc)
  by_found (Some k) at f = by_listed (listed_seen v k) f where
    by_listed : (b : Bool) → (if b then Some k else None) ≡ Some o → nat_lt o (length v.nodes) ≡ true
    by_listed true g = let same : k ≡ o = cc in subst (λ (n : ℕ). nat_lt n (length v.nodes) ≡ true) same (position_within (λ node. is_named_seen names node.path) v.nodes k at)
    by_listed false g = absurd (cc)

-- a walk of names
walk_within : (v : View) (names : List (List ℕ)) (here : Lookup) (scope : Option ℕ) → IsFoundIn (length v.nodes) here → IsFoundIn (length v.nodes) (walk_seen v here scope names)
walk_within v [] here scope h = h
walk_within v (n ∷ names) here scope h = by_found (find_listed_seen v (scope_seen v scope ++ n ∷ [])) refl (λ o. walk_within v names (Found o) (Some o)) where
  unlisted : (closed : List ℕ) → IsFoundIn (length v.nodes) (unlisted_seen v closed)
  unlisted [] = tt
  unlisted (e ∷ es) = tt

  by_found : (x : Option ℕ) → find_listed_seen v (scope_seen v scope ++ n ∷ []) ≡ x
      → ((o : ℕ) → IsFoundIn (length v.nodes) (Found o) → IsFoundIn (length v.nodes) (walk_seen v (Found o) (Some o) names))
      → IsFoundIn (length v.nodes) (from_seen x (unlisted_seen v (closed_seen v scope)) (λ o. walk_seen v (Found o) (Some o) names))
  by_found None at next = unlisted (closed_seen v scope)
  by_found (Some o) at next = next o (find_within v (scope_seen v scope ++ n ∷ []) o at)

-- the numbers below one
below_within : (n m : ℕ) → n ≤ m → list_all (λ o. nat_lt o m) (below n) ≡ true
below_within zero m l = refl
below_within (suc n) m l =
    all_join (λ o. nat_lt o m) (below n) (n ∷ []) (below_within n m (omega (arith, l))) (both (nat_lt n m) true (grind (arith, l)) refl)

-- what can be looked up in a view
pub seen_within : (v : View) (values : List (Option (List Bit))) (time : ℕ) (finished : Bool) (races : List ShownRace) → IsOf (observer_seen v values time finished races) (length v.nodes)
seen_within v values time finished races = record {
  named = λ scope name. walk_within v (parts 46 name) Absent scope tt;
  listed = λ scope. all_kept (λ o. nat_lt o (length v.nodes)) (listed_seen v) (children_seen v scope)
      (all_kept (λ o. nat_lt o (length v.nodes)) _ (below (length v.nodes)) (below_within (length v.nodes) (length v.nodes) (omega arith)));
}

-- ---- callbacks and notices

module _ (n : ℕ) where
  -- callbacks and notices, each among so many
  registry_from : (r : RegistryState) → list_all (is_callback_within n) r.callbacks ≡ true → list_all (is_notice_within n) r.waiting ≡ true → is_within n r ≡ true
  registry_from r e f = both (list_all (is_callback_within n) r.callbacks) (list_all (is_notice_within n) r.waiting) e f

  registry_callbacks : (r : RegistryState) → is_within n r ≡ true → list_all (is_callback_within n) r.callbacks ≡ true
  registry_callbacks r h = both_first (list_all (is_callback_within n) r.callbacks) (list_all (is_notice_within n) r.waiting) h

  registry_notices : (r : RegistryState) → is_within n r ≡ true → list_all (is_notice_within n) r.waiting ≡ true
  registry_notices r h = both_second (list_all (is_callback_within n) r.callbacks) (list_all (is_notice_within n) r.waiting) h

  -- one notice more
  notice_more : (r : RegistryState) (t : Notice) → is_within n r ≡ true → is_notice_within n t ≡ true → is_within n (with_notice r t) ≡ true
  notice_more r t h within = by_room _ (nat_lt (length r.waiting) 4096) where
    by_room : (lost : ℕ) (b : Bool) → is_within n (if b then record r { waiting = r.waiting ++ t ∷ [] } else record r { lost = lost }) ≡ true
    by_room lost true =
        registry_from (record r { waiting = r.waiting ++ t ∷ [] }) (registry_callbacks r h)
        (all_join (is_notice_within n) r.waiting (t ∷ []) (registry_notices r h) (both (is_notice_within n t) true within refl))
    by_room lost false = h

  -- several
  notices_more : (ts : List Notice) (r : RegistryState) → list_all (is_notice_within n) ts ≡ true → is_within n r ≡ true → is_within n (fold with_notice r ts) ≡ true
  notices_more [] r e h = h
  notices_more (t ∷ ts) r e h =
      notices_more ts (with_notice r t) (both_second (is_notice_within n t) (list_all (is_notice_within n) ts) e)
      (notice_more r t h (both_first (is_notice_within n t) (list_all (is_notice_within n) ts) e))

  -- a change that is due
  due_within : (change : Option Change) (time : ℕ) (r : RegistryState) → is_within n r ≡ true → is_within n (due r change time) ≡ true
  due_within None time r h = h
  due_within (Some c) time r h =
      notices_more (map (notice_of c time) (filter (is_on c.object.0) r.callbacks)) r
      (all_mapped (λ k. is_callback_within n k && is_on c.object.0 k) (is_notice_within n) (notice_of c time)
      (λ k e.
      let within = both_first (is_callback_within n k) (is_on c.object.0 k) e in
      let on = both_second (is_callback_within n k) (is_on c.object.0 k) e in
      grind (arith, within, on)) (filter (is_on c.object.0) r.callbacks)
      (all_passing (is_callback_within n) (is_on c.object.0) r.callbacks (registry_callbacks r h))) h

  -- one callback more
  registered_within : (r : RegistryState) (o : ℕ) → is_within n r ≡ true → nat_lt o n ≡ true → is_within n (registered r o) ≡ true
  registered_within r o h within =
      registry_from (registered r o)
      (all_join (is_callback_within n) (filter (is_by o) r.callbacks) _ (all_kept (is_callback_within n) (is_by o) r.callbacks (registry_callbacks r h))
      (both (nat_lt o n) (list_all (is_callback_within n) (filter (is_past_goal o) r.callbacks)) within (all_kept (is_callback_within n) (is_past_goal o) r.callbacks (registry_callbacks r h))))
      (registry_notices r h)

  -- ---- sessions

  session_state_from : (s : SessionState) → list_all (is_handle_within n) s.handles ≡ true → is_within n s.registry ≡ true → is_session_state_within n s ≡ true
  session_state_from s e f = both (list_all (is_handle_within n) s.handles) (is_within n s.registry) e f

  session_state_handles : (s : SessionState) → is_session_state_within n s ≡ true → list_all (is_handle_within n) s.handles ≡ true
  session_state_handles s h = both_first (list_all (is_handle_within n) s.handles) (is_within n s.registry) h

  session_state_registry : (s : SessionState) → is_session_state_within n s ≡ true → is_within n s.registry ≡ true
  session_state_registry s h = both_second (list_all (is_handle_within n) s.handles) (is_within n s.registry) h

  -- a session to which a change is due
  pub session_state_due : (change : Option Change) (time : ℕ) (s : SessionState) → is_session_state_within n s ≡ true → is_session_state_within n (with_due change time s) ≡ true
  session_state_due change time s h = session_state_from (with_due change time s) (session_state_handles s h) (due_within change time s.registry (session_state_registry s h))

  -- a session out of which is taken what may not be watched any more
  pub session_state_retired : (gone : ℕ → Bool) (s : SessionState) → is_session_state_within n s ≡ true → is_session_state_within n (retired gone s) ≡ true
  session_state_retired gone s h =
      session_state_from (retired gone s) (session_state_handles s h)
      (registry_from (registry.retired gone s.registry)
      (all_kept (is_callback_within n) (λ c. not (gone c.object.0)) s.registry.callbacks (registry_callbacks s.registry (session_state_registry s h)))
      (all_kept (is_notice_within n) (λ t. not (gone t.object.0)) s.registry.waiting (registry_notices s.registry (session_state_registry s h))))

  -- ---- queries

  -- an object, if there is one, is one of so many
  abbrev IsSomeIn : Option ℕ → Type 0
  IsSomeIn None = Unit {0}
  IsSomeIn (Some o) = nat_lt o n ≡ true

  -- the same of one that a call answers
  abbrev IsOkIn : Result ℕ VpiError → Type 0
  IsOkIn (Ok o) = nat_lt o n ≡ true
  IsOkIn (Err e) = Unit {0}

  -- the same of the handles of an iteration
  abbrev AreOkIn : Result Iterated VpiError → Type 0
  AreOkIn (Ok found) = list_all (is_handle_within n) found.handles ≡ true
  AreOkIn (Err e) = Unit {0}

  -- the object of a handle
  object_in : (handles : List (Option ObjectId)) (handle : ℕ) → list_all (is_handle_within n) handles ≡ true → IsSomeIn (object_of handles handle)
  object_in handles zero e = tt
  object_in handles (suc k) e = by_index handles k e where
    by_index : (hs : List (Option ObjectId)) (k : ℕ) → list_all (is_handle_within n) hs ≡ true → IsSomeIn (option_map (λ (o : ObjectId). o.0) (option_flatten (slice_get hs k)))
    by_index [] k f = tt
    by_index (None ∷ hs) zero f = tt
    by_index (Some o ∷ hs) zero f = both_first (nat_lt o.0 n) (list_all (is_handle_within n) hs) f
    by_index (h ∷ hs) (suc k) f = by_index hs k (both_second (is_handle_within n h) (list_all (is_handle_within n) hs) f)

  module _ (observation : Observer) (is : IsOf observation n) where
    -- the object of a handle on which the user has a right
    allowed_in : (r : Right) (found : Option ℕ) → IsSomeIn found → IsOkIn (allowed observation r found)
    allowed_in r None h = tt
    allowed_in r (Some o) h = by_denied (observation.denied r o) where
      by_denied : (words : Option DenialText) → IsOkIn (undenied o words)
      by_denied None = h
      by_denied (Some words) = tt

    -- what is found under a name
    found_in : (handles : List (Option ObjectId)) (found : Lookup) → IsFoundIn n found → IsOkIn (object_found handles found)
    found_in handles (Denied words) h = tt
    found_in handles Absent h = by_room (is_full handles) where
      by_room : (b : Bool) → IsOkIn (if b then Err error.TooManyHandles else Err error.NoSuchName)
      by_room true = tt
      by_room false = tt
    found_in handles (Found o) h = by_room (is_full handles) where
      by_room : (b : Bool) → IsOkIn (if b then Err error.TooManyHandles else Ok o)
      by_room true = tt
      by_room false = h

    handle_in : (handles : List (Option ObjectId)) (scope : Option ℕ) (name : List ℕ) → IsOkIn (handle_of observation handles scope name)
    handle_in handles scope name = by_scope (scope_of observation handles scope) where
      by_scope : (above : Result (Option ℕ) VpiError) → IsOkIn (then_by above (λ s. object_found handles (observation.named s name)))
      by_scope (Ok s) = found_in handles (observation.named s name) (is.named s name)
      by_scope (Err e) = tt

    -- the handles of an iteration
    iterated_in : (handles : List (Option ObjectId)) (k : Kind) (scope : Option ℕ) → AreOkIn (iterated observation handles k scope)
    iterated_in handles k scope = by_scope (scope_of observation handles scope) where
      by_room : (s : Option ℕ) (objects : List ℕ) → list_all (λ o. nat_lt o n) objects ≡ true → (b : Bool) → has_room (length objects) handles ≡ b → AreOkIn (iteration_in_room observation handles s objects)
      by_room s objects all true is_room =
          subst (λ (b : Bool). AreOkIn (if b then Ok (iteration observation handles s objects) else Err error.TooManyHandles)) (sym is_room) (all_mapped (λ o. nat_lt o n) (is_handle_within n) handle_to (λ o h. h) objects all)
      by_room s objects all false is_room = subst (λ (b : Bool). AreOkIn (if b then Ok (iteration observation handles s objects) else Err error.TooManyHandles)) (sym is_room) tt

      by_scope : (above : Result (Option ℕ) VpiError) → AreOkIn (then_by above (λ s. iteration_in_room observation handles s (listed_of observation k s)))
      by_scope (Ok s) = by_room s (listed_of observation k s) (all_kept (λ o. nat_lt o n) (λ o. is_of k (observation.kind o)) (observation.listed s) (is.listed s)) (has_room (length (listed_of observation k s)) handles) refl
      by_scope (Err e) = tt

    -- the object that a callback is registered on
    watched_in : (r : RegistryState) (found : Option ℕ) → IsSomeIn found → IsOkIn (watched_of observation r found)
    watched_in r found h = by_watchable (watchable_of observation found) (by_allowed (allowed observation right.Watch found) (allowed_in right.Watch found h)) where
      by_allowed : (x : Result ℕ VpiError) → IsOkIn x → IsOkIn (then_by x (λ o. if is_watchable (observation.kind o) then Ok o else Err error.WrongKind))
      by_allowed (Err e) g = tt
      by_allowed (Ok o) g = by_kind (is_watchable (observation.kind o)) where
        by_kind : (b : Bool) → IsOkIn (if b then Ok o else Err error.WrongKind)
        by_kind true = g
        by_kind false = tt

      by_watchable : (x : Result ℕ VpiError) → IsOkIn x → IsOkIn (then_by x (λ o. if registry.is_full r then Err error.TooManyCallbacks else Ok o))
      by_watchable (Err e) g = tt
      by_watchable (Ok o) g = by_room (registry.is_full r) where
        by_room : (b : Bool) → IsOkIn (if b then Err error.TooManyCallbacks else Ok o)
        by_room true = tt
        by_room false = g

    -- a call from which nothing but a reply comes leaves the session as it was
    told_in : {A : Type 0} (s : SessionState) (f : A → Reply) (x : Result A VpiError) → is_session_state_within n s ≡ true → is_session_state_within n (reply_with s f x).session_state ≡ true
    told_in s f (Ok y) h = h
    told_in s f (Err e) h = h

    -- a query of a session
    pub respond_within : (s : SessionState) (r : Query) → is_session_state_within n s ≡ true → is_session_state_within n (respond observation s r).session_state ≡ true
    respond_within s (query.Handle name scope) h = by_found (handle_of observation s.handles scope name) (handle_in s.handles scope name) where
      by_found : (x : Result ℕ VpiError) → IsOkIn x → is_session_state_within n (response_by s (made s) x).session_state ≡ true
      by_found (Err e) g = h
      by_found (Ok o) g =
          session_state_from (made s o).session_state (all_join (is_handle_within n) s.handles (handle_to o ∷ []) (session_state_handles s h) (both (nat_lt o n) true g refl)) (session_state_registry s h)
    respond_within s (query.Iterate k scope) h = by_found (iterated observation s.handles k scope) (iterated_in s.handles k scope) where
      by_found : (x : Result Iterated VpiError) → AreOkIn x → is_session_state_within n (response_by s (scanned s) x).session_state ≡ true
      by_found (Err e) g = h
      by_found (Ok found) g = session_state_from (scanned s found).session_state (all_join (is_handle_within n) s.handles found.handles (session_state_handles s h) g) (session_state_registry s h)
    respond_within s (query.Get handle p) h = told_in s _ _ h
    respond_within s (query.GetStr handle p) h = told_in s _ _ h
    respond_within s (query.Value handle f) h = told_in s _ _ h
    respond_within s (query.Put handle v) h = by_put (put_of observation v (object_of s.handles handle)) where
      by_put : (x : Result (ℕ × List Bit) VpiError) → is_session_state_within n (response_by s (putting s) x).session_state ≡ true
      by_put (Ok p) = h
      by_put (Err e) = h
    respond_within s (query.Compare a b) h = told_in s _ _ h
    respond_within s (query.Free handle) h = by_found (or_refusal (object_of s.handles handle) error.BadHandle) where
      by_handle : (k : ℕ) → is_session_state_within n (freed s k).session_state ≡ true
      by_handle zero = h
      by_handle (suc k) = session_state_from (freed s (suc k)).session_state (all_set (is_handle_within n) s.handles k None (session_state_handles s h) refl) (session_state_registry s h)

      by_found : (x : Result ℕ VpiError) → is_session_state_within n (response_by s (λ o. freed s handle) x).session_state ≡ true
      by_found (Ok o) = by_handle handle
      by_found (Err e) = h
    respond_within s (query.Watch handle) h =
        by_found (watched_of observation s.registry (object_of s.handles handle)) (watched_in s.registry (object_of s.handles handle) (object_in s.handles handle (session_state_handles s h))) where
          by_found : (x : Result ℕ VpiError) → IsOkIn x → is_session_state_within n (response_by s (watching s) x).session_state ≡ true
          by_found (Err e) g = h
          by_found (Ok o) g = session_state_from (watching s o).session_state (session_state_handles s h) (registered_within s.registry o (session_state_registry s h) g)
    respond_within s (query.Unwatch callback) h = by_number _ _ (has_number s.registry callback) where
      by_number : (reply other : Reply) (b : Bool)
          → is_session_state_within n (if b then only_told (record s { registry = registry.without s.registry callback }) reply else only_told s other).session_state ≡ true
      by_number reply other true =
          session_state_from (record s { registry = registry.without s.registry callback }) (session_state_handles s h)
          (registry_from (registry.without s.registry callback)
          (all_kept (is_callback_within n) (λ c. not (is_numbered callback c)) s.registry.callbacks (registry_callbacks s.registry (session_state_registry s h)))
          (registry_notices s.registry (session_state_registry s h)))
      by_number reply other false = h
    respond_within s query.Poll h =
        session_state_from (record s { registry = registry.drained s.registry }) (session_state_handles s h)
        (registry_from (registry.drained s.registry) (registry_callbacks s.registry (session_state_registry s h)) refl)
    respond_within s (query.Races from) h = h
    respond_within s (query.Race number) h = told_in s _ _ h
    respond_within s (query.Run until) h = h
    respond_within s query.Stop h = h
    respond_within s query.Time h = h

-- ---- other numbers

-- a session whose objects have other numbers: those among so many have numbers among so many now
pub session_state_moved_within : (a b : ℕ) (f : ℕ → ℕ) → ((k : ℕ) → nat_lt k a ≡ true → nat_lt (f k) b ≡ true) → (s : SessionState) → is_session_state_within a s ≡ true → is_session_state_within b (moved_session_state f s) ≡ true
session_state_moved_within a b f h s e =
    session_state_from b (moved_session_state f s) (all_mapped (is_handle_within a) (is_handle_within b) (moved_handle f) handle s.handles (session_state_handles a s e))
    (registry_from b (moved_registry f s.registry)
    (all_mapped (is_callback_within a) (is_callback_within b) (moved_callback f) (λ c g. h c.object.0 g) s.registry.callbacks (registry_callbacks a s.registry (session_state_registry a s e)))
    (all_mapped (is_notice_within a) (is_notice_within b) (moved_notice f) (λ t g. h t.object.0 g) s.registry.waiting (registry_notices a s.registry (session_state_registry a s e))))
  where
    handle : (x : Option ObjectId) → is_handle_within a x ≡ true → is_handle_within b (moved_handle f x) ≡ true
    handle None g = refl
    handle (Some o) g = h o.0 g

-- a number that is moved
pub moved_to_within : (moved : List ℕ) (count : ℕ) → list_all (λ n. nat_lt n count) moved ≡ true → (k : ℕ) → nat_lt k (length moved) ≡ true → nat_lt (moved_to moved count k) count ≡ true
moved_to_within moved count all k l =
    ap (λ (b : Bool). nat_lt (if b then slice_index_or moved k 0 else count + (k - length moved)) count) l ∙ all_index (λ n. nat_lt n count) moved k 0 all (grind (arith, l))

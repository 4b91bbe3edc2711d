-- Sessions whose objects get other numbers: what of a change of grants comes to them.
use Rattle.std.proofs.Common.{◌≡◌, ◌∙◌, ℕ, ◌+◌, ◌-◌, Bool, true, List, [], ◌∷◌, filter, length, map, not, nat_lt, Option, Some, None, refl, ap, sym}
use Rattle.std.specs.Prelude.{if◌then◌else◌, is_some, slice_index_or}
use Rattle.std.specs.List.{list_all}
use Rattle.std.proofs.lemmas.List.Elements.{filter_agree}
use Rattle.vp_pragma.specs.declared.rights.Right.TheVariants as right
use Rattle.vp_elab.specs.declared.object.ObjectId.{ObjectId}
use Rattle.vp_notify.specs.declared.registry.Callback.{Callback}
use Rattle.vp_notify.specs.declared.notice.Notice.{Notice}
use Rattle.vp_notify.specs.Registry.{RegistryState}
use Rattle.vp_notify.specs.Renumbered.{is_callback_within, is_notice_within, is_within, moved_callback, moved_notice, moved_registry, number_now}
use Rattle.vp_vpi.specs.Renumbered.{is_handle_within, is_session_state_within, moved_handle, moved_session_state}
use Rattle.vp_vpi.specs.SessionStates.{SessionState, retired}
use Rattle.vp_answer.specs.OpenSessions.{OpenSessionState, is_session_within, moved_session}
use Rattle.vp_replay.specs.Seen.{denied_seen}
use Rattle.vp_replay.specs.Parts.{GrantItem, granted_session, moved_to}
use Rattle.vp_answer.specs.laws.Tests.{both_first, both_second}

-- forms that agree where a test holds
map_within : {X Y : Type 0} (p : X → Bool) (f g : X → Y) → ((x : X) → p x ≡ true → f x ≡ g x) → (xs : List X) → list_all p xs ≡ true → map f xs ≡ map g xs
map_within p f g h [] all = refl
map_within p f g h (x ∷ xs) all =
    ap (λ y. y ∷ map f xs) (h x (both_first (p x) (list_all p xs) all)) ∙ ap (λ ys. g x ∷ ys) (map_within p f g h xs (both_second (p x) (list_all p xs) all))

module _ (n : ℕ) (f g : ℕ → ℕ) (agree : (k : ℕ) → nat_lt k n ≡ true → f k ≡ g k) where
  handle_same : (h : Option ObjectId) → is_handle_within n h ≡ true → moved_handle f h ≡ moved_handle g h
  handle_same None within = refl
  handle_same (Some o) within = ap (λ (k : ℕ). (let x : ObjectId = record { 0 = k } in Some x)) (agree o.0 within)

  callback_same : (c : Callback) → is_callback_within n c ≡ true → moved_callback f c ≡ moved_callback g c
  callback_same c within = ap (λ (k : ℕ). (let x : Callback = record { number = c.number; object = record { 0 = k } } in x)) (agree c.object.0 within)

  notice_same : (t : Notice) → is_notice_within n t ≡ true → moved_notice f t ≡ moved_notice g t
  notice_same t within = ap (λ (k : ℕ). (let x : Notice = record { callback = t.callback; object = record { 0 = k }; time = t.time; value = t.value } in x)) (agree t.object.0 within)

  registry_same : (r : RegistryState) → is_within n r ≡ true → moved_registry f r ≡ moved_registry g r
  registry_same r within =
      let callbacks = map_within (is_callback_within n) (moved_callback f) (moved_callback g) callback_same r.callbacks (both_first (list_all (is_callback_within n) r.callbacks) (list_all (is_notice_within n) r.waiting) within) in
      let notices = map_within (is_notice_within n) (moved_notice f) (moved_notice g) notice_same r.waiting (both_second (list_all (is_callback_within n) r.callbacks) (list_all (is_notice_within n) r.waiting) within) in
      ap (λ (cs : List Callback). (let x : RegistryState = record { callbacks = cs; given = r.given; waiting = map (moved_notice f) r.waiting; lost = r.lost } in x)) callbacks
      ∙ ap (λ (ts : List Notice). (let x : RegistryState = record { callbacks = map (moved_callback g) r.callbacks; given = r.given; waiting = ts; lost = r.lost } in x)) notices

  -- the objects of a session, which are among so many, get the same numbers
  session_state_same : (s : SessionState) → is_session_state_within n s ≡ true → moved_session_state f s ≡ moved_session_state g s
  session_state_same s within =
      let handles = map_within (is_handle_within n) (moved_handle f) (moved_handle g) handle_same s.handles (both_first (list_all (is_handle_within n) s.handles) (is_within n s.registry) within) in
      let registry = registry_same s.registry (both_second (list_all (is_handle_within n) s.handles) (is_within n s.registry) within) in
      ap (λ (hs : List (Option ObjectId)). (let x : SessionState = record { user = s.user; handles = hs; registry = moved_registry f s.registry } in x)) handles
      ∙ ap (λ (r : RegistryState). (let x : SessionState = record { user = s.user; handles = map (moved_handle g) s.handles; registry = r } in x)) registry

-- what a test finds gone, another that agrees does
retired_same : (gone gone' : ℕ → Bool) → ((o : ℕ) → gone o ≡ gone' o) → (s : SessionState) → retired gone s ≡ retired gone' s
retired_same gone gone' h s =
    let callbacks = filter_agree (λ (c : Callback). not (gone c.object.0)) (λ (c : Callback). not (gone' c.object.0)) (λ c. ap not (h c.object.0)) s.registry.callbacks in
    let notices = filter_agree (λ (t : Notice). not (gone t.object.0)) (λ (t : Notice). not (gone' t.object.0)) (λ t. ap not (h t.object.0)) s.registry.waiting in
    ap (λ (cs : List Callback). (let x : SessionState = record s { registry = record s.registry { callbacks = cs; waiting = filter (λ t. not (gone t.object.0)) s.registry.waiting } } in x)) callbacks
    ∙ ap (λ (ts : List Notice). (let x : SessionState = record s { registry = record s.registry { callbacks = filter (λ c. not (gone' c.object.0)) s.registry.callbacks; waiting = ts } } in x)) notices

-- a number of before is that of the list
number_there : (moved : List ℕ) (count k : ℕ) → nat_lt k (length moved) ≡ true → number_now moved k ≡ moved_to moved count k
number_there moved count k within = sym (ap (λ (b : Bool). if b then slice_index_or moved k 0 else count + (k - length moved)) within)

-- so sessions whose objects are among those before get what a change of grants brings them
pub sessions_granted : (g : GrantItem) (gone : ℕ → Bool) → ((o : ℕ) → gone o ≡ is_some (denied_seen g.view right.Watch o)) → (sessions : List OpenSessionState)
    → list_all (is_session_within (length g.moved)) sessions ≡ true → map (moved_session (number_now g.moved) gone) sessions ≡ map (granted_session g) sessions
sessions_granted g gone h sessions within =
    map_within (is_session_within (length g.moved)) (moved_session (number_now g.moved) gone) (granted_session g)
    (λ t is. ap (λ (s : SessionState). (let x : OpenSessionState = record { id = t.id; session_state = s } in x))
    (ap (retired gone) (session_state_same (length g.moved) (number_now g.moved) (moved_to g.moved (length g.view.nodes)) (number_there g.moved (length g.view.nodes)) t.session_state is)
    ∙ retired_same gone (λ o. is_some (denied_seen g.view right.Watch o)) h (moved_session_state (moved_to g.moved (length g.view.nodes)) t.session_state))) sessions within

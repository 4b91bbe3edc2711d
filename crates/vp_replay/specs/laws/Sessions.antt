-- A user's sessions among all that are open.
use Rattle.std.proofs.Common.{◌≡◌, ℕ, zero, suc, ◌+◌, Bool, false, true, List, [], ◌∷◌, Some, refl, ap, sym, ◌∙◌, arith}
use Rattle.std.specs.Prelude.{cond, filter, if◌then◌else◌, slice_get, slice_set, Result, Ok, Err}
use Rattle.std.specs.List.{position_from, remove}
use Rattle.vp_notify.specs.Registry as registry
use Rattle.vp_vpi.specs.declared.error.VpiError.{VpiError}
use Rattle.vp_vpi.specs.declared.error.VpiError.TheVariants as vpi
use Rattle.vp_vpi.specs.Calls.{handle_of, iterated, number_of, or_refusal, put_of, race_of, same_of, text_of, value_of, watched_of}
use Rattle.vp_vpi.specs.Observers.{Observer}
use Rattle.vp_vpi.specs.SessionStates.{SessionState, object_of}
use Rattle.vp_answer.specs.declared.query.Query.{Query}
use Rattle.vp_answer.specs.declared.query.Query.TheVariants as query
use Rattle.vp_answer.specs.declared.reply.Reply.TheVariants as reply
use Rattle.vp_answer.specs.Answers.{Response, freed, made, only_told, putting, respond, response_by, scanned, value_in, watching}

-- ---- lists

-- where the first of some things that passes a test stands among those that pass another, which it passes too
pub record Stands {X : Type 0} (p q : X → Bool) (xs : List X) (from index_from : ℕ) : Type 0 where
  pub index : ℕ
  pub inner : ℕ
  pub thing : X
  pub index_is : index_from ≡ from + index
  pub there : slice_get xs index ≡ Some thing
  pub passes : p thing ≡ true
  pub found : (o : ℕ) → position_from p o (filter q xs) ≡ Some (o + inner)
  pub there_too : slice_get (filter q xs) inner ≡ Some thing
  pub exchanged : (y : X) → q y ≡ true → filter q (slice_set xs index y) ≡ slice_set (filter q xs) inner y
  pub removed : filter q (remove xs index) ≡ remove (filter q xs) inner

-- one more before them that passes neither, or the second alone
stands_more : {X : Type 0} (p q : X → Bool) (x : X) (xs : List X) (from index_from : ℕ) → p x ≡ false → (b : Bool) → q x ≡ b → Stands p q xs (from + 1) index_from → Stands p q (x ∷ xs) from index_from
stands_more p q x xs from index_from fails true is s =
    record {
      index = suc s.index;
      inner = suc s.inner;
      thing = s.thing;
      index_is = let at = s.index_is in omega (arith, at);
      there = s.there;
      passes = s.passes;
      found = λ o.
          ap (λ ys. position_from p o ys) kept
          ∙ ap (λ (b : Bool). cond b (Some o) (position_from p (o + 1) (filter q xs))) fails
          ∙ s.found (o + 1) ∙ ap Some (let e : o + 1 + s.inner ≡ o + suc s.inner = omega arith in e);
      there_too = ap (λ ys. slice_get ys (suc s.inner)) kept ∙ s.there_too;
      exchanged = λ y passes.
          keeps (slice_set xs s.index y) ∙ ap (λ ys. x ∷ ys) (s.exchanged y passes) ∙ sym (ap (λ ys. slice_set ys (suc s.inner) y) kept);
      removed = keeps (remove xs s.index) ∙ ap (λ ys. x ∷ ys) s.removed ∙ sym (ap (λ ys. remove ys (suc s.inner)) kept);
    }
  where
    keeps : (ys : List _) → filter q (x ∷ ys) ≡ x ∷ filter q ys
    keeps ys = ap (λ (b : Bool). if b then x ∷ filter q ys else filter q ys) is

    kept : filter q (x ∷ xs) ≡ x ∷ filter q xs
    kept = ap (λ (b : Bool). if b then x ∷ filter q xs else filter q xs) is
stands_more p q x xs from index_from fails false is s =
    record {
      index = suc s.index;
      inner = s.inner;
      thing = s.thing;
      index_is = let at = s.index_is in omega (arith, at);
      there = s.there;
      passes = s.passes;
      found = λ o. ap (λ ys. position_from p o ys) kept ∙ s.found o;
      there_too = ap (λ ys. slice_get ys s.inner) kept ∙ s.there_too;
      exchanged = λ y passes. keeps (slice_set xs s.index y) ∙ s.exchanged y passes ∙ sym (ap (λ ys. slice_set ys s.inner y) kept);
      removed = keeps (remove xs s.index) ∙ s.removed ∙ sym (ap (λ ys. remove ys s.inner) kept);
    }
  where
    keeps : (ys : List _) → filter q (x ∷ ys) ≡ filter q ys
    keeps ys = ap (λ (b : Bool). if b then x ∷ filter q ys else filter q ys) is

    kept : filter q (x ∷ xs) ≡ filter q xs
    kept = ap (λ (b : Bool). if b then x ∷ filter q xs else filter q xs) is

-- so it stands
pub stands_from : {X : Type 0} (p q : X → Bool) → ((x : X) → p x ≡ true → q x ≡ true) → (xs : List X) (from index_from : ℕ) → position_from p from xs ≡ Some index_from → Stands p q xs from index_from
stands_from p q both [] from index_from e = absurd (cc)
stands_from p q both (x ∷ xs) from index_from e = by_test (p x) refl e (stands_from p q both xs (from + 1) index_from) where
  by_test : (b : Bool) → p x ≡ b → cond b (Some from) (position_from p (from + 1) xs) ≡ Some index_from → (position_from p (from + 1) xs ≡ Some index_from → Stands p q xs (from + 1) index_from)
      → Stands p q (x ∷ xs) from index_from
  by_test false is e rest = stands_more p q x xs from index_from is (q x) refl (rest e)
  by_test true is e rest =
      let yes = both x is in
      let kept : filter q (x ∷ xs) ≡ x ∷ filter q xs = ap (λ (b : Bool). if b then x ∷ filter q xs else filter q xs) yes in
      let same : from ≡ index_from = cc in
      record {
        index = 0;
        inner = 0;
        thing = x;
        index_is = omega (arith, same);
        there = refl;
        passes = is;
        found = λ o.
            ap (λ ys. position_from p o ys) kept ∙ ap (λ (b : Bool). cond b (Some o) (position_from p (o + 1) (filter q xs))) is
            ∙ ap Some (let e : o ≡ o + 0 = omega arith in e);
        there_too = ap (λ ys. slice_get ys 0) kept;
        exchanged = λ y passes.
            ap (λ (b : Bool). if b then y ∷ filter q xs else filter q xs) passes ∙ sym (ap (λ ys. slice_set ys 0 y) kept);
        removed = sym (ap (λ ys. remove ys 0) kept);
      }

-- one that does not pass a test is nothing to those that do
pub apart_set : {X : Type 0} (q : X → Bool) (xs : List X) (i : ℕ) (x y : X) → slice_get xs i ≡ Some x → q x ≡ false → q y ≡ false → filter q (slice_set xs i y) ≡ filter q xs
apart_set q [] i x y at a b = refl
apart_set q (z ∷ xs) zero x y at a b =
    let same : z ≡ x = cc in
    ap (λ (c : Bool). if c then y ∷ filter q xs else filter q xs) b ∙ sym (ap (λ (c : Bool). if c then z ∷ filter q xs else filter q xs) (ap q same ∙ a))
apart_set q (z ∷ xs) (suc i) x y at a b = ap (λ ys. if q z then z ∷ ys else ys) (apart_set q xs i x y at a b)

-- nor where it is taken out
pub apart_remove : {X : Type 0} (q : X → Bool) (xs : List X) (i : ℕ) (x : X) → slice_get xs i ≡ Some x → q x ≡ false → filter q (remove xs i) ≡ filter q xs
apart_remove q [] i x at a = absurd (cc)
apart_remove q (z ∷ xs) zero x at a =
    let same : z ≡ x = cc in sym (ap (λ (c : Bool). if c then z ∷ filter q xs else filter q xs) (ap q same ∙ a))
apart_remove q (z ∷ xs) (suc i) x at a = ap (λ ys. if q z then z ∷ ys else ys) (apart_remove q xs i x at a)

-- ---- a session keeps its user

-- one of two
kept_of : (b : Bool) (x y : Response) (user : ℕ) → x.session_state.user ≡ user → y.session_state.user ≡ user → (let r : Response = if b then x else y in r.session_state.user ≡ user)
kept_of true x y user h k = h
kept_of false x y user h k = k

-- an answer or a refusal
kept_by : {A : Type 0} (session_state : SessionState) (given : A → Response) (due : Result A VpiError) → ((x : A) → (given x).session_state.user ≡ session_state.user) → (response_by session_state given due).session_state.user ≡ session_state.user
kept_by session_state given (Ok x) h = h x
kept_by session_state given (Err e) h = refl

-- so each query does
pub user_kept : (observation : Observer) (session_state : SessionState) (r : Query) → (respond observation session_state r).session_state.user ≡ session_state.user
user_kept observation session_state (query.Handle name scope) = kept_by session_state (made session_state) (handle_of observation session_state.handles scope name) (λ x. refl)
user_kept observation session_state (query.Iterate k scope) = kept_by session_state (scanned session_state) (iterated observation session_state.handles k scope) (λ x. refl)
user_kept observation session_state (query.Get handle n) = kept_by session_state (λ x. only_told session_state (reply.Number x)) (number_of observation n (object_of session_state.handles handle)) (λ x. refl)
user_kept observation session_state (query.GetStr handle t) = kept_by session_state (λ x. only_told session_state (reply.Text x)) (text_of observation t (object_of session_state.handles handle)) (λ x. refl)
user_kept observation session_state (query.Value handle f) = kept_by session_state (λ x. only_told session_state (value_in f x)) (value_of observation (object_of session_state.handles handle)) (λ x. refl)
user_kept observation session_state (query.Put handle v) = kept_by session_state (putting session_state) (put_of observation v (object_of session_state.handles handle)) (λ x. refl)
user_kept observation session_state (query.Compare a b) = kept_by session_state (λ x. only_told session_state (reply.Same x)) (same_of (object_of session_state.handles a) (object_of session_state.handles b)) (λ x. refl)
user_kept observation session_state (query.Free handle) = kept_by session_state (λ o. freed session_state handle) (or_refusal (object_of session_state.handles handle) vpi.BadHandle) (λ x. refl)
user_kept observation session_state (query.Watch handle) = kept_by session_state (watching session_state) (watched_of observation session_state.registry (object_of session_state.handles handle)) (λ x. refl)
user_kept observation session_state (query.Unwatch callback) = kept_of (registry.has_number session_state.registry callback) _ _ session_state.user refl refl
user_kept observation session_state query.Poll = refl
user_kept observation session_state (query.Races from) = refl
user_kept observation session_state (query.Race number) = kept_by session_state (λ x. only_told session_state (reply.Race x)) (race_of observation number) (λ x. refl)
user_kept observation session_state (query.Run until) = refl
user_kept observation session_state query.Stop = refl
user_kept observation session_state query.Time = refl

-- A query that puts a value on an object is done, and leaves its session as it was.
use Rattle.std.proofs.Common.{◌≡◌, ℕ, Bool, true, false, if◌then◌else◌, List, Some, Result, Ok, Err, refl}
use Rattle.vp_bits.specs.declared.bit.Bit.{Bit}
use Rattle.vp_notify.specs.Registry.{has_number}
use Rattle.vp_vpi.specs.declared.error.VpiError.{VpiError}
use Rattle.vp_vpi.specs.declared.error.VpiError.TheVariants as vpi
use Rattle.vp_vpi.specs.Calls.{handle_of, iterated, number_of, or_refusal, put_of, race_of, same_of, text_of, value_of, watched_of}
use Rattle.vp_vpi.specs.Observers.{Observer}
use Rattle.vp_vpi.specs.SessionStates.{SessionState, object_of}
use Rattle.vp_answer.specs.declared.query.Query.{Query}
use Rattle.vp_answer.specs.declared.query.Query.TheVariants as query
use Rattle.vp_answer.specs.declared.reply.Reply.TheVariants as reply
use Rattle.vp_answer.specs.Answers.{Response, freed, made, only_told, putting, respond, response_by, scanned, watching}

-- what comes of a query with a put is only that it is done
pub record IsPut (session_state : SessionState) (given : Response) : Type 0 where
  pub is_done : given.reply ≡ reply.Done
  pub same : given.session_state ≡ session_state

-- a response that only puts, if it puts anything
abbrev IsPutOnly : SessionState → Response → Type 0
IsPutOnly session_state given = (p : ℕ × List Bit) → given.put ≡ Some p → IsPut session_state given

-- one of these puts nothing
by_answer : {A : Type 0} (session_state : SessionState) (given : A → Response) (due : Result A VpiError) → ((x : A) → IsPutOnly session_state (given x)) → IsPutOnly session_state (response_by session_state given due)
by_answer session_state given (Ok x) gives p is = gives x p is
by_answer session_state given (Err e) gives p is = cc

-- one of two
one_of : (b : Bool) (session_state : SessionState) (x y : Response) → IsPutOnly session_state x → IsPutOnly session_state y → (let r : Response = if b then x else y in IsPutOnly session_state r)
one_of true session_state x y h k = h
one_of false session_state x y h k = k

-- what is put by a query is all that comes of it, but that it is done
pub put_only : (observation : Observer) (session_state : SessionState) (r : Query) (p : ℕ × List Bit) → (respond observation session_state r).put ≡ Some p → IsPut session_state (respond observation session_state r)
put_only observation session_state (query.Handle name scope) p is = by_answer session_state (made session_state) (handle_of observation session_state.handles scope name) (λ x q no. cc) p is
put_only observation session_state (query.Iterate k scope) p is = by_answer session_state (scanned session_state) (iterated observation session_state.handles k scope) (λ x q no. cc) p is
put_only observation session_state (query.Get handle n) p is = by_answer session_state (λ x. only_told session_state (reply.Number x)) (number_of observation n (object_of session_state.handles handle)) (λ x q no. cc) p is
put_only observation session_state (query.GetStr handle t) p is = by_answer session_state (λ x. only_told session_state (reply.Text x)) (text_of observation t (object_of session_state.handles handle)) (λ x q no. cc) p is
put_only observation session_state (query.Value handle f) p is = by_answer session_state _ (value_of observation (object_of session_state.handles handle)) (λ x q no. cc) p is
put_only observation session_state (query.Put handle v) p is =
    by_answer session_state (putting session_state) (put_of observation v (object_of session_state.handles handle)) (λ x q given. record { is_done = refl; same = refl }) p is
put_only observation session_state (query.Compare a b) p is = by_answer session_state (λ x. only_told session_state (reply.Same x)) (same_of (object_of session_state.handles a) (object_of session_state.handles b)) (λ x q no. cc) p is
put_only observation session_state (query.Free handle) p is = by_answer session_state (λ o. freed session_state handle) (or_refusal (object_of session_state.handles handle) vpi.BadHandle) (λ x q no. cc) p is
put_only observation session_state (query.Watch handle) p is = by_answer session_state (watching session_state) (watched_of observation session_state.registry (object_of session_state.handles handle)) (λ x q no. cc) p is
put_only observation session_state (query.Unwatch callback) p is = one_of (has_number session_state.registry callback) session_state _ _ (λ q no. cc) (λ q no. cc) p is
put_only observation session_state query.Poll p is = cc
put_only observation session_state (query.Races from) p is = cc
put_only observation session_state (query.Race number) p is = by_answer session_state (λ x. only_told session_state (reply.Race x)) (race_of observation number) (λ x q no. cc) p is
put_only observation session_state (query.Run until) p is = cc
put_only observation session_state query.Stop p is = cc
put_only observation session_state query.Time p is = cc

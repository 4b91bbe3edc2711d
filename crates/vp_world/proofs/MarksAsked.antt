-- Callbacks after a query.
use Rattle.std.proofs.Common.{◌≡◌, ℕ, Bool, true, false, List, Result, Ok, Err}
use Rattle.std.specs.Prelude.{not, if◌then◌else◌}
use Rattle.vp_notify.specs.Registry.{has_number, is_numbered}
use Rattle.vp_vpi.specs.declared.error.VpiError.{VpiError}
use Rattle.vp_vpi.specs.declared.error.VpiError.TheVariants as vpi
use Rattle.vp_vpi.specs.Calls.{handle_of, iterated, number_of, or_refusal, put_of, race_of, same_of, text_of, value_of}
use Rattle.vp_vpi.specs.Observers.{Observer}
use Rattle.vp_vpi.specs.SessionStates.{SessionState, object_of}
use Rattle.vp_answer.specs.declared.query.Query.{Query}
use Rattle.vp_answer.specs.declared.query.Query.TheVariants as query
use Rattle.vp_answer.specs.Answers.{Response, respond, response_by}
use Rattle.vp_world.specs.Marks.{are_marked, is_marked, is_watch}
use Rattle.vp_answer.specs.laws.Tests.{all_kept}

-- the callbacks of a session are on objects that may be watched
abbrev Keeps : List Bool → SessionState → Type 0
Keeps watched session_state = are_marked watched session_state.registry.callbacks ≡ true

-- they are after an answer, if they are after what it gives
by_answer : {A : Type 0} (watched : List Bool) (session_state : SessionState) (given : A → Response) (due : Result A VpiError) → Keeps watched session_state → ((x : A) → Keeps watched (given x).session_state) → Keeps watched (response_by session_state given due).session_state
by_answer watched session_state given (Ok x) marked gives = gives x
by_answer watched session_state given (Err e) marked gives = marked

-- and after a query to remove one
unwatched : (watched : List Bool) (session_state : SessionState) (callback : ℕ) (there : Bool) (done : Response) (refused : Response) → Keeps watched done.session_state → Keeps watched refused.session_state → (let r : Response = if there then done else refused in Keeps watched r.session_state)
unwatched watched session_state callback true done refused h k = h
unwatched watched session_state callback false done refused h k = k

-- a query that registers none leaves them on objects that may be watched
pub respond_keeps : (watched : List Bool) (observation : Observer) (session_state : SessionState) (r : Query) → is_watch r ≡ false → Keeps watched session_state → Keeps watched (respond observation session_state r).session_state
respond_keeps watched observation session_state (query.Handle name scope) other marked = by_answer watched session_state _ (handle_of observation session_state.handles scope name) marked (λ x. marked)
respond_keeps watched observation session_state (query.Iterate k scope) other marked = by_answer watched session_state _ (iterated observation session_state.handles k scope) marked (λ x. marked)
respond_keeps watched observation session_state (query.Get handle p) other marked = by_answer watched session_state _ (number_of observation p (object_of session_state.handles handle)) marked (λ x. marked)
respond_keeps watched observation session_state (query.GetStr handle p) other marked = by_answer watched session_state _ (text_of observation p (object_of session_state.handles handle)) marked (λ x. marked)
respond_keeps watched observation session_state (query.Value handle f) other marked = by_answer watched session_state _ (value_of observation (object_of session_state.handles handle)) marked (λ x. marked)
respond_keeps watched observation session_state (query.Put handle v) other marked = by_answer watched session_state _ (put_of observation v (object_of session_state.handles handle)) marked (λ x. marked)
respond_keeps watched observation session_state (query.Compare a b) other marked = by_answer watched session_state _ (same_of (object_of session_state.handles a) (object_of session_state.handles b)) marked (λ x. marked)
respond_keeps watched observation session_state (query.Free handle) other marked = by_answer watched session_state _ (or_refusal (object_of session_state.handles handle) vpi.BadHandle) marked (λ x. marked)
respond_keeps watched observation session_state (query.Watch handle) other marked = absurd (let no : true ≡ false = other in cc)
respond_keeps watched observation session_state (query.Unwatch callback) other marked =
    unwatched watched session_state callback (has_number session_state.registry callback) _ _
    (all_kept (is_marked watched) (λ c. not (is_numbered callback c)) session_state.registry.callbacks marked) marked
respond_keeps watched observation session_state query.Poll other marked = marked
respond_keeps watched observation session_state (query.Races from) other marked = marked
respond_keeps watched observation session_state (query.Race number) other marked = by_answer watched session_state _ (race_of observation number) marked (λ x. marked)
respond_keeps watched observation session_state (query.Run until) other marked = marked
respond_keeps watched observation session_state query.Stop other marked = marked
respond_keeps watched observation session_state query.Time other marked = marked

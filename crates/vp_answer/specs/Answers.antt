-- What comes of a session's query.
use Rattle.std.specs.Prelude.{ℕ, ◌+◌, if◌then◌else◌, List, Option, Some, None, Result, Ok, Err}
use Rattle.vp_bits.specs.declared.bit.Bit.{Bit}
use Rattle.vp_notify.specs.Registry.{has_number}
use Rattle.vp_vpi.specs.declared.error.VpiError.{VpiError}
use Rattle.vp_vpi.specs.declared.error.VpiError.TheVariants as vpi
use Rattle.vp_vpi.specs.Calls.{Iterated, handle_of, iterated, lines_of, number_of, or_refusal, put_of, race_of, same_of, text_of, value_of, watched_of}
use Rattle.vp_vpi.specs.Observers.{Observer}
use Rattle.vp_vpi.specs.SessionStates.{SessionState, drained, next_handle, object_of, polled, with_callback, with_handle, with_handles, without_callback, without_handle}
use Rattle.vp_answer.specs.declared.goal.GoalChange.{GoalChange}
use Rattle.vp_answer.specs.declared.goal.GoalChange.TheVariants.{Ends, RisesTo, Stays}
use Rattle.vp_answer.specs.declared.query.Query.{Query}
use Rattle.vp_answer.specs.declared.query.Query.TheVariants as query
use Rattle.vp_answer.specs.declared.query.ValueFormat.{ValueFormat}
use Rattle.vp_answer.specs.declared.query.ValueFormat.TheVariants as format
use Rattle.vp_answer.specs.declared.reply.Refusal.TheVariants as refusal
use Rattle.vp_answer.specs.declared.reply.Reply.{Reply}
use Rattle.vp_answer.specs.declared.reply.Reply.TheVariants as reply

-- what comes of a query: its reply, the session after it, what it does to the goal, and the value that it puts on an object, if it puts
-- one
pub record Response : Type 0 where
  pub reply : Reply
  pub session_state : SessionState
  pub goal : GoalChange
  pub put : Option (ℕ × List Bit)

-- a reply from which nothing else comes
abbrev pub only_told : SessionState → Reply → Response
only_told session_state r = record { reply = r; session_state = session_state; goal = Stays; put = None }

-- the reply to a query that a session refused: a denial is reported in words (profile)
abbrev pub refused : VpiError → Reply
refused (vpi.Denied words) = reply.Denied words
refused vpi.BadHandle = reply.Error refusal.BadHandle
refused vpi.WrongKind = reply.Error refusal.WrongKind
refused vpi.BadValue = reply.Error refusal.BadValue
refused vpi.Finished = reply.Error refusal.Finished
refused vpi.TooManyHandles = reply.Error refusal.TooManyHandles
refused vpi.NoSuchName = reply.Error refusal.NoSuchName
refused vpi.TooManyCallbacks = reply.Error refusal.TooManyCallbacks
refused vpi.NoSuchCallback = reply.Error refusal.NoSuchCallback
refused vpi.NoSuchRace = reply.Error refusal.NoSuchRace
refused vpi.NoMemory = reply.Error refusal.NoMemory

-- what comes of an answer, if there is one; else only the refusal is reported
abbrev pub response_by : {A : Type 0} → SessionState → (A → Response) → Result A VpiError → Response
response_by session_state given (Ok x) = given x
response_by session_state given (Err e) = only_told session_state (refused e)

-- a reply by an answer, if there is one, from which nothing else comes
abbrev pub reply_with : {A : Type 0} → SessionState → (A → Reply) → Result A VpiError → Response
reply_with session_state given due = response_by session_state (λ x. only_told session_state (given x)) due

-- what comes of a handle that is made of an object: its number is reported, and the session has it
abbrev pub made : SessionState → ℕ → Response
made session_state object = record {
  reply = reply.Handle (next_handle session_state.handles);
  session_state = with_handle object session_state;
  goal = Stays;
  put = None;
}

-- what comes of an iteration: it is reported, and the session has its handles
abbrev pub scanned : SessionState → Iterated → Response
scanned session_state found = record {
  reply = reply.Listing found.listing;
  session_state = with_handles found.handles session_state;
  goal = Stays;
  put = None;
}

-- what comes of a handle that is freed
abbrev pub freed : SessionState → (handle : ℕ) → Response
freed session_state handle = record { reply = reply.Done; session_state = without_handle handle session_state; goal = Stays; put = None }

-- what comes of a callback that is registered on an object: its number is reported, and the session has it
abbrev pub watching : SessionState → ℕ → Response
watching session_state object = record {
  reply = reply.Callback (session_state.registry.given + 1);
  session_state = with_callback object session_state;
  goal = Stays;
  put = None;
}

-- what comes of a query to remove the callback of a number, where there is one, and where there is none
abbrev pub unwatch_response : SessionState → (callback : ℕ) → Response
unwatch_response session_state callback =
    if has_number session_state.registry callback
    then only_told (without_callback callback session_state) reply.Done
    else only_told session_state (refused vpi.NoSuchCallback)

-- what comes of a poll: the notices that wait are reported, and wait no more
abbrev pub polling : SessionState → Response
polling session_state = only_told (drained session_state) (reply.Notices (polled session_state))

-- what comes of a value that is put on an object
abbrev pub putting : SessionState → ℕ × List Bit → Response
putting session_state p = record { reply = reply.Done; session_state = session_state; goal = Stays; put = Some p }

-- a value in a format
abbrev pub value_in : ValueFormat → List Bit → Reply
value_in format.Binary bits = reply.Value bits
value_in format.Vector bits = reply.Vector bits

-- what comes of a query to change the goal, where the user may let the design run, and where he may not
abbrev pub steering : Observer → SessionState → GoalChange → Response
steering observation session_state change = record {
  reply = if observation.may_run then reply.Done else reply.RunDenied;
  session_state = session_state;
  goal = if observation.may_run then change else Stays;
  put = None;
}

-- what comes of a query of a session that looks things up so (profile)
abbrev pub respond : Observer → SessionState → Query → Response
respond observation session_state (query.Handle name scope) = response_by session_state (made session_state) (handle_of observation session_state.handles scope name)
respond observation session_state (query.Iterate k scope) = response_by session_state (scanned session_state) (iterated observation session_state.handles k scope)
respond observation session_state (query.Get handle p) = reply_with session_state reply.Number (number_of observation p (object_of session_state.handles handle))
respond observation session_state (query.GetStr handle p) = reply_with session_state reply.Text (text_of observation p (object_of session_state.handles handle))
respond observation session_state (query.Value handle f) = reply_with session_state (value_in f) (value_of observation (object_of session_state.handles handle))
respond observation session_state (query.Put handle v) = response_by session_state (putting session_state) (put_of observation v (object_of session_state.handles handle))
respond observation session_state (query.Compare a b) =
    reply_with session_state reply.Same (same_of (object_of session_state.handles a) (object_of session_state.handles b))
respond observation session_state (query.Free handle) =
    response_by session_state (λ o. freed session_state handle) (or_refusal (object_of session_state.handles handle) vpi.BadHandle)
respond observation session_state (query.Watch handle) =
    response_by session_state (watching session_state) (watched_of observation session_state.registry (object_of session_state.handles handle))
respond observation session_state (query.Unwatch callback) = unwatch_response session_state callback
respond observation session_state query.Poll = polling session_state
respond observation session_state (query.Races from) = only_told session_state (reply.Races (lines_of observation from))
respond observation session_state (query.Race number) = reply_with session_state reply.Race (race_of observation number)
respond observation session_state (query.Run until) = steering observation session_state (RisesTo until)
respond observation session_state query.Stop = steering observation session_state Ends
respond observation session_state query.Time = only_told session_state (reply.Time observation.time observation.finished)

-- What comes of a query that a session refuses.
use Rattle.std.proofs.Common.{◌≡◌, ◌≢◌, Result, Ok, Err, inl, inr, sym, ap, subst}
use Rattle.std.specs.Prelude.{IfOk, OnOk}
use Rattle.vp_vpi.specs.declared.error.VpiError.{VpiError}
use Rattle.vp_vpi.specs.declared.error.VpiError.TheVariants as vpi
use Rattle.vp_vpi.specs.Calls.{Explains, Iterated, Refuses}
use Rattle.vp_vpi.specs.SessionStates.{SessionState, with_handles}
use Rattle.vp_answer.specs.declared.answering.Answer.{Answer}
use Rattle.vp_answer.specs.declared.reply.Reply.{Reply}
use Rattle.vp_answer.specs.declared.reply.Reply.TheVariants as reply
use Rattle.vp_answer.specs.Answers.{Response, only_told, refused, response_by, scanned}
use Rattle.vp_answer.specs.Given.{IsGiven, plain, put_shown}

-- an error that explains an answer, and is not out of memory, is its refusal
refusal_given : {A : Type 0} (session_state : SessionState) (given : A → Response) (due : Result A VpiError) (e : VpiError) → Explains due e → e ≢ vpi.NoMemory → response_by session_state given due ≡ only_told session_state (refused e)
refusal_given session_state given (Ok x) e told other = absurd (other told)
refusal_given session_state given (Err (vpi.Denied words)) e told other =
    elim told [ inl is ↦ ap (λ r. only_told session_state (refused r)) (sym is) | inr allocation_error ↦ absurd (other allocation_error) ]
refusal_given session_state given (Err vpi.BadHandle) e told other = ap (λ r. only_told session_state (refused r)) (sym told)
refusal_given session_state given (Err vpi.WrongKind) e told other = ap (λ r. only_told session_state (refused r)) (sym told)
refusal_given session_state given (Err vpi.BadValue) e told other = ap (λ r. only_told session_state (refused r)) (sym told)
refusal_given session_state given (Err vpi.Finished) e told other = ap (λ r. only_told session_state (refused r)) (sym told)
refusal_given session_state given (Err vpi.TooManyHandles) e told other = ap (λ r. only_told session_state (refused r)) (sym told)
refusal_given session_state given (Err vpi.NoSuchName) e told other = ap (λ r. only_told session_state (refused r)) (sym told)
refusal_given session_state given (Err vpi.TooManyCallbacks) e told other = ap (λ r. only_told session_state (refused r)) (sym told)
refusal_given session_state given (Err vpi.NoSuchCallback) e told other = ap (λ r. only_told session_state (refused r)) (sym told)
refusal_given session_state given (Err vpi.NoSuchRace) e told other = ap (λ r. only_told session_state (refused r)) (sym told)
refusal_given session_state given (Err vpi.NoMemory) e told other = absurd (other told)

-- a reply from which nothing else comes is given by it
plain_given : (session_state new : SessionState) (r : Reply) (a : Answer) → new ≡ session_state → a ≡ plain r → IsGiven (only_told session_state r) new a
plain_given session_state new r a same is = record {
  gives_reply = ap (λ (x : Answer). x.reply) is;
  gives_entry = ap (λ (x : Answer). x.entry_reply) is;
  goal = ap (λ (x : Answer). x.goal) is;
  put = ap (λ (x : Answer). put_shown x.put) is;
  session_state = same;
}

-- an answer by a refusal that explains what is due is given by it
refusal_given_by :
    {A : Type 0} (session_state new : SessionState) (given : A → Response) (due : Result A VpiError) (e : VpiError) (a : Answer)
    → new ≡ session_state → Explains due e → a ≡ plain (refused e) → e ≢ vpi.NoMemory → IsGiven (response_by session_state given due) new a
refusal_given_by session_state new given due e a same told answer reason =
    subst (λ response. IsGiven response new a) (sym (refusal_given session_state given due e told reason))
    (plain_given session_state new (refused e) a same answer)

-- the answer to a query that a session refuses is given by the refusal
pub refusal_gives :
    {A X : Type 0} (session_state new : SessionState) (given : A → Response) (due : Result A VpiError) (e : VpiError) (r : Result Answer X)
    → new ≡ session_state → Explains due e → IfOk r (λ a. a ≡ plain (refused e)) → OnOk r (e ≢ vpi.NoMemory)
    → IfOk r (IsGiven (response_by session_state given due) new)
refusal_gives session_state new given due e (Err allocation_error) same told answer reason = tt
refusal_gives session_state new given due e (Ok a) same told answer reason = refusal_given_by session_state new given due e a same told answer reason

-- an error that refuses an answer explains it
refused_explains : {A : Type 0} (due : Result A VpiError) (e : VpiError) → Refuses due e → Explains due e
refused_explains (Ok x) e told = absurd told
refused_explains (Err refusal) e told = told

-- the same of an error that refuses an answer
pub refused_gives :
    {A X : Type 0} (session_state new : SessionState) (given : A → Response) (due : Result A VpiError) (e : VpiError) (r : Result Answer X)
    → new ≡ session_state → Refuses due e → IfOk r (λ a. a ≡ plain (refused e)) → OnOk r (e ≢ vpi.NoMemory)
    → IfOk r (IsGiven (response_by session_state given due) new)
refused_gives session_state new given due e r same told answer reason =
    refusal_gives session_state new given due e r same (refused_explains due e told) answer reason

-- ---- iterations

-- the answer to an iteration that is found is given by it
pub iteration_gives :
    {X : Type 0} (session_state new : SessionState) (due : Result Iterated VpiError) (found : Iterated) (r : Result Answer X)
    → due ≡ Ok found → IfOk r (λ a. a ≡ plain (reply.Listing found.listing)) → OnOk r (new ≡ with_handles found.handles session_state)
    → IfOk r (IsGiven (response_by session_state (scanned session_state) due) new)
iteration_gives session_state new due found (Err allocation_error) is answer made = tt
iteration_gives session_state new due found (Ok a) is answer made =
    subst (λ (d : Result Iterated VpiError). IsGiven (response_by session_state (scanned session_state) d) new a) (sym is)
    (record {
      gives_reply = ap (λ (x : Answer). x.reply) answer;
      gives_entry = ap (λ (x : Answer). x.entry_reply) answer;
      goal = ap (λ (x : Answer). x.goal) answer;
      put = ap (λ (x : Answer). put_shown x.put) answer;
      session_state = made;
    })

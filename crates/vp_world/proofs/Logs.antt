-- A log with one entry more.
use Rattle.std.proofs.Common.{◌≡◌, ◌∙◌, Bool, true, false, List, [], ◌∷◌, ◌++◌, Option, Some, None, Result, Err, ℕ, refl, sym, ap, subst, append_assoc, append-nil}
use Rattle.std.specs.Prelude.{◌||◌, fold, if◌then◌else◌, length, nat_lt}
use Rattle.vp_world.specs.declared.error.WorldError.TheVariants as world_error
use Rattle.vp_text.specs.Refusals.{Explains}
use Rattle.vp_expr.specs.declared.change.Change.{Change}
use Rattle.vp_answer.specs.OpenSessions.{index_of}
use Rattle.vp_policy.specs.Regrants.{is_operator}
use Rattle.vp_policy.specs.Users.{login_of, user_of}
use Rattle.vp_world.specs.declared.event.Event.{Event}
use Rattle.vp_world.specs.declared.event.Event.TheVariants as event
use Rattle.vp_world.specs.declared.error.WorldError.{WorldError}
use Rattle.vp_answer.specs.declared.reply.Reply.{Reply}
use Rattle.vp_world.specs.Entries.{Entry}
use Rattle.vp_world.specs.Events.{IsWellFormed}
use Rattle.vp_world.specs.History.{Applies, IsLegal, Keeps, after, answer, changed, entry_of, is_full, refusal_after, refusal_of, refusal_of_grantee, refusal_of_open, refusal_of_session, refusal_of_user, refused_by, state_after, with_entry}
use Rattle.vp_world.specs.Worlds.{WorldLog, Opening, WorldState, State, start}

-- a left fold of one item more
pub fold_more : {A B : Type 0} (f : B → A → B) (a : B) (xs : List A) (y : A) → fold f a (xs ++ y ∷ []) ≡ f (fold f a xs) y
fold_more f a [] y = refl
fold_more f a (x ∷ xs) y = fold_more f (f a x) xs y

-- the state that it leads to
pub state_more : (opening : Opening) (log : List Entry) (e : Entry) → state_after opening (log ++ e ∷ []) ≡ after opening (state_after opening log) e.event
state_more opening log e = fold_more (λ s (x : Entry). after opening s x.event) (start opening) log e

-- it is legal, if the entry is
pub legal_more : (opening : Opening) (before log : List Entry) (e : Entry) → IsLegal opening before log → IsWellFormed opening.design e.event → refusal_after opening (before ++ log) e.event ≡ None → e ≡ entry_of opening (state_after opening (before ++ log)) e.event → IsLegal opening before (log ++ e ∷ [])
legal_more opening before [] e legal formed accepted is = (
  formed,
  subst (λ l. refusal_after opening l e.event ≡ None) (append-nil before) accepted,
  subst (λ l. e ≡ entry_of opening (state_after opening l) e.event) (append-nil before) is,
  tt,
)
legal_more opening before (x ∷ log) e (first_formed, first_accepted, first_is, legal) formed accepted is =
    let same : before ++ x ∷ log ≡ (before ++ x ∷ []) ++ log = sym (append_assoc before (x ∷ []) log) in (
      first_formed,
      first_accepted,
      first_is,
      legal_more opening (before ++ x ∷ []) log e legal formed
          (subst (λ l. refusal_after opening l e.event ≡ None) same accepted)
          (subst (λ l. e ≡ entry_of opening (state_after opening l) e.event) same is),
    )

-- an entry by its parts
pub entry_is : (opening : Opening) (s following : State) (e : Entry) → s ≡ following → e.reply ≡ answer opening s e.event → e.change ≡ changed s e.event → e.time ≡ (after opening s e.event).run.time → e.finished ≡ (after opening s e.event).run.finished → e ≡ entry_of opening following e.event
entry_is opening s following e is reply change time finished =
    ap (λ (r : Reply). (let x : Entry = record { event = e.event; reply = r; change = e.change; time = e.time; finished = e.finished } in x)) reply
    ∙ ap (λ (c : Option Change). (let x : Entry = record { event = e.event; reply = answer opening s e.event; change = c; time = e.time; finished = e.finished } in x)) change
    ∙ ap (λ (t : ℕ). (let x : Entry = record { event = e.event; reply = answer opening s e.event; change = changed s e.event; time = t; finished = e.finished } in x)) time
    ∙ ap (λ (f : Bool). (let x : Entry = record { event = e.event; reply = answer opening s e.event; change = changed s e.event; time = (after opening s e.event).run.time; finished = f } in x)) finished
    ∙ ap (λ (b : State). entry_of opening b e.event) is

-- a world keeps its log with one entry more
pub keeps_more : (w next : WorldState) (log more : List Entry) (e : Entry) → Keeps w log → next ≡ record { opening = w.opening; state = after w.opening w.state e.event } → more ≡ log ++ e ∷ [] → IsWellFormed w.opening.design e.event → refusal_after w.opening log e.event ≡ None → e ≡ entry_of w.opening (state_after w.opening log) e.event → Keeps next more
keeps_more w next log more e keeps is added formed accepted entry =
    subst (λ n. Keeps n more) (sym is)
    (subst (λ l. Keeps (record { opening = w.opening; state = after w.opening w.state e.event }) l) (sym added)
    (record {
      state = ap (λ s. after w.opening s e.event) keeps.state ∙ sym (state_more w.opening log e);
      legal = legal_more w.opening [] log e keeps.legal formed accepted entry;
    }))

-- a full log refuses every event
full_refuses : (opening : Opening) (s : State) (e : Event) → refusal_of opening true s e ≡ None → ⊥
full_refuses opening s (event.Open name token) h = by_login (login_of s.policy.members name token) h where
  by_room : (b : Bool) → (if b then Some world_error.SessionsFull else Some world_error.LogFull) ≡ None → ⊥
  by_room true f = absurd (cc)
  by_room false f = absurd (cc)

  by_login : (o : Option ℕ) → refusal_of_open opening true s o ≡ None → ⊥
  by_login None f = absurd (cc)
  by_login (Some u) f = by_room (is_full opening s u) f
full_refuses opening s (event.Ask id query) h = by_index (index_of s.sessions id) h where
  by_index : (o : Option ℕ) → refusal_of_session true o ≡ None → ⊥
  by_index None f = absurd (cc)
  by_index (Some index) f = absurd (cc)
full_refuses opening s (event.Close id) h = by_index (index_of s.sessions id) h where
  by_index : (o : Option ℕ) → refusal_of_session true o ≡ None → ⊥
  by_index None f = absurd (cc)
  by_index (Some index) f = absurd (cc)
full_refuses opening s (event.Grant change) h = by_token (is_operator s.policy change.token) h where
  by_envelope : (b : Bool) → (if b then Some world_error.NoSuchEnvelope else Some world_error.LogFull) ≡ None → ⊥
  by_envelope true f = absurd (cc)
  by_envelope false f = absurd (cc)

  by_user : (o : Option ℕ) → refusal_of_grantee true s.policy change.envelope o ≡ None → ⊥
  by_user None f = absurd (cc)
  by_user (Some u) f = by_envelope (nat_lt (length s.policy.tree.authors) change.envelope) f

  by_token : (b : Bool) → (if b then refusal_of_grantee true s.policy change.envelope (user_of s.policy.members change.user) else Some world_error.BadOperator) ≡ None → ⊥
  by_token true f = by_user (user_of s.policy.members change.user) f
  by_token false f = absurd (cc)
full_refuses opening s (event.End order) h = by_token (is_operator s.policy order.token) h where
  by_user : (o : Option ℕ) → refusal_of_user true o ≡ None → ⊥
  by_user None f = absurd (cc)
  by_user (Some u) f = absurd (cc)

  by_token : (b : Bool) → (if b then refusal_of_user true (user_of s.policy.members order.user) else Some world_error.BadOperator) ≡ None → ⊥
  by_token true f = by_user (user_of s.policy.members order.user) f
  by_token false f = absurd (cc)
full_refuses opening s (event.Halt order) h = by_token (is_operator s.policy order.token) h where
  by_token : (b : Bool) → (if b then Some world_error.LogFull else Some world_error.BadOperator) ≡ None → ⊥
  by_token true f = absurd (cc)
  by_token false f = absurd (cc)
full_refuses opening s (event.Step k) h = absurd (cc)
full_refuses opening s event.Advance h = absurd (cc)
full_refuses opening s event.TakeJob h = absurd (cc)
full_refuses opening s (event.Book finding) h = absurd (cc)

-- a world in which nothing has happened keeps a log without entries, whatever its opening is
pub opened_anew : (w : WorldState) (opening : Opening) (log : List Entry) → Keeps w log → log ≡ [] → start opening ≡ start w.opening → Keeps (record w { opening = opening }) log
opened_anew w opening log keeps none same =
    let begins : w.state ≡ start opening = keeps.state ∙ ap (λ (l : List Entry). state_after w.opening l) none ∙ sym same in
    let next : WorldState = record w { opening = opening } in
    let kept : Keeps next [] = record { state = begins; legal = tt } in
    subst (λ (l : List Entry). Keeps next l) (sym none) kept

-- what is neither this nor that is not that
pub second_not : (a b : Bool) → (a || b) ≡ false → b ≡ false
second_not true b h = absurd (cc)
second_not false b h = h

-- an event that a world accepts is accepted by a log with room
pub with_room : (opening : Opening) (full : Bool) (s : State) (e : Event) → refusal_of opening full s e ≡ None → refusal_of opening false s e ≡ None
with_room opening true s e h = absurd (full_refuses opening s e h)
with_room opening false s e h = h

-- an event that is refused so leaves the world
pub refused_so : {A : Type 0} (v : WorldLog) (happens : Event) (r : Result A WorldError) (e : WorldError) → r ≡ Err e → refused_by v happens ≡ Some e → Applies v happens r v
refused_so v happens r e is told =
    subst (λ x. Applies v happens x v) (sym is)
    (record {
      accepted = tt;
      logged = tt;
      refused = subst (λ x. Explains world_error.NoMemory x e) (sym told) refl;
      unchanged = refl;
    })

-- a world is seen with one entry more, of which as much was handed out
pub seen_more : (w next : WorldState) (log more : List Entry) (handed_out next_handed_out : ℕ) (e : Entry) (v : WorldLog) → (let seen : WorldLog = record { opening = w.opening; log = log; handed_out = handed_out } in seen ≡ v) → next ≡ record { opening = w.opening; state = next.state } → more ≡ log ++ e ∷ [] → next_handed_out ≡ handed_out → e ≡ entry_of w.opening (state_after w.opening log) e.event → (let now : WorldLog = record { opening = next.opening; log = more; handed_out = next_handed_out } in now ≡ with_entry v e.event)
seen_more w next log more handed_out next_handed_out e v is same added held entry =
    ap (λ (s : WorldState). (let now : WorldLog = record { opening = s.opening; log = more; handed_out = next_handed_out } in now)) same
    ∙ ap (λ (l : List Entry). (let now : WorldLog = record { opening = w.opening; log = l; handed_out = next_handed_out } in now)) (added ∙ ap (λ (x : Entry). log ++ x ∷ []) entry)
    ∙ ap (λ (n : ℕ). (let now : WorldLog = record { opening = w.opening; log = log ++ entry_of w.opening (state_after w.opening log) e.event ∷ []; handed_out = n } in now)) held
    ∙ ap (λ (x : WorldLog). with_entry x e.event) is

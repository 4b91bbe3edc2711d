-- What comes of an event of a user's own in his part.
use Rattle.std.proofs.Common.{◌≡◌, ◌∙◌, ◌<◌, ℕ, zero, suc, Bool, List, [], ◌∷◌, length, Option, Some, None, refl, ap, sym, arith}
use Rattle.std.specs.Prelude.{map, option_and_then, slice_get, slice_index_or, slice_set, unwrap_or}
use Rattle.std.specs.Option.{option_map_or}
use Rattle.vp_bits.specs.declared.bit.Bit.{Bit}
use Rattle.vp_policy.specs.View.{View}
use Rattle.vp_expr.specs.declared.change.Change.{Change}
use Rattle.vp_vpi.specs.declared.races.ShownRace.{ShownRace}
use Rattle.vp_answer.specs.declared.query.Query.{Query}
use Rattle.vp_answer.specs.declared.request.SessionId.{SessionId}
use Rattle.vp_answer.specs.declared.reply.Refusal.TheVariants as refusal
use Rattle.vp_answer.specs.declared.reply.Reply.TheVariants as reply
use Rattle.vp_answer.specs.Answers.{Response, respond}
use Rattle.vp_answer.specs.OpenSessions.{OpenSessionState, index_of, notified_session}
use Rattle.vp_replay.specs.Seen.{observer_seen}
use Rattle.vp_replay.specs.Parts.{Asks, Item, Part, observer_of_part, part_after_entry, races_after, reply_of, response_in, values_after, with_answer, with_own}
use Rattle.vp_answer.proofs.Lists.{map_same}

-- what stands at an index
pub at_index : {X : Type 0} (xs : List X) (i : ℕ) (x : X) → i < length xs → x ≡ slice_index_or xs i x → slice_get xs i ≡ Some x
at_index [] i x within is = absurd (omega arith)
at_index (y ∷ xs) zero x within is = ap Some (sym is)
at_index (y ∷ xs) (suc i) x within is = at_index xs i x (omega arith) is

module _ (p : Part) (id : SessionId) (r : Query) (index : ℕ) (session : OpenSessionState) (at : index_of p.sessions id ≡ Some index) (there : slice_get p.sessions index ≡ Some session) where
  -- the reply to a query is that of its session
  pub asked_reply : reply_of p (Asks id r) ≡ (respond (observer_of_part p) session.session_state r).reply
  asked_reply =
      ap (λ n. option_map_or (λ (g : Response). g.reply) (response_in p (option_and_then (slice_get p.sessions) n) r) (reply.Error refusal.NotOpen)) at
      ∙ ap (λ x. option_map_or (λ (g : Response). g.reply) (response_in p x r) (reply.Error refusal.NotOpen)) there

  -- and the session is as it leaves it
  pub asked_after : with_own p (Asks id r) ≡ record p { sessions = slice_set p.sessions index (record { id = session.id; session_state = (respond (observer_of_part p) session.session_state r).session_state }) }
  asked_after =
      ap (λ (ts : List OpenSessionState). (let q : Part = record p { sessions = ts } in q))
      (ap (λ n. option_map_or (λ k. with_answer p.sessions k (slice_get p.sessions k) (response_in p (slice_get p.sessions k) r)) n p.sessions) at
      ∙ ap (λ x. with_answer p.sessions index x (response_in p x r)) there)

-- what can be looked up in a part, by its fields
pub observations_are : (v : View) (values values' : List (Option (List Bit))) (time : ℕ) (finished : Bool) (races races' : List ShownRace) → values ≡ values' → races ≡ races'
    → observer_seen v values time finished races ≡ observer_seen v values' time finished races'
observations_are v values values' time finished races races' h k = ap (λ x. observer_seen v x time finished races) h ∙ ap (λ x. observer_seen v values' time finished x) k

-- ---- what else goes to him

-- the part after a change, at a time
abbrev pub changed_part : Part → (time : ℕ) → (finished : Bool) → Option Change → Part
changed_part p time finished change = record p { sessions = map (notified_session change time) p.sessions; values = values_after p.values change; time = time; finished = finished }

-- after none it is as before, but for the time
pub unchanged_part : (p : Part) (time : ℕ) (finished : Bool) → record p { time = time; finished = finished } ≡ changed_part p time finished None
unchanged_part p time finished =
    ap (λ (ts : List OpenSessionState). (let q : Part = record p { sessions = ts; time = time; finished = finished } in q))
    (sym (map_same (notified_session None time) (λ t. refl) p.sessions))

-- with a race, if one is shown, it is the part after what of an entry goes to him
pub entry_part : (p q : Part) (i : Item) (time : ℕ) (finished : Bool) (change : Option Change) (race : Option ShownRace) → time ≡ unwrap_or i.time p.time → finished ≡ unwrap_or i.finished p.finished
    → i.change ≡ change → i.race ≡ race → q ≡ changed_part p time finished change → record q { races = races_after q.races race } ≡ part_after_entry p None i
entry_part p q i time finished change race at flag changes shows is =
    ap (λ (x : Part). (let y : Part = record x { races = races_after x.races race } in y)) is
    ∙ ap (λ c. (let y : Part = record (changed_part p time finished c) { races = races_after p.races race } in y)) (sym changes)
    ∙ ap (λ r. (let y : Part = record (changed_part p time finished i.change) { races = races_after p.races r } in y)) (sym shows)
    ∙ ap (λ t. (let y : Part = record (changed_part p t finished i.change) { races = races_after p.races i.race } in y)) at
    ∙ ap (λ f. (let y : Part = record (changed_part p (unwrap_or i.time p.time) f i.change) { races = races_after p.races i.race } in y)) flag

-- The calls of sessions in a log of five entries. Each row is an equation that holds by computation, or a proof of what is meant.
use Rattle.std.proofs.Common.{◌≡◌, List, [], ◌∷◌, None, codes, false, inl, inr, refl}
use Rattle.vp_answer.specs.declared.query.Query.TheVariants as query
use Rattle.vp_answer.specs.declared.reply.Reply.{Reply}
use Rattle.vp_answer.specs.declared.reply.Reply.TheVariants as reply
use Rattle.vp_answer.specs.declared.request.SessionId.{SessionId}
use Rattle.vp_world.specs.declared.event.Event.{Event}
use Rattle.vp_world.specs.declared.event.Event.TheVariants as event
use Rattle.vp_world.specs.Entries.{Entry}
use Rattle.vp_hub.specs.Calls.{IsSublist, Passed, after_call, entry_indexes, session_entries, sessions_opened}

-- an entry that changed nothing
abbrev entry : Event → Reply → Entry
entry e answer = record { event = e; reply = answer; change = None; time = 0; finished = false }

-- the first sessions of two users, and the second of the first
abbrev ann : SessionId
ann = record { user = record { 0 = 0 }; opens = 1 }

abbrev bob : SessionId
bob = record { user = record { 0 = 1 }; opens = 1 }

abbrev ann_again : SessionId
ann_again = record { user = record { 0 = 0 }; opens = 2 }

-- Ann opens a session, a step is taken, Bob opens one, Ann asks for the time, and Bob closes his
abbrev log : List Entry
log = entry (event.Open (codes "ann") (codes "t1")) (reply.Opened ann) ∷ entry (event.Step 0) reply.Done
    ∷ entry (event.Open (codes "bob") (codes "t2")) (reply.Opened bob) ∷ entry (event.Ask ann query.Time) (reply.Time 0 false)
    ∷ entry (event.Close bob) reply.Done ∷ []

-- the indexes of Ann's calls, of Bob's, and of a session's that was not opened
of_ann : entry_indexes log ann ≡ 0 ∷ 3 ∷ []
of_ann = refl

of_bob : entry_indexes log bob ≡ 2 ∷ 4 ∷ []
of_bob = refl

of_none : entry_indexes log ann_again ≡ []
of_none = refl

-- together all but the step
all_calls : session_entries log ≡ 4
all_calls = refl

-- the sessions, in the order in which they were opened
opened : sessions_opened log ≡ ann ∷ bob ∷ []
opened = refl

-- some of them, in their order
some : IsSublist (0 ∷ 3 ∷ []) (0 ∷ 2 ∷ 3 ∷ [])
some = inl (refl, inr (inl (refl, tt)))

-- none twice, and none in another order
not_twice : IsSublist (0 ∷ 0 ∷ []) (0 ∷ 2 ∷ []) → ⊥
not_twice (inl (same, rest)) = other rest where
  other : IsSublist (0 ∷ []) (2 ∷ []) → ⊥
  other (inl (e, more)) = absurd (cc)
  other (inr more) = more
not_twice (inr rest) = other rest where
  other : IsSublist (0 ∷ 0 ∷ []) (2 ∷ []) → ⊥
  other (inl (e, more)) = absurd (cc)
  other (inr more) = more

-- Ann's pass after her opening, and after her call
abbrev at_first : Passed
at_first = record { session = ann; indexes = 0 ∷ []; seen = []; amount = 1; parts = 1 }

called : after_call at_first 3 log ≡ record { session = ann; indexes = 0 ∷ 3 ∷ []; seen = log; amount = 2; parts = 1 }
called = refl

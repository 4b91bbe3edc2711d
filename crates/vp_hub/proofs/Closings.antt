-- The indexes of a session's entries, one entry after another.
use Rattle.std.proofs.Common.{◌≡◌, ◌∙◌, ◌<◌, ℕ, zero, suc, ◌+◌, cond, Bool, true, false, List, [], ◌∷◌, ◌++◌, filter, length, Some, refl, sym, ap, subst, append-nil, append_assoc, arith}
use Rattle.std.specs.Prelude.{slice_get}
use Rattle.std.specs.Option.{option_map_or}
use Rattle.std.proofs.lemmas.Bool.Decides.{nat_tests}
use Rattle.std.proofs.lemmas.List.{length_push}
use Rattle.std.proofs.lemmas.List.Elements.{filter-append}
use mathlib.Core.List.{IsPrefix}
use Rattle.vp_elab.specs.Tree.{below}
use Rattle.vp_answer.specs.declared.request.SessionId.{SessionId}
use Rattle.vp_answer.specs.OpenSessions.{same_session}
use Rattle.vp_world.specs.Entries.{Entry, session_in}
use Rattle.vp_hub.specs.Calls.{IsSublist, entry_indexes, is_own, is_own_at}
use Rattle.vp_hub.proofs.Lists.{get_last}
use Rattle.vp_hub.proofs.Sublists.{sub_append, sub_push}

-- of one index more
filter_below : (p : ℕ → Bool) (n : ℕ) → filter p (below (n + 1)) ≡ filter p (below n) ++ cond (p n) (n ∷ []) []
filter_below p n = let more : n + 1 ≡ suc n = omega arith in ap (λ k. filter p (below k)) more ∙ filter-append p (below n) (n ∷ [])

-- an entry of the session is of one index more
pub own_more : (log : List Entry) (id : SessionId) (n : ℕ) (e : Entry) → slice_get log n ≡ Some e → is_own id e ≡ true → filter (is_own_at log id) (below (n + 1)) ≡ filter (is_own_at log id) (below n) ++ n ∷ []
own_more log id n e at own =
    filter_below (is_own_at log id) n
    ∙ ap (λ b. filter (is_own_at log id) (below n) ++ cond b (n ∷ []) []) (ap (λ o. option_map_or (is_own id) o false) at ∙ own)

-- another entry is of none
pub own_same : (log : List Entry) (id : SessionId) (n : ℕ) (e : Entry) → slice_get log n ≡ Some e → is_own id e ≡ false → filter (is_own_at log id) (below (n + 1)) ≡ filter (is_own_at log id) (below n)
own_same log id n e at other =
    filter_below (is_own_at log id) n
    ∙ ap (λ b. filter (is_own_at log id) (below n) ++ cond b (n ∷ []) []) (ap (λ o. option_map_or (is_own id) o false) at ∙ other)
    ∙ append-nil (filter (is_own_at log id) (below n))

-- what is alike below a number selects alike
filter_same : (p q : ℕ → Bool) (n : ℕ) → ((k : ℕ) → k < n → p k ≡ q k) → filter p (below n) ≡ filter q (below n)
filter_same p q zero same = refl
filter_same p q (suc n) same =
    filter-append p (below n) (n ∷ [])
    ∙ (λ i. filter_same p q n (λ k less. same k (omega arith)) i ++ cond (same n (omega arith) i) (n ∷ []) [])
    ∙ sym (filter-append q (below n) (n ∷ []))

-- an entry stays where it is
get_front : {X : Type 0} (xs ys : List X) (k : ℕ) → k < length xs → slice_get (xs ++ ys) k ≡ slice_get xs k
get_front [] ys k within = absurd (omega arith)
get_front (x ∷ xs) ys zero within = refl
get_front (x ∷ xs) ys (suc k) within = get_front xs ys k (omega arith)

-- a log with one entry more
pub indexes_more : (log : List Entry) (e : Entry) (id : SessionId) → entry_indexes (log ++ e ∷ []) id ≡ entry_indexes log id ++ cond (is_own id e) (length log ∷ []) []
indexes_more log e id =
    let n = length log in
    let last : is_own_at (log ++ e ∷ []) id n ≡ is_own id e = ap (λ o. option_map_or (is_own id) o false) (get_last log e) in
    let before : filter (is_own_at (log ++ e ∷ []) id) (below n) ≡ entry_indexes log id =
    filter_same (is_own_at (log ++ e ∷ []) id) (is_own_at log id) n (λ k less. ap (λ o. option_map_or (is_own id) o false) (get_front log (e ∷ []) k less)) in
    ap (λ k. filter (is_own_at (log ++ e ∷ []) id) (below k)) (length_push log e)
    ∙ filter_below (is_own_at (log ++ e ∷ []) id) n
    ∙ (λ i. before i ++ cond (last i) (n ∷ []) [])

-- with one of the session
pub indexes_own : (log : List Entry) (e : Entry) (id : SessionId) → is_own id e ≡ true → entry_indexes (log ++ e ∷ []) id ≡ entry_indexes log id ++ length log ∷ []
indexes_own log e id own = indexes_more log e id ∙ ap (λ b. entry_indexes log id ++ cond b (length log ∷ []) []) own

-- a log with more entries
indexes_longer : (xs : List ℕ) (log more : List Entry) (id : SessionId) → IsSublist xs (entry_indexes log id) → IsSublist xs (entry_indexes (log ++ more) id)
indexes_longer xs log [] id sub = subst (λ (l : List Entry). IsSublist xs (entry_indexes l id)) (sym (append-nil log)) sub
indexes_longer xs log (e ∷ es) id sub =
    let one : IsSublist xs (entry_indexes (log ++ e ∷ []) id) =
    subst (IsSublist xs) (sym (indexes_more log e id)) (sub_append xs (entry_indexes log id) (cond (is_own id e) (length log ∷ []) []) sub) in
    subst (λ (l : List Entry). IsSublist xs (entry_indexes l id)) (append_assoc log (e ∷ []) es) (indexes_longer xs (log ++ e ∷ []) es id one)

-- a log that goes on from another
pub indexes_on : (xs : List ℕ) (seen log : List Entry) (id : SessionId) → IsPrefix seen log → IsSublist xs (entry_indexes seen id) → IsSublist xs (entry_indexes log id)
indexes_on xs seen log id on sub = subst (λ (l : List Entry). IsSublist xs (entry_indexes l id)) on.1 (indexes_longer xs seen on.0 id sub)

-- an entry of a session is its own
pub own_entry : (id : SessionId) (e : Entry) → session_in e.event e.reply ≡ Some id → is_own id e ≡ true
own_entry id e of =
    let same : same_session id id ≡ true = grind (arith, nat_tests) in
    ap (λ o. option_map_or (λ own. same_session own id) o false) of ∙ same

-- the calls of a session, and one more at the end of a log that goes on
pub own_after : (xs : List ℕ) (seen log : List Entry) (e : Entry) (id : SessionId) → IsPrefix seen log → IsSublist xs (entry_indexes seen id) → is_own id e ≡ true → IsSublist (xs ++ length log ∷ []) (entry_indexes (log ++ e ∷ []) id)
own_after xs seen log e id on sub own =
    subst (IsSublist (xs ++ length log ∷ [])) (sym (indexes_own log e id own))
    (sub_push xs (entry_indexes log id) (length log) (indexes_on xs seen log id on sub))

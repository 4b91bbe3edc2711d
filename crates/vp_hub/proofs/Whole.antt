-- Passes of different sessions that have made as many calls as a log has entries of sessions have all of them.
use Rattle.std.proofs.Common.{◌≡◌, ◌∙◌, ◌≤◌, ◌==◌, ℕ, ◌+◌, All, Bool, true, false, cond, List, [], ◌∷◌, ◌++◌, Option, Some, None, append-nil, append_assoc, ap, arith, count_by, get_or, length, length-append, refl, sum_by, sym}
use Rattle.std.specs.Option.{option_map_or}
use Rattle.std.proofs.lemmas.Bool.{and_parts}
use Rattle.std.proofs.lemmas.List.Sums.{sum_by-cons}
use Rattle.vp_answer.specs.declared.request.SessionId.{SessionId}
use Rattle.vp_answer.specs.OpenSessions.{same_session}
use Rattle.vp_answer.specs.declared.reply.Reply.{Reply}
use Rattle.vp_world.specs.declared.event.Event.{Event}
use Rattle.vp_world.specs.declared.event.Event.TheVariants as event
use Rattle.vp_world.specs.Entries.{Entry, session_in}
use Rattle.vp_hub.specs.Calls.{IsSublist, Passed, entry_indexes, is_of_session, is_own, session_entries}
use Rattle.vp_hub.specs.Closing.{HaveAll}
use Rattle.vp_hub.specs.Desks.{KeepsPasses}
use Rattle.vp_hub.proofs.Closings.{indexes_more, indexes_on}
use Rattle.vp_hub.proofs.Sublists.{sub_whole, sub_within}
use Rattle.vp_hub.proofs.Sums.{counts_within, sum_meets}

-- ---- an entry is of one session at most

-- sessions' names that are the same are one
one_session : (a b : SessionId) → same_session a b ≡ true → a ≡ b
one_session a b same =
    let both = and_parts (a.user.0 == b.user.0) (a.opens == b.opens) same in
    let user : a.user.0 ≡ b.user.0 = grind (arith, both.0) in
    let opens : a.opens ≡ b.opens = grind (arith, both.1) in
    λ i. record { user = record { 0 = user i }; opens = opens i }

-- whose it is
own_session : (id : SessionId) (e : Entry) → is_own id e ≡ true → session_in e.event e.reply ≡ Some id
own_session id e own = by (session_in e.event e.reply) own where
  by : (o : Option SessionId) → option_map_or (λ s. same_session s id) o false ≡ true → o ≡ Some id
  by None is = absurd (cc)
  by (Some s) is = ap Some (one_session s id is)

-- it is of one alone
own_one : (a b : SessionId) (e : Entry) → is_own a e ≡ true → is_own b e ≡ true → a ≡ b
own_one a b e first second = let both : Some a ≡ Some b = sym (own_session a e first) ∙ own_session b e second in cc

-- an event that has a session is of one
of_session : (e : Event) (answer : Reply) (id : SessionId) → session_in e answer ≡ Some id → is_of_session e ≡ true
of_session (event.Open user token) answer id is = refl
of_session (event.Ask s r) answer id is = refl
of_session (event.Close s) answer id is = refl
of_session (event.Grant change) answer id is = absurd (cc)
of_session (event.End order) answer id is = absurd (cc)
of_session (event.Halt order) answer id is = absurd (cc)
of_session (event.Step k) answer id is = absurd (cc)
of_session event.Advance answer id is = absurd (cc)
of_session event.TakeJob answer id is = absurd (cc)
of_session (event.Book finding) answer id is = absurd (cc)

-- so it is counted
own_counted : (id : SessionId) (e : Entry) → is_own id e ≡ true → is_of_session e.event ≡ true
own_counted id e own = of_session e.event e.reply id (own_session id e own)

-- ---- as many indexes as entries

-- one or none
one_or_none : (b : Bool) (n : ℕ) → length (cond b (n ∷ []) []) ≡ cond b 1 0
one_or_none true n = refl
one_or_none false n = refl

-- of a log that goes on
counts_on : (log more : List Entry) (id : SessionId) → length (entry_indexes (log ++ more) id) ≡ length (entry_indexes log id) + count_by (is_own id) more
counts_on log [] id = ap (λ (l : List Entry). length (entry_indexes l id)) (append-nil log) ∙ omega arith
counts_on log (e ∷ more) id =
    let first : length (entry_indexes (log ++ e ∷ []) id) ≡ length (entry_indexes log id) + cond (is_own id e) 1 0 =
    ap (λ (l : List ℕ). length l) (indexes_more log e id) ∙ length-append (entry_indexes log id) (cond (is_own id e) (length log ∷ []) [])
    ∙ ap (λ (n : ℕ). length (entry_indexes log id) + n) (one_or_none (is_own id e) (length log)) in
    let rest = counts_on (log ++ e ∷ []) more id in
    let all : length (entry_indexes (log ++ e ∷ more) id) ≡ length (entry_indexes ((log ++ e ∷ []) ++ more) id) =
    ap (λ (l : List Entry). length (entry_indexes l id)) (sym (append_assoc log (e ∷ []) more)) in
    let count = sum_by-cons (λ (x : Entry). cond (is_own id x) 1 0) e more in
    omega (arith, all, rest, first, count)

-- of all of it
counts : (log : List Entry) (id : SessionId) → length (entry_indexes log id) ≡ count_by (is_own id) log
counts log id = let all = counts_on [] log id in omega (arith, all)

-- ---- all calls

-- a pass's calls are of its session
sub_of : (log : List Entry) (out : List SessionId) (back : List Passed) → KeepsPasses log out back → All (λ (p : Passed). IsSublist p.indexes (entry_indexes log p.session)) back
sub_of log out back keeps k d within =
    let p : Passed = get_or back k d in
    indexes_on p.indexes p.seen log p.session (keeps.seen k d within) (keeps.kept k d within).own

-- passes that were handed back, of which all calls together are those of the log
pub have_all : (log : List Entry) (out : List SessionId) (back : List Passed) → KeepsPasses log out back → sum_by (λ (p : Passed). length p.indexes) back ≡ session_entries log → HaveAll log back
have_all log out back keeps counted =
    let sub = sub_of log out back keeps in
    let few : All (λ (p : Passed). length p.indexes ≤ count_by (is_own p.session) log) back =
    λ k d within. let p : Passed = get_or back k d in let less = sub_within p.indexes (entry_indexes log p.session) (sub k d within) in let many = counts log p.session in omega (arith, less, many) in
    let most = counts_within (λ (p : Passed). p.session) is_own (λ (e : Entry). is_of_session e.event) own_one own_counted back keeps.back_apart log in
    let same = sum_meets (λ (p : Passed). length p.indexes) (λ (p : Passed). count_by (is_own p.session) log) back few (omega (arith, most, counted)) in
    record {
      whole = λ k d within.
          let p : Passed = get_or back k d in
          let many = counts log p.session in
          record {
            seen = keeps.seen k d within;
            indexes = sub_whole p.indexes (entry_indexes log p.session) (sub k d within) (same k d within ∙ sym many);
          };
      apart = keeps.back_apart;
      counted = counted;
    }

-- The passes of a hub, as its log goes on, and as they are given out and handed back.
use Rattle.std.proofs.Common.{◌≡◌, ◌≢◌, ◌∙◌, ◌<◌, ℕ, suc, ◌+◌, All, AllPairs, List, [], ◌∷◌, ◌++◌, Some, Contains, append_assoc, ap, arith, drop, get_or, length, remove, subst, sym, take}
use Rattle.std.specs.Prelude.{slice_get, option_to_list}
use Rattle.std.proofs.lemmas.Bool.{cases_lt}
use Rattle.std.proofs.lemmas.List.Edits.{get_or-remove_above, get_or-remove_below, length-remove}
use Rattle.std.proofs.lemmas.List.Elements.{All-append, All-contains, All-drop, All-nil, All-push, All-take, All-weaker, Contains-append_left, Contains-push, filter_map-append}
use Rattle.std.proofs.lemmas.List.Quantifiers.{all_pairs_push, all_pairs_remove}
use Rattle.std.proofs.lemmas.Option.{get_or_from_slice_get, slice_get_within}
use mathlib.Core.List.{IsPrefix}
use mathlib.Core.Logic.{⊎_elim}
use Rattle.vp_answer.specs.declared.request.SessionId.{SessionId}
use Rattle.vp_world.specs.Entries.{Entry}
use Rattle.vp_hub.specs.Calls.{IsOpenedIn, Keeps, Passed, opened_in, sessions_opened}
use Rattle.vp_hub.specs.Desks.{KeepsPasses}
use Rattle.vp_hub.proofs.Opened.{opened_more}

-- what was opened stays so
opened_on : (log more : List Entry) (id : SessionId) → IsOpenedIn log id → IsOpenedIn (log ++ more) id
opened_on log more id opened =
    subst (λ (l : List SessionId). Contains l id) (sym (filter_map-append (λ (e : Entry). opened_in e.event e.reply) log more))
    (Contains-append_left (sessions_opened log) (sessions_opened more) id opened)

-- what a longer log begins with
seen_on : (seen log more : List Entry) → IsPrefix seen log → IsPrefix seen (log ++ more)
seen_on seen log more on = (on.0 ++ more, sym (append_assoc seen on.0 more) ∙ ap (λ (l : List Entry). l ++ more) on.1)

-- before anything has happened
pub none_out : KeepsPasses [] [] []
none_out = record {
  out_opened = All-nil (IsOpenedIn []);
  back_opened = All-nil (λ (p : Passed). IsOpenedIn [] p.session);
  kept = All-nil Keeps;
  seen = All-nil (λ (p : Passed). IsPrefix p.seen []);
  out_apart = λ i j d less within. absurd (omega arith);
  back_apart = λ i j d less within. absurd (omega arith);
  apart = All-nil (λ (s : SessionId). All (λ (p : Passed). p.session ≢ s) []);
}

-- the log goes on
pub passes_on : (log more : List Entry) (out : List SessionId) (back : List Passed) → KeepsPasses log out back → KeepsPasses (log ++ more) out back
passes_on log more out back keeps = record {
  out_opened = All-weaker (IsOpenedIn log) (IsOpenedIn (log ++ more)) (λ id opened. opened_on log more id opened) out keeps.out_opened;
  back_opened = All-weaker (λ (p : Passed). IsOpenedIn log p.session) (λ (p : Passed). IsOpenedIn (log ++ more) p.session) (λ p opened. opened_on log more p.session opened) back keeps.back_opened;
  kept = keeps.kept;
  seen = All-weaker (λ (p : Passed). IsPrefix p.seen log) (λ (p : Passed). IsPrefix p.seen (log ++ more)) (λ p on. seen_on p.seen log more on) back keeps.seen;
  out_apart = keeps.out_apart;
  back_apart = keeps.back_apart;
  apart = keeps.apart;
}

-- a session is opened that was not opened before
pub pass_out : (log : List Entry) (e : Entry) (id : SessionId) (out : List SessionId) (back : List Passed) → opened_in e.event e.reply ≡ Some id → All (λ s. s ≢ id) (sessions_opened log) → KeepsPasses log out back → KeepsPasses (log ++ e ∷ []) (out ++ id ∷ []) back
pass_out log e id out back opens anew keeps =
    let on = passes_on log (e ∷ []) out back keeps in
    let is_new : (s : SessionId) → IsOpenedIn log s → s ≢ id = λ s opened. All-contains (λ (t : SessionId). t ≢ id) (sessions_opened log) s anew opened in
    let opened : IsOpenedIn (log ++ e ∷ []) id =
    subst (λ (l : List SessionId). Contains l id) (sym (opened_more log e ∙ ap (λ o. sessions_opened log ++ option_to_list o) opens)) (Contains-push (sessions_opened log) id) in
    record {
      out_opened = All-push (IsOpenedIn (log ++ e ∷ [])) out id on.out_opened opened;
      back_opened = on.back_opened;
      kept = on.kept;
      seen = on.seen;
      out_apart = all_pairs_push (λ (s t : SessionId). s ≢ t) out id keeps.out_apart (λ k d within. is_new (get_or out k d) (keeps.out_opened k d within));
      back_apart = keeps.back_apart;
      apart = All-push (λ (s : SessionId). All (λ (p : Passed). p.session ≢ s) back) out id keeps.apart
          (λ k d within. is_new (Passed.session (get_or back k d)) (keeps.back_opened k d within));
    }

-- what is true of all is true of all but one
all_but : {X : Type 0} (P : X → Type 0) (xs : List X) (n : ℕ) → All P xs → All P (remove xs n)
all_but P xs n all = All-append P (take n xs) (drop (suc n) xs) (All-take P n xs all) (All-drop P (suc n) xs all)

-- the others differ from one of those that differ from one another
others_apart : {X : Type 0} (xs : List X) (n : ℕ) (x : X) → slice_get xs n ≡ Some x → AllPairs (λ (a b : X). a ≢ b) xs → All (λ y. y ≢ x) (remove xs n)
others_apart xs n x at apart k d within =
    let is : get_or xs n d ≡ x = get_or_from_slice_get xs n x d at in
    let there : n < length xs = slice_get_within xs n x at in
    let long = length-remove xs n there in
    ⊎_elim
    (λ before. λ same. apart k n d before there (sym (get_or-remove_below xs n d k before there) ∙ same ∙ sym is))
    (λ past. λ same. apart n (k + 1) d (omega (arith, past)) (omega (arith, long, within)) (is ∙ sym same ∙ get_or-remove_above xs n d k past there))
    (cases_lt k n)

-- a pass is handed back
pub pass_back : (log : List Entry) (out : List SessionId) (back : List Passed) (n : ℕ) (p : Passed) → slice_get out n ≡ Some p.session → Keeps p → IsPrefix p.seen log → KeepsPasses log out back → KeepsPasses log (remove out n) (back ++ p ∷ [])
pass_back log out back n p at its on keeps =
    let there : n < length out = slice_get_within out n p.session at in
    let is : get_or out n p.session ≡ p.session = get_or_from_slice_get out n p.session p.session at in
    let others = others_apart out n p.session at keeps.out_apart in
    let unlike = all_but (λ (s : SessionId). All (λ (q : Passed). q.session ≢ s) back) out n keeps.apart in
    let opened : IsOpenedIn log p.session = subst (IsOpenedIn log) is (keeps.out_opened n p.session there) in
    let back_unlike : All (λ (q : Passed). q.session ≢ p.session) back = subst (λ (s : SessionId). All (λ (q : Passed). q.session ≢ s) back) is (keeps.apart n p.session there) in
    record {
      out_opened = all_but (IsOpenedIn log) out n keeps.out_opened;
      back_opened = All-push (λ (q : Passed). IsOpenedIn log q.session) back p keeps.back_opened opened;
      kept = All-push Keeps back p keeps.kept its;
      seen = All-push (λ (q : Passed). IsPrefix q.seen log) back p keeps.seen on;
      out_apart = all_pairs_remove (λ (s t : SessionId). s ≢ t) out n there keeps.out_apart;
      back_apart = all_pairs_push (λ (q r : Passed). q.session ≢ r.session) back p keeps.back_apart (λ k d within. back_unlike k d within);
      apart = λ k d within. All-push (λ (q : Passed). q.session ≢ get_or (remove out n) k d) back p (unlike k d within) (λ same. others k d within (sym same));
    }

-- Active events by the counts of the updates of nets.
use Rattle.std.proofs.Common.{◌≡◌, ◌∙◌, ℕ, ◌+◌, ◌-◌, ◌<◌, Bool, true, false, cond, eqb, ltb, List, [], ◌∷◌, ◌++◌, Some, inl, inr, ap, refl, sym, arith, length, get_or, set, get_or-set_other, get_or-set_same, lt-ltb, le-ltb, ne_eqb}
use Rattle.std.specs.Prelude.{slice_get}
use Rattle.std.specs.List.{All, count_by, list_any, remove}
use Rattle.std.proofs.lemmas.Bool.{cases_eq, cases_lt, eq-eqb, or_parts, true_from_ne_false}
use Rattle.std.proofs.lemmas.List.{get_or_past}
use Rattle.std.proofs.lemmas.List.Elements.{All-append, All-nil, All-push}
use Rattle.std.proofs.lemmas.List.Sums.{count_by_more_yes, get_or-le-sum_by, sum_by-cons, sum_by-remove, sum_by-take-le, sum_by_push}
use Rattle.std.proofs.lemmas.Option.{get_or_from_slice_get, slice_get_within}
use Rattle.vp_active_events.specs.declared.event.Event.{Event}
use Rattle.vp_active_events.specs.declared.event.Event.TheVariants.{Evaluation, NetUpdate, Nonblocking}
use Rattle.vp_active_events.specs.Events.{AreCounted, drives, is_nonblocking}
use Rattle.vp_active_events.specs.declared.slot.Slot.{Slot}
use Rattle.vp_active_events.specs.declared.slot.Slot.TheVariants as slots
use Rattle.vp_active_events.specs.Slots.{IsPushed, events_at, events_of}
use Rattle.vp_active_events.specs.laws.Choosing.{none}

-- no event of slots is an update of a nonblocking assignment
pub no_nonblocking : (ss : List Slot) → All (λ e. is_nonblocking e ≡ false) (events_of ss)
no_nonblocking [] = All-nil (λ (e : Event). is_nonblocking e ≡ false)
no_nonblocking (s ∷ ss) = All-append (λ (e : Event). is_nonblocking e ≡ false) (events_at s) (events_of ss) (here s) (no_nonblocking ss)
  where
    here : (s : Slot) → All (λ e. is_nonblocking e ≡ false) (events_at s)
    here slots.Empty = All-nil (λ (e : Event). is_nonblocking e ≡ false)
    here (slots.Evaluation process) = All-push (λ (e : Event). is_nonblocking e ≡ false) [] (Evaluation process) (All-nil (λ (e : Event). is_nonblocking e ≡ false)) refl
    here (slots.NetUpdate process value waiting) = All-push (λ (e : Event). is_nonblocking e ≡ false) [] (NetUpdate process value) (All-nil (λ (e : Event). is_nonblocking e ≡ false)) refl

at_place : (events : List Event) (updates : List ℕ) → AreCounted events updates → All (λ e. is_nonblocking e ≡ false) events → (k : ℕ) (d : Event) → k < length events → (e : Event) → get_or events k d ≡ e → IsPushed (length updates) e
at_place events updates counted none k d within (Evaluation process) is = tt
at_place events updates counted none k d within (NetUpdate process value) is =
    let passes : drives process (get_or events k d) ≡ true = ap (drives process) is ∙ eq-eqb process process refl in
    let more = count_by_more_yes (drives process) events k d within passes in
    let few = sum_by-take-le (λ e. cond (drives process e) 1 0) events (k + 1) in
    elim (cases_lt process (length updates)) [
      | inl h ↦ h
      | inr h ↦ absurd (omega (arith, more, few, counted process, get_or_past updates process 0 h))
    ]
at_place events updates counted none k d within (Nonblocking update) is =
    let no : true ≡ false = sym (ap is_nonblocking is) ∙ none k d within in absurd cc

-- each update of a net that is counted is by one of the processes whose updates are counted
pub of_processes : (ss : List Slot) (updates : List ℕ) → AreCounted (events_of ss) updates → All (λ e. IsPushed (length updates) e) (events_of ss)
of_processes ss updates counted k d within = at_place (events_of ss) updates counted (no_nonblocking ss) k d within (get_or (events_of ss) k d) refl

-- ---- the counts of the updates of nets

-- an event counts for the net of a process
abbrev counts_for : (process : ℕ) → Event → ℕ
counts_for process e = cond (drives process e) 1 0

-- one more update is counted
pub counted_push : (es : List Event) (us : List ℕ) (p : ℕ) (e : Event) → AreCounted es us → p < length us → ((r : ℕ) → drives r e ≡ eqb p r) → AreCounted (es ++ e ∷ []) (set us p (get_or us p 0 + 1))
counted_push es us p e counted within of r =
    let more = sum_by_push (counts_for r) es e in
    let before = counted r in
    elim (cases_eq p r) [
      | inl same ↦
          (let one : counts_for r e ≡ 1 = ap (λ b. cond b 1 0) (of r ∙ eq-eqb p r same) in
          let at : get_or (set us p (get_or us p 0 + 1)) r 0 ≡ get_or us r 0 + 1 =
          ap (λ (n : ℕ). get_or (set us p (get_or us p 0 + 1)) n 0) (sym same) ∙ get_or-set_same us p (get_or us p 0 + 1) 0 within ∙ ap (λ (n : ℕ). get_or us n 0 + 1) same in
          omega (arith, more, before, one, at))
      | inr other ↦
          (let none : counts_for r e ≡ 0 = ap (λ b. cond b 1 0) (of r ∙ ne_eqb p r other) in
          let at = get_or-set_other us p r (get_or us p 0 + 1) 0 (λ h. other (sym h)) in
          omega (arith, more, before, none, at))
    ]

-- an event that is no update of a net is not counted
pub counted_more : (es : List Event) (us : List ℕ) (e : Event) → AreCounted es us → ((r : ℕ) → drives r e ≡ false) → AreCounted (es ++ e ∷ []) us
counted_more es us e counted none r =
    let more = sum_by_push (counts_for r) es e in
    let zero : counts_for r e ≡ 0 = ap (λ b. cond b 1 0) (none r) in
    let before = counted r in
    omega (arith, more, before, zero)

counted_rest : (es : List Event) (p : ℕ) (e : Event) (r : ℕ) → slice_get es p ≡ Some e → count_by (drives r) (remove es p) + counts_for r e ≡ count_by (drives r) es
counted_rest es p e r found =
    let all = sum_by-remove (counts_for r) es p e (slice_get_within es p e found) in
    let here = ap (counts_for r) (get_or_from_slice_get es p e e found) in
    omega (arith, all, here)

-- an update is over
pub counted_fewer : (es : List Event) (us : List ℕ) (p q : ℕ) (e : Event) → AreCounted es us → slice_get es p ≡ Some e → ((r : ℕ) → drives r e ≡ eqb q r) → AreCounted (remove es p) (set us q (get_or us q 0 - 1))
counted_fewer es us p q e counted found of r =
    let rest = counted_rest es p e r found in
    let before = counted r in
    elim (cases_eq q r) [
      | inl same ↦
          (let one : counts_for r e ≡ 1 = ap (λ b. cond b 1 0) (of r ∙ eq-eqb q r same) in
          let some : 0 < get_or us q 0 = let here = ap (λ (n : ℕ). get_or us n 0) same in omega (arith, rest, before, one, here) in
          let within : q < length us = elim (cases_lt q (length us)) [
            | inl h ↦ h
            | inr h ↦ absurd (omega (arith, some, get_or_past us q 0 h))
          ] in
          let at : get_or (set us q (get_or us q 0 - 1)) r 0 ≡ get_or us r 0 - 1 =
          ap (λ (n : ℕ). get_or (set us q (get_or us q 0 - 1)) n 0) (sym same) ∙ get_or-set_same us q (get_or us q 0 - 1) 0 within ∙ ap (λ (n : ℕ). get_or us n 0 - 1) same in
          omega (arith, rest, before, one, at))
      | inr other ↦
          (let none : counts_for r e ≡ 0 = ap (λ b. cond b 1 0) (of r ∙ ne_eqb q r other) in
          let at = get_or-set_other us q r (get_or us q 0 - 1) 0 (λ h. other (sym h)) in
          omega (arith, rest, before, none, at))
    ]

-- an event is over that is no update of a net
pub counted_same : (es : List Event) (us : List ℕ) (p : ℕ) (e : Event) → AreCounted es us → slice_get es p ≡ Some e → ((r : ℕ) → drives r e ≡ false) → AreCounted (remove es p) us
counted_same es us p e counted found none r =
    let rest = counted_rest es p e r found in
    let zero : counts_for r e ≡ 0 = ap (λ b. cond b 1 0) (none r) in
    let before = counted r in
    omega (arith, rest, before, zero)

-- ---- some are counted

none_counted : {X : Type 0} (f : X → Bool) (xs : List X) → list_any f xs ≡ false → count_by f xs ≡ 0
none_counted f [] h = refl
none_counted f (x ∷ xs) h =
    let parts = or_parts (f x) (list_any f xs) h in
    let rest = none_counted f xs parts.1 in
    let weight : Bool → ℕ = λ b. cond b 1 0 in
    let zero = ap weight parts.0 in
    let all = sum_by-cons (λ y. cond (f y) 1 0) x xs in
    omega (arith, rest, zero, all)

-- some pass where they are counted
pub any_counted : {X : Type 0} (f : X → Bool) (xs : List X) (n : ℕ) → n ≡ count_by f xs → ltb 0 n ≡ list_any f xs
any_counted f xs n counted = elim (cases_lt 0 n) [
  | inl some ↦ lt-ltb 0 n some ∙ sym (true_from_ne_false (list_any f xs) (λ h. let empty = none_counted f xs h in omega (arith, empty, some, counted)))
  | inr few ↦ le-ltb 0 n few ∙ sym (none f xs (omega (arith, few, counted)))
]

pub some_counted : {X : Type 0} (f : X → Bool) (xs : List X) (p : ℕ) (x : X) → slice_get xs p ≡ Some x → f x ≡ true → 0 < count_by f xs
some_counted f xs p x found passes =
    let weight : Bool → ℕ = λ b. cond b 1 0 in
    let one = ap weight (ap f (get_or_from_slice_get xs p x x found) ∙ passes) in
    let few = get_or-le-sum_by (λ y. cond (f y) 1 0) xs p x (slice_get_within xs p x found) in
    omega (arith, few, one)

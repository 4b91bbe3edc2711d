-- Which events wait, where an event comes or is over.
use Rattle.std.proofs.Common.{◌≡◌, ◌∙◌, ℕ, zero, suc, ◌-◌, ◌||◌, Bool, true, false, cond, eqb, not, List, [], ◌∷◌, ◌++◌, Some, inl, inr, refl, ap, sym, subst, arith, length, length-append, take, drop, set, eq-eqb, ne_eqb}
use Rattle.std.proofs.Math.Bool.{or_assoc}
use Rattle.std.specs.Prelude.{slice_get}
use Rattle.std.specs.List.{count_by, filter, list_any, remove}
use Rattle.std.proofs.lemmas.Bool.{cases_Bool, cases_eq, eqb-true, or_from, or_left, or_right}
use Rattle.std.proofs.lemmas.List.{take-append-drop}
use Rattle.std.proofs.lemmas.List.Concat.{flat_map-append}
use Rattle.std.proofs.lemmas.List.Edits.{remove-append_right}
use Rattle.std.proofs.lemmas.List.Sums.{sum_by-append, sum_by-cons}
use Rattle.std.proofs.lemmas.Option.{same_Some}
use Rattle.vp_active_events.specs.declared.event.Event.{Event}
use Rattle.vp_active_events.specs.declared.event.Event.TheVariants as events
use Rattle.vp_active_events.specs.declared.slot.Slot.{Slot}
use Rattle.vp_active_events.specs.declared.slot.Slot.TheVariants.{Empty, Evaluation, NetUpdate}
use Rattle.vp_active_events.specs.Events.{drives}
use Rattle.vp_active_events.specs.Slots.{AreMarkedAfter, IsMarked, does_first_wait, events_at, events_of, freed, is_empty, is_update_of, released}
use Rattle.vp_active_events.specs.laws.Choosing.{get_after}

abbrev number : Bool → ℕ
number b = cond b 1 0

-- ---- truth values

pub or_none : (a : Bool) → (a || false) ≡ a
or_none true = refl
or_none false = refl

or_swap : (a b c : Bool) → ((a || b) || c) ≡ ((a || c) || b)
or_swap true b c = refl
or_swap false true true = refl
or_swap false true false = refl
or_swap false false true = refl
or_swap false false false = refl

or_twice : (a b : Bool) → ((a || b) || b) ≡ (a || b)
or_twice true b = refl
or_twice false true = refl
or_twice false false = refl

eqb_swap : (m n : ℕ) → eqb m n ≡ eqb n m
eqb_swap m n = elim (cases_eq m n) [
  | inl same ↦ eq-eqb m n same ∙ sym (eq-eqb n m (sym same))
  | inr other ↦ ne_eqb m n other ∙ sym (ne_eqb n m (λ h. other (sym h)))
]

-- ---- marks after older updates

is_marked_same : (b c : ℕ → Bool) (s : Slot) → ((n : ℕ) → b n ≡ c n) → IsMarked b s → IsMarked c s
is_marked_same b c Empty same h = tt
is_marked_same b c (Evaluation process) same h = tt
is_marked_same b c (NetUpdate process value waiting) same h = h ∙ same process

-- marks are right after updates of the same nets
pub marked_same : (b c : ℕ → Bool) (ss : List Slot) → ((n : ℕ) → b n ≡ c n) → AreMarkedAfter b ss → AreMarkedAfter c ss
marked_same b c [] same h = tt
marked_same b c (s ∷ ss) same h =
    (is_marked_same b c s same h.0, marked_same (λ n. b n || is_update_of n s) (λ n. c n || is_update_of n s) ss (λ n. ap (λ t. t || is_update_of n s) (same n)) h.1)

-- one more event
pub marked_push : (b : ℕ → Bool) (ss : List Slot) (s : Slot) → AreMarkedAfter b ss → IsMarked (λ n. b n || list_any (is_update_of n) ss) s → AreMarkedAfter b (ss ++ s ∷ [])
marked_push b [] s h last = (is_marked_same (λ n. b n || false) b s (λ n. or_none (b n)) last, tt)
marked_push b (x ∷ ss) s h last =
    (h.0, marked_push (λ n. b n || is_update_of n x) ss s h.1 (is_marked_same (λ n. b n || (is_update_of n x || list_any (is_update_of n) ss)) (λ n. (b n || is_update_of n x) || list_any (is_update_of n) ss) s (λ n. sym (or_assoc (b n) (is_update_of n x) (list_any (is_update_of n) ss))) last))

-- the empty slots go
pub marked_kept : (b : ℕ → Bool) (ss : List Slot) → AreMarkedAfter b ss → AreMarkedAfter b (filter (λ (s : Slot). not (is_empty s)) ss)
marked_kept b [] h = tt
marked_kept b (Empty ∷ ss) h = marked_kept b ss (marked_same (λ n. b n || false) b ss (λ n. or_none (b n)) h.1)
marked_kept b (Evaluation process ∷ ss) h = (tt, marked_kept (λ n. b n || false) ss h.1)
marked_kept b (NetUpdate process value waiting ∷ ss) h = (h.0, marked_kept (λ n. b n || eqb process n) ss h.1)

pub events_kept : (ss : List Slot) → events_of (filter (λ (s : Slot). not (is_empty s)) ss) ≡ events_of ss
events_kept [] = refl
events_kept (Empty ∷ ss) = events_kept ss
events_kept (Evaluation process ∷ ss) = ap (λ (es : List Event). events.Evaluation process ∷ es) (events_kept ss)
events_kept (NetUpdate process value waiting ∷ ss) = ap (λ (es : List Event). events.NetUpdate process value ∷ es) (events_kept ss)

-- ---- an update is over: the next of its net waits no longer

pub released_marks : (b c : ℕ → Bool) (q : ℕ) (ss : List Slot) → ((n : ℕ) → c n ≡ (b n || eqb q n)) → b q ≡ false → AreMarkedAfter c ss → AreMarkedAfter b (released q ss)
released_marks b c q [] so none h = tt
released_marks b c q (Empty ∷ ss) so none h =
    (tt, released_marks (λ n. b n || false) (λ n. c n || false) q ss (λ n. ap (λ t. t || false) (so n) ∙ or_swap (b n) (eqb q n) false) (or_from (b q) false none refl) h.1)
released_marks b c q (Evaluation process ∷ ss) so none h =
    (tt, released_marks (λ n. b n || false) (λ n. c n || false) q ss (λ n. ap (λ t. t || false) (so n) ∙ or_swap (b n) (eqb q n) false) (or_from (b q) false none refl) h.1)
released_marks b c q (NetUpdate r value waiting ∷ ss) so none h = elim (cases_Bool (eqb r q)) [
  | inl same ↦
      (let is : r ≡ q = eqb-true r q same in
      let first : AreMarkedAfter b (NetUpdate r value false ∷ ss) =
      (sym (ap b is ∙ none), marked_same (λ n. c n || eqb r n) (λ n. b n || eqb r n) ss (λ n. ap (λ t. t || eqb r n) (so n) ∙ ap (λ (m : ℕ). (b n || eqb m n) || eqb r n) (sym is) ∙ or_twice (b n) (eqb r n)) h.1) in
      subst (λ t. AreMarkedAfter b (cond t (NetUpdate r value false ∷ ss) (NetUpdate r value waiting ∷ released q ss))) (sym same) first)
  | inr other ↦
      (let rest = released_marks (λ n. b n || eqb r n) (λ n. c n || eqb r n) q ss (λ n. ap (λ t. t || eqb r n) (so n) ∙ or_swap (b n) (eqb q n) (eqb r n)) (or_from (b q) (eqb r q) none other) h.1 in
      let later : AreMarkedAfter b (NetUpdate r value waiting ∷ released q ss) = (h.0 ∙ so r ∙ ap (λ t. b r || t) (eqb_swap q r ∙ other) ∙ or_none (b r), rest) in
      subst (λ t. AreMarkedAfter b (cond t (NetUpdate r value false ∷ ss) (NetUpdate r value waiting ∷ released q ss))) (sym other) later)
]

events_freed : (s : Slot) → events_at (freed s) ≡ events_at s
events_freed Empty = refl
events_freed (Evaluation process) = refl
events_freed (NetUpdate process value waiting) = refl

-- the events are the same
pub events_released : (q : ℕ) (ss : List Slot) → events_of (released q ss) ≡ events_of ss
events_released q [] = refl
events_released q (s ∷ ss) = elim (cases_Bool (is_update_of q s)) [
  | inl same ↦
      ap (λ t. events_of (cond t (freed s ∷ ss) (s ∷ released q ss))) same ∙ ap (λ (es : List Event). es ++ events_of ss) (events_freed s)
  | inr other ↦
      ap (λ t. events_of (cond t (freed s ∷ ss) (s ∷ released q ss))) other ∙ ap (λ (es : List Event). events_at s ++ es) (events_released q ss)
]

pub events_released_from : (q p : ℕ) (ss : List Slot) → events_of (take p ss ++ released q (drop p ss)) ≡ events_of ss
events_released_from q p ss =
    flat_map-append events_at (take p ss) (released q (drop p ss))
    ∙ ap (λ (es : List Event). events_of (take p ss) ++ es) (events_released q (drop p ss))
    ∙ sym (flat_map-append events_at (take p ss) (drop p ss))
    ∙ ap events_of (take-append-drop p ss)

-- ---- the first update of a net waits, where there is an older one

pub first_waits : (b : ℕ → Bool) (q : ℕ) (ss : List Slot) → AreMarkedAfter b ss → b q ≡ true → does_first_wait q ss ≡ true
first_waits b q [] h older = refl
first_waits b q (Empty ∷ ss) h older = first_waits (λ n. b n || false) q ss h.1 (or_left (b q) false older)
first_waits b q (Evaluation process ∷ ss) h older = first_waits (λ n. b n || false) q ss h.1 (or_left (b q) false older)
first_waits b q (NetUpdate r value waiting ∷ ss) h older = elim (cases_Bool (eqb r q)) [
  | inl same ↦ ap (λ t. cond t waiting (does_first_wait q ss)) same ∙ h.0 ∙ ap b (eqb-true r q same) ∙ older
  | inr other ↦ ap (λ t. cond t waiting (does_first_wait q ss)) other ∙ first_waits (λ n. b n || eqb r n) q ss h.1 (or_left (b q) (eqb r q) older)
]

-- ---- the event at a place is over

-- an update of a net
pub update_taken : (b : ℕ → Bool) (ss : List Slot) (p q : ℕ) (value : _) → AreMarkedAfter b ss → slice_get ss p ≡ Some (NetUpdate q value false) → AreMarkedAfter b (take p (set ss p Empty) ++ released q (drop p (set ss p Empty)))
update_taken b [] p q value h found = absurd cc
update_taken b (s ∷ ss) zero q value h found =
    let is = same_Some s (NetUpdate q value false) found in
    let here : IsMarked b (NetUpdate q value false) = subst (λ (x : Slot). IsMarked b x) is h.0 in
    let rest : AreMarkedAfter (λ n. b n || eqb q n) ss = subst (λ (x : Slot). AreMarkedAfter (λ n. b n || is_update_of n x) ss) is h.1 in
    (tt, released_marks (λ n. b n || false) (λ n. b n || eqb q n) q ss (λ n. ap (λ t. t || eqb q n) (sym (or_none (b n)))) (or_from (b q) false (sym here) refl) rest)
update_taken b (s ∷ ss) (suc p) q value h found = (h.0, update_taken (λ n. b n || is_update_of n s) ss p q value h.1 found)

pub next_waits_after : (b : ℕ → Bool) (ss : List Slot) (p q : ℕ) (value : _) → AreMarkedAfter b ss → slice_get ss p ≡ Some (NetUpdate q value false) → does_first_wait q (drop p (set ss p Empty)) ≡ true
next_waits_after b [] p q value h found = absurd cc
next_waits_after b (s ∷ ss) zero q value h found =
    let is = same_Some s (NetUpdate q value false) found in
    first_waits (λ n. b n || is_update_of n s) q ss h.1 (or_right (b q) (is_update_of q s) (ap (is_update_of q) is ∙ eq-eqb q q refl))
next_waits_after b (s ∷ ss) (suc p) q value h found = next_waits_after (λ n. b n || is_update_of n s) ss p q value h.1 found

-- an evaluation
pub evaluation_taken : (b : ℕ → Bool) (ss : List Slot) (p q : ℕ) → AreMarkedAfter b ss → slice_get ss p ≡ Some (Evaluation q) → AreMarkedAfter b (set ss p Empty)
evaluation_taken b [] p q h found = absurd cc
evaluation_taken b (s ∷ ss) zero q h found =
    (tt, subst (λ (x : Slot). AreMarkedAfter (λ n. b n || is_update_of n x) ss) (same_Some s (Evaluation q) found) h.1)
evaluation_taken b (s ∷ ss) (suc p) q h found = (h.0, evaluation_taken (λ n. b n || is_update_of n s) ss p q h.1 found)

-- the events are those that are left
pub events_taken : (ss : List Slot) (p : ℕ) (s : Slot) (e : Event) → slice_get ss p ≡ Some s → events_at s ≡ e ∷ [] → events_of (set ss p Empty) ≡ remove (events_of ss) (length (events_of (take p ss)))
events_taken [] p s e found is = absurd cc
events_taken (x ∷ ss) zero s e found is =
    sym (ap (λ (es : List Event). remove (es ++ events_of ss) 0) (ap events_at (same_Some x s found) ∙ is))
events_taken (x ∷ ss) (suc p) s e found is =
    let front = events_at x in
    let here = length (events_of (take p ss)) in
    let long = length-append front (events_of (take p ss)) in
    let at : length (front ++ events_of (take p ss)) - length front ≡ here = omega (arith, long) in
    ap (λ (es : List Event). front ++ es) (events_taken ss p s e found is)
    ∙ sym (remove-append_right front (events_of ss) (length front) (length (front ++ events_of (take p ss))) refl (omega (arith, long)) ∙ ap (λ (n : ℕ). front ++ remove (events_of ss) n) at)

-- and it was one of them
pub event_found : (ss : List Slot) (p : ℕ) (s : Slot) (e : Event) → slice_get ss p ≡ Some s → events_at s ≡ e ∷ [] → slice_get (events_of ss) (length (events_of (take p ss))) ≡ Some e
event_found [] p s e found is = absurd cc
event_found (x ∷ ss) zero s e found is = ap (λ (es : List Event). slice_get (es ++ events_of ss) 0) (ap events_at (same_Some x s found) ∙ is)
event_found (x ∷ ss) (suc p) s e found is =
    get_after (events_at x) (events_of ss) (length (events_at x ++ events_of (take p ss))) (length (events_of (take p ss))) (length-append (events_at x) (events_of (take p ss))) ∙ event_found ss p s e found is

-- ---- how many updates of a net there are

drives_at : (q : ℕ) (s : Slot) → count_by (drives q) (events_at s) ≡ cond (is_update_of q s) 1 0
drives_at q Empty = refl
drives_at q (Evaluation process) = refl
drives_at q (NetUpdate process value waiting) = sum_by-cons (λ (e : Event). number (drives q e)) (events.NetUpdate process value) [] ∙ omega arith

pub drives_any : (q : ℕ) (s : Slot) → list_any (drives q) (events_at s) ≡ is_update_of q s
drives_any q Empty = refl
drives_any q (Evaluation process) = refl
drives_any q (NetUpdate process value waiting) = or_none (eqb process q)

pub count_updates : (q : ℕ) (ss : List Slot) → count_by (drives q) (events_of ss) ≡ count_by (is_update_of q) ss
count_updates q [] = refl
count_updates q (s ∷ ss) =
    let all = sum_by-append (λ (e : Event). cond (drives q e) 1 0) (events_at s) (events_of ss) in
    let cons = sum_by-cons (λ (x : Slot). cond (is_update_of q x) 1 0) s ss in
    let rest = count_updates q ss in
    let here = drives_at q s in
    omega (arith, all, cons, rest, here)

-- none is released where there is none
pub none_released : (q : ℕ) (ss : List Slot) → count_by (is_update_of q) ss ≡ 0 → released q ss ≡ ss
none_released q [] none = refl
none_released q (s ∷ ss) none =
    let cons = sum_by-cons (λ (x : Slot). cond (is_update_of q x) 1 0) s ss in
    elim (cases_Bool (is_update_of q s)) [
      | inl same ↦ (let one = ap number same in absurd (omega (arith, cons, one, none)))
      | inr other ↦
          ap (λ t. cond t (freed s ∷ ss) (s ∷ released q ss)) other
          ∙ ap (λ (xs : List Slot). s ∷ xs) (none_released q ss (omega (arith, cons, none)))
    ]

-- Slots and their counts, where a slot changes.
use Rattle.std.proofs.Common.{◌≡◌, ◌∙◌, ℕ, ◌+◌, ◌-◌, ◌*◌, ◌/◌, ◌<◌, ◌≤◌, Bool, true, false, cond, eqb, not, List, [], ◌∷◌, ◌++◌, ap, refl, sym, arith, subst, length, length-append, get_or, set, ne_eqb}
use Rattle.std.specs.Prelude.{slice_get, IfSome}
use Rattle.std.specs.List.{count_by, filter}
use Rattle.std.proofs.lemmas.List.{length-set}
use Rattle.std.proofs.lemmas.List.Sums.{count_by-le-length, get_or-le-sum_by, length-filter, sum_by-cons, sum_by-set, sum_by_push}
use Rattle.std.proofs.lemmas.Option.{slice_get_read}
use Rattle.vp_active_events.specs.declared.slot.Slot.{Slot}
use Rattle.vp_active_events.specs.declared.slot.Slot.TheVariants.{Empty, Evaluation, NetUpdate}
use Rattle.vp_active_events.specs.Slots.{AreBlocksCounted, AreIndexed, count_empty, counted_more, freed, is_empty, is_ready, is_waiting}
use Rattle.vp_active_events.proofs.Blocks.{blocks_set, length-counted_more, more_in_blocks, set_in_blocks}

abbrev number : Bool → ℕ
number b = cond b 1 0

-- ---- one slot

-- a slot that waits is not ready, nor empty
waits_is : (s : Slot) → is_waiting s ≡ true → (is_ready s ≡ false) × (is_empty s ≡ false) × (is_empty (freed s) ≡ false) × (is_waiting (freed s) ≡ false)
waits_is Empty h = absurd cc
waits_is (Evaluation process) h = absurd cc
waits_is (NetUpdate process value waiting) h = (ap not h, refl, refl, refl)

-- a slot that is ready is not empty, nor waits
pub ready_is : (s : Slot) → is_ready s ≡ true → (is_empty s ≡ false) × (is_waiting s ≡ false)
ready_is Empty h = absurd cc
ready_is (Evaluation process) h = (refl, refl)
ready_is (NetUpdate process value true) h = absurd cc
ready_is (NetUpdate process value false) h = (refl, refl)

pub some_waits : (ss : List Slot) (p : ℕ) (s : Slot) → p < length ss → s ≡ get_or ss p s → is_waiting s ≡ true → 1 ≤ count_by is_waiting ss
some_waits ss p s within is waits =
    let one = ap (λ (x : Slot). number (is_waiting x)) (sym is) ∙ ap number waits in
    let few = get_or-le-sum_by (λ (x : Slot). cond (is_waiting x) 1 0) ss p s within in
    omega (arith, few, one)

-- how many there are of a kind, where one slot becomes another
count_set : (f : Slot → Bool) (ss : List Slot) (p : ℕ) (s t : Slot) (a b : Bool) → p < length ss → s ≡ get_or ss p s → f s ≡ a → f t ≡ b → count_by f (set ss p t) + cond a 1 0 ≡ count_by f ss + cond b 1 0
count_set f ss p s t a b within is of_s of_t =
    let all = sum_by-set (λ (x : Slot). cond (f x) 1 0) ss p t s within in
    let here = ap (λ (x : Slot). number (f x)) (sym is) ∙ ap number of_s in
    let there = ap number of_t in
    omega (arith, all, here, there)

-- ---- the slots

-- one more event
pub indexed_push : (ss : List Slot) (s : Slot) (e w : ℕ) (cs : List ℕ) → AreIndexed ss e w cs → is_empty s ≡ false → length ss < 16 * length cs → AreIndexed (ss ++ s ∷ []) e (w + cond (is_waiting s) 1 0) (counted_more e (length ss) (is_ready s) cs)
indexed_push ss s e w cs h some within =
    let empties = sum_by_push (λ (x : Slot). cond (is_empty x) 1 0) ss s in
    let none = ap number some in
    let waits = sum_by_push (λ (x : Slot). cond (is_waiting x) 1 0) ss s in
    let long = length-append ss (s ∷ []) in
    let blocks = length-counted_more e (length ss) (is_ready s) cs in
    let before = h.empty_counted in
    let waited = h.waiting_counted in
    let few = h.few in
    record {
      empty_counted = omega (arith, empties, none, before);
      waiting_counted = omega (arith, waits, waited);
      blocks_counted = more_in_blocks e ss s cs h.blocks_counted within;
      within = omega (arith, long, blocks, within);
      few = omega (arith, blocks, few);
    }

-- an event waits no longer
pub indexed_freed : (ss : List Slot) (p : ℕ) (s : Slot) (e w : ℕ) (cs : List ℕ) → AreIndexed ss e w cs → p < length ss → s ≡ get_or ss p s → is_waiting s ≡ true → AreIndexed (set ss p (freed s)) e (w - 1) (counted_more e p (is_ready (freed s)) cs)
indexed_freed ss p s e w cs h inside is waits =
    let of_s = waits_is s waits in
    let empties = count_set is_empty ss p s (freed s) false false inside is of_s.1 of_s.2 in
    let waiting = count_set is_waiting ss p s (freed s) true false inside is waits of_s.3 in
    let long = length-set ss p (freed s) in
    let blocks = length-counted_more e p (is_ready (freed s)) cs in
    let before = h.empty_counted in
    let waited = h.waiting_counted in
    let within = h.within in
    let few = h.few in
    record {
      empty_counted = omega (arith, empties, before);
      waiting_counted = omega (arith, waiting, waited);
      blocks_counted = set_in_blocks e ss p s (freed s) cs h.blocks_counted inside within is of_s.0;
      within = omega (arith, long, blocks, within);
      few = omega (arith, blocks, few);
    }

-- an event is over, whose slot is empty then
pub indexed_taken : (ss : List Slot) (p c : ℕ) (s : Slot) (e w : ℕ) (cs ds : List ℕ) → AreIndexed ss e w cs → p < length ss → s ≡ get_or ss p s → is_ready s ≡ true → AreBlocksCounted ss ds → length ds ≡ length cs → c + 1 ≡ get_or ds (p / 16) 0 → AreIndexed (set ss p Empty) (e + 1) w (set ds (p / 16) c)
indexed_taken ss p c s e w cs ds h inside is ready counted same one =
    let of_s = ready_is s ready in
    let empties = count_set is_empty ss p s Empty false true inside is of_s.0 refl in
    let waiting = count_set is_waiting ss p s Empty false false inside is of_s.1 refl in
    let long = length-set ss p Empty in
    let blocks = length-set ds (p / 16) c in
    let before = h.empty_counted in
    let waited = h.waiting_counted in
    let within = h.within in
    let few = h.few in
    let weight_is = ap number ready in
    let some : eqb (e + 1) 0 ≡ false = ne_eqb (e + 1) 0 (omega arith) in
    let P : Bool → Type 0 = λ b. AreBlocksCounted (cond b [] (set ss p Empty)) (set ds (p / 16) c) in
    record {
      empty_counted = omega (arith, empties, before);
      waiting_counted = omega (arith, waiting, waited);
      blocks_counted = subst P (sym some) (blocks_set ss p c s Empty ds counted inside (omega (arith, within, same)) is (omega (arith, weight_is, one)));
      within = omega (arith, long, blocks, within, same);
      few = omega (arith, blocks, few, same);
    }

-- ---- no slot is empty

abbrev kept : List Slot → List Slot
kept ss = filter (λ (s : Slot). not (is_empty s)) ss

none_empty : (ss : List Slot) → count_empty (kept ss) ≡ 0
none_empty [] = refl
none_empty (Empty ∷ ss) = none_empty ss
none_empty (Evaluation process ∷ ss) =
    let rest = none_empty ss in
    let one = sum_by-cons (λ (x : Slot). number (is_empty x)) (Evaluation process) (kept ss) in
    omega (arith, rest, one)
none_empty (NetUpdate process value waiting ∷ ss) =
    let rest = none_empty ss in
    let one = sum_by-cons (λ (x : Slot). number (is_empty x)) (NetUpdate process value waiting) (kept ss) in
    omega (arith, rest, one)

as_many_wait : (ss : List Slot) → count_by is_waiting (kept ss) ≡ count_by is_waiting ss
as_many_wait [] = refl
as_many_wait (Empty ∷ ss) = as_many_wait ss
as_many_wait (Evaluation process ∷ ss) =
    let waits : Slot → ℕ = λ x. number (is_waiting x) in
    let s = Evaluation process in
    let rest = as_many_wait ss in
    let one = sum_by-cons waits s (kept ss) in
    let two = sum_by-cons waits s ss in
    omega (arith, rest, one, two)
as_many_wait (NetUpdate process value waiting ∷ ss) =
    let waits : Slot → ℕ = λ x. number (is_waiting x) in
    let s = NetUpdate process value waiting in
    let rest = as_many_wait ss in
    let one = sum_by-cons waits s (kept ss) in
    let two = sum_by-cons waits s ss in
    omega (arith, rest, one, two)

-- the empty slots go
pub indexed_compact : (ss ts : List Slot) (e w : ℕ) (cs ds : List ℕ) → AreIndexed ss e w cs → ts ≡ filter (λ (s : Slot). not (is_empty s)) ss → AreBlocksCounted [] ds → length ds ≡ length cs → AreIndexed ts 0 w ds
indexed_compact ss ts e w cs ds h is none same =
    let fewer = count_by-le-length (λ (s : Slot). not (is_empty s)) ss in
    let long = ap length is ∙ length-filter (λ (s : Slot). not (is_empty s)) ss in
    let within = h.within in
    let few = h.few in
    record {
      empty_counted = sym (ap count_empty is ∙ none_empty ss);
      waiting_counted = h.waiting_counted ∙ sym (ap (count_by is_waiting) is ∙ as_many_wait ss);
      blocks_counted = none;
      within = omega (arith, fewer, long, within, same);
      few = omega (arith, few, same);
    }

-- the same of what is equal
pub same_indexed : (ss ts : List Slot) (e w v : ℕ) (cs ds : List ℕ) → AreIndexed ts e v ds → ss ≡ ts → w ≡ v → cs ≡ ds → AreIndexed ss e w cs
same_indexed ss ts e w v cs ds h slots waits counts =
    subst (λ (xs : List Slot). AreIndexed xs e w cs) (sym slots) (subst (λ (n : ℕ). AreIndexed ts e n cs) (sym waits) (subst (λ (xs : List ℕ). AreIndexed ts e v xs) (sym counts) h))

-- the slot that is read waits
pub waits_here : (ss : List Slot) (p : ℕ) (s : Slot) → p < length ss → s ≡ get_or ss p s → IfSome (slice_get ss p) (λ x. is_waiting x ≡ true) → is_waiting s ≡ true
waits_here ss p s within is h = let found = slice_get_read ss (length ss) p s refl within is in (rw found at h)

-- it is ready
pub ready_here : (ss : List Slot) (p : ℕ) (s : Slot) → p < length ss → s ≡ get_or ss p s → IfSome (slice_get ss p) (λ x. is_ready x ≡ true) → is_ready s ≡ true
ready_here ss p s within is h = let found = slice_get_read ss (length ss) p s refl within is in (rw found at h)

-- it waits no longer
pub is_freed : (ss : List Slot) (p : ℕ) (s r : Slot) → p < length ss → s ≡ get_or ss p s → r ≡ freed s → IfSome (slice_get ss p) (λ x. set ss p r ≡ set ss p (freed x))
is_freed ss p s r within is by = let found = slice_get_read ss (length ss) p s refl within is in (rw found (ap (set ss p) by))

-- The places of slots.
use Rattle.std.proofs.Common.{◌≡◌, ◌∙◌, ℕ, zero, suc, ◌+◌, ◌-◌, ◌*◌, ◌<◌, ◌≤◌, Bool, true, false, cond, List, [], ◌∷◌, ◌++◌, Option, None, Some, IfSome, inl, inr, refl, ap, sym, subst, arith, length, length-append, get_or, take, drop, set}
use Rattle.std.specs.Prelude.{option_map, slice_get}
use Rattle.std.specs.List.{count_by, sum}
use Rattle.std.proofs.lemmas.Bool.{cases_Bool, cases_lt}
use Rattle.std.proofs.lemmas.List.{append_assoc, drop-drop, drop_all, length-drop, length-take, set-append_right, take-append-drop, take_more}
use Rattle.std.proofs.lemmas.List.Sums.{count_by-le-length, sum_by-append, sum_by-cons}
use Rattle.std.proofs.lemmas.Option.{same_Some, slice_get-get_or}
use Rattle.vp_active_events.specs.declared.slot.Slot.{Slot}
use Rattle.vp_active_events.specs.declared.slot.Slot.TheVariants.{Empty, Evaluation, NetUpdate}
use Rattle.vp_active_events.specs.laws.Choosing.{get_after}
use Rattle.vp_active_events.specs.Slots.{AreBlocksCounted, count_empty, does_first_wait, events_at, events_of, freed, is_empty, is_ready, is_update_of, is_waiting, next_from, ready_from, released}

abbrev number : Bool → ℕ
number b = cond b 1 0

-- ---- lists

pub get_within : {X : Type 0} (xs ys : List X) (i : ℕ) → i < length xs → slice_get (xs ++ ys) i ≡ slice_get xs i
get_within [] ys i within = absurd (omega arith)
get_within (x ∷ xs) ys zero within = refl
get_within (x ∷ xs) ys (suc i) within = get_within xs ys i (omega arith)

-- ---- how many slots of a kind there are

three_kinds : (s : Slot) → cond (is_ready s) 1 0 + (cond (is_empty s) 1 0 + cond (is_waiting s) 1 0) ≡ 1
three_kinds Empty = refl
three_kinds (Evaluation process) = refl
three_kinds (NetUpdate process value true) = refl
three_kinds (NetUpdate process value false) = refl

-- a slot is ready, is empty or waits
pub count_kinds : (ss : List Slot) → count_by is_ready ss + (count_empty ss + count_by is_waiting ss) ≡ length ss
count_kinds [] = refl
count_kinds (s ∷ ss) =
    let rest = count_kinds ss in
    let here = three_kinds s in
    let a = sum_by-cons (λ (x : Slot). cond (is_ready x) 1 0) s ss in
    let b = sum_by-cons (λ (x : Slot). cond (is_empty x) 1 0) s ss in
    let c = sum_by-cons (λ (x : Slot). cond (is_waiting x) 1 0) s ss in
    omega (arith, rest, here, a, b, c)

event_or_none : (s : Slot) → length (events_at s) + cond (is_empty s) 1 0 ≡ 1
event_or_none Empty = refl
event_or_none (Evaluation process) = refl
event_or_none (NetUpdate process value waiting) = refl

-- each slot has an event or is empty
pub count_events : (ss : List Slot) → length (events_of ss) + count_empty ss ≡ length ss
count_events [] = refl
count_events (s ∷ ss) =
    let rest = count_events ss in
    let here = event_or_none s in
    let all = sum_by-cons (λ (x : Slot). cond (is_empty x) 1 0) s ss in
    omega (arith, rest, here, all, length-append (events_at s) (events_of ss))

-- ---- those that are ready

ready_here : (place : ℕ) (b : Bool) (rest : List ℕ) → length (cond b (place ∷ []) [] ++ rest) ≡ cond b 1 0 + length rest
ready_here place true rest = omega arith
ready_here place false rest = omega arith

pub length-ready_from : (place : ℕ) (ss : List Slot) → length (ready_from place ss) ≡ count_by is_ready ss
length-ready_from place [] = refl
length-ready_from place (s ∷ ss) =
    ready_here place (is_ready s) (ready_from (place + 1) ss)
    ∙ ap (λ (n : ℕ). cond (is_ready s) 1 0 + n) (length-ready_from (place + 1) ss)
    ∙ sym (sum_by-cons (λ (x : Slot). cond (is_ready x) 1 0) s ss)

ready-append : (place : ℕ) (xs ys : List Slot) → ready_from place (xs ++ ys) ≡ ready_from place xs ++ ready_from (place + length xs) ys
ready-append place [] ys = ap (λ (n : ℕ). ready_from n ys) (omega arith)
ready-append place (x ∷ xs) ys =
    let here = cond (is_ready x) (place ∷ []) [] in
    let next : place + 1 + length xs ≡ place + suc (length xs) = omega arith in
    ap (λ (r : List ℕ). here ++ r) (ready-append (place + 1) xs ys)
    ∙ sym (append_assoc here (ready_from (place + 1) xs) (ready_from (place + 1 + length xs) ys))
    ∙ ap (λ (n : ℕ). (here ++ ready_from (place + 1) xs) ++ ready_from n ys) next

all_count : (s : Slot) (ss : List Slot) → count_by is_ready (s ∷ ss) ≡ suc (length ss) → (is_ready s ≡ true) × (count_by is_ready ss ≡ length ss)
all_count s ss all =
    let count = sum_by-cons (λ (x : Slot). cond (is_ready x) 1 0) s ss in
    let few = count_by-le-length is_ready ss in
    elim (cases_Bool (is_ready s)) [
      | inl same ↦ (let one = ap number same in (same, omega (arith, count, one, all)))
      | inr other ↦ (let none = ap number other in absurd (omega (arith, count, none, few, all)))
    ]

-- where all are ready, each stands at its number
all_ready : (place : ℕ) (ss : List Slot) (k : ℕ) → count_by is_ready ss ≡ length ss → slice_get (ready_from place ss) k ≡ option_map (λ (s : Slot). place + k) (slice_get ss k)
all_ready place [] k all = refl
all_ready place (s ∷ ss) zero all =
    ap (λ (b : Bool). slice_get (cond b (place ∷ []) [] ++ ready_from (place + 1) ss) 0) (all_count s ss all).0 ∙ ap Some (omega arith)
all_ready place (s ∷ ss) (suc k) all =
    let next : place + 1 + k ≡ place + suc k = omega arith in
    ap (λ (b : Bool). slice_get (cond b (place ∷ []) [] ++ ready_from (place + 1) ss) (suc k)) (all_count s ss all).0
    ∙ all_ready (place + 1) ss k (all_count s ss all).1
    ∙ ap (λ (n : ℕ). option_map (λ (x : Slot). n) (slice_get ss k)) next

pub all_ready_at : (ss : List Slot) (k : ℕ) (found : Option Slot) → count_by is_ready ss ≡ length ss → slice_get ss k ≡ found → slice_get (ready_from 0 ss) k ≡ option_map (λ (s : Slot). k) found
all_ready_at ss k found all is =
    let at : 0 + k ≡ k = omega arith in
    all_ready 0 ss k all ∙ ap (λ (n : ℕ). option_map (λ (s : Slot). n) (slice_get ss k)) at ∙ ap (option_map (λ (s : Slot). k)) is

ready_place_at : (b : Bool) (place k n : ℕ) (ss : List Slot) (s : Slot) (rest : List ℕ) → is_ready s ≡ b → slice_get (cond b (place ∷ []) [] ++ rest) k ≡ Some n → ((j : ℕ) → slice_get rest j ≡ Some n → (i : ℕ) × (n ≡ place + 1 + i) × (i < length ss) × IfSome (slice_get ss i) (λ x. is_ready x ≡ true)) → (i : ℕ) × (n ≡ place + i) × (i < suc (length ss)) × IfSome (slice_get (s ∷ ss) i) (λ x. is_ready x ≡ true)
ready_place_at true place zero n ss s rest same found more = (0, (let at = same_Some place n found in omega (arith, at)), omega arith, same)
ready_place_at true place (suc k) n ss s rest same found more = let m = more k found in (suc m.0, (let at = m.1 in omega (arith, at)), (let in_ss = m.2 in omega (arith, in_ss)), m.3)
ready_place_at false place k n ss s rest other found more = let m = more k found in (suc m.0, (let at = m.1 in omega (arith, at)), (let in_ss = m.2 in omega (arith, in_ss)), m.3)

-- at the place of one that is ready it stands
pub ready_place : (place : ℕ) (ss : List Slot) (k n : ℕ) → slice_get (ready_from place ss) k ≡ Some n → (i : ℕ) × (n ≡ place + i) × (i < length ss) × IfSome (slice_get ss i) (λ x. is_ready x ≡ true)
ready_place place [] k n found = absurd cc
ready_place place (s ∷ ss) k n found = ready_place_at (is_ready s) place k n ss s (ready_from (place + 1) ss) refl found (λ j h. ready_place (place + 1) ss j n h)

-- ---- the slots of a block

-- the k-th stands in a block, or after it
pub block_after : (ss : List Slot) (cs : List ℕ) (n left : ℕ) → AreBlocksCounted ss cs → get_or cs n 0 ≤ left → slice_get (ready_from (16 * (n + 1)) (drop (16 * (n + 1)) ss)) (left - get_or cs n 0) ≡ slice_get (ready_from (16 * n) (drop (16 * n) ss)) left
block_after ss cs n left h few =
    let from = drop (16 * n) ss in
    let next : 16 * n + 16 ≡ 16 * (n + 1) = omega arith in
    let count = h n in
    let here = ready_from (16 * n) (take 16 from) in
    let long = length-ready_from (16 * n) (take 16 from) in
    let split : ready_from (16 * n) from ≡ here ++ ready_from (16 * n + length (take 16 from)) (drop 16 from) =
    ap (ready_from (16 * n)) (sym (take-append-drop 16 from)) ∙ ready-append (16 * n) (take 16 from) (drop 16 from) in
    let following : drop 16 from ≡ drop (16 * (n + 1)) ss = drop-drop 16 (16 * n) ss ∙ ap (λ (m : ℕ). drop m ss) next in
    sym (
    ap (λ (ps : List ℕ). slice_get ps left) split
    ∙ get_after here (ready_from (16 * n + length (take 16 from)) (drop 16 from)) left (left - get_or cs n 0) (omega (arith, few, count, long))
    ∙ elim (cases_lt 16 (length from)) [
      | inl longer ↦
          (let full : 16 * n + length (take 16 from) ≡ 16 * (n + 1) = omega (arith, longer, length-take 16 from) in
          ap (λ (m : ℕ). slice_get (ready_from m (drop 16 from)) (left - get_or cs n 0)) full
          ∙ ap (λ (xs : List Slot). slice_get (ready_from (16 * (n + 1)) xs) (left - get_or cs n 0)) following)
      | inr short ↦
          (let none : drop 16 from ≡ [] = drop_all 16 from short in
          ap (λ (xs : List Slot). slice_get (ready_from (16 * n + length (take 16 from)) xs) (left - get_or cs n 0)) none
          ∙ sym (ap (λ (xs : List Slot). slice_get (ready_from (16 * (n + 1)) xs) (left - get_or cs n 0)) (sym following ∙ none)))
    ])

-- where so many stand in the blocks before one, the k-th stands from there on
pub blocks_after : (ss : List Slot) (cs : List ℕ) (k n left : ℕ) → AreBlocksCounted ss cs → n ≤ length cs → sum (take n cs) + left ≡ k → slice_get (ready_from (16 * n) (drop (16 * n) ss)) left ≡ slice_get (ready_from 0 ss) k
blocks_after ss cs k zero left h within all = ap (slice_get (ready_from 0 ss)) (omega (arith, all))
blocks_after ss cs k (suc n) left h within all =
    let next : 16 * (n + 1) ≡ 16 * suc n = omega arith in
    let c = get_or cs n 0 in
    let more = ap sum (take_more cs n 0 (omega (arith, within))) in
    let split = sum_by-append (λ (x : ℕ). x) (take n cs) (c ∷ []) in
    let count : sum (take n cs) + c ≡ sum (take (n + 1) cs) = omega (arith, more, split) in
    let one : n + 1 ≡ suc n = omega arith in
    let same = ap (λ (m : ℕ). sum (take m cs)) one in
    let back : left + c - c ≡ left = omega arith in
    ap (λ (m : ℕ). slice_get (ready_from m (drop m ss)) left) (sym next)
    ∙ ap (slice_get (ready_from (16 * (n + 1)) (drop (16 * (n + 1)) ss))) (sym back)
    ∙ block_after ss cs n (left + c) h (omega arith)
    ∙ blocks_after ss cs k n (left + c) h (omega (arith, within)) (omega (arith, all, count, same))

-- ---- the next update of a net

-- what is found in slots that stand after others is the one that is released
record IsFound (process place n : ℕ) (ss : List Slot) (does_wait : Bool) : Type 0 where
  pub at : ℕ
  pub is : n ≡ place + at
  pub inside : at < length ss
  pub waits : does_wait ≡ true → IfSome (slice_get ss at) (λ x. is_waiting x ≡ true)
  pub freed_is : (x : Slot) → slice_get ss at ≡ Some x → set ss at (freed x) ≡ released process ss

found_at : (b : Bool) (process place n : ℕ) (s : Slot) (ss : List Slot) → is_update_of process s ≡ b → cond b (Some place) (next_from (place + 1) process ss) ≡ Some n → (next_from (place + 1) process ss ≡ Some n → IsFound process (place + 1) n ss (does_first_wait process ss)) → IsFound process place n (s ∷ ss) (does_first_wait process (s ∷ ss))
found_at true process place n s ss same found more = record {
  at = 0;
  is = let at = same_Some place n found in omega (arith, at);
  inside = omega arith;
  waits = λ h. sym (ap (λ (b : Bool). cond b (is_waiting s) (does_first_wait process ss)) same) ∙ h;
  freed_is = λ x is. ap (λ (y : Slot). freed y ∷ ss) (sym (same_Some s x is)) ∙ sym (ap (λ (b : Bool). cond b (freed s ∷ ss) (s ∷ released process ss)) same);
}
found_at false process place n s ss other found more =
    let m = more found in
    record {
      at = suc m.at;
      is = let at = m.is in omega (arith, at);
      inside = let within = m.inside in omega (arith, within);
      waits = λ h. m.waits (sym (ap (λ (b : Bool). cond b (is_waiting s) (does_first_wait process ss)) other) ∙ h);
      freed_is = λ x is. ap (λ (ys : List Slot). s ∷ ys) (m.freed_is x is) ∙ sym (ap (λ (b : Bool). cond b (freed s ∷ ss) (s ∷ released process ss)) other);
    }

found_in : (process place n : ℕ) (ss : List Slot) → next_from place process ss ≡ Some n → IsFound process place n ss (does_first_wait process ss)
found_in process place n [] found = absurd cc
found_in process place n (s ∷ ss) found = found_at (is_update_of process s) process place n s ss refl found (λ h. found_in process (place + 1) n ss h)

-- the slot that is found stands among all
pub next_within : (process start n : ℕ) (ss : List Slot) → next_from start process (drop start ss) ≡ Some n → n < length ss
next_within process start n ss found =
    let f = found_in process start n (drop start ss) found in
    let is = f.is in
    let inside = f.inside in
    omega (arith, is, inside, length-drop start ss)

found_slot : (start n i : ℕ) (ss : List Slot) → n ≡ start + i → start ≤ length ss → slice_get ss n ≡ slice_get (drop start ss) i
found_slot start n i ss is fits =
    ap (λ (xs : List Slot). slice_get xs n) (sym (take-append-drop start ss))
    ∙ get_after (take start ss) (drop start ss) n i (omega (arith, is, fits, length-take start ss))

-- and waits
pub next_waits : (process start n : ℕ) (ss : List Slot) → start ≤ length ss → does_first_wait process (drop start ss) ≡ true → next_from start process (drop start ss) ≡ Some n → IfSome (slice_get ss n) (λ x. is_waiting x ≡ true)
next_waits process start n ss fits wait found =
    let f = found_in process start n (drop start ss) found in
    subst (λ (o : Option Slot). IfSome o (λ x. is_waiting x ≡ true)) (sym (found_slot start n f.at ss f.is fits)) (f.waits wait)

-- it is released where it waits no longer
pub next_freed : (process start n : ℕ) (ss zs : List Slot) → start ≤ length ss → next_from start process (drop start ss) ≡ Some n → IfSome (slice_get ss n) (λ x. zs ≡ set ss n (freed x)) → zs ≡ take start ss ++ released process (drop start ss)
next_freed process start n ss zs fits found by =
    let f = found_in process start n (drop start ss) found in
    let back = drop start ss in
    let x = get_or back f.at Empty in
    let here : slice_get back f.at ≡ Some x = slice_get-get_or back f.at Empty f.inside in
    let there : slice_get ss n ≡ Some x = found_slot start n f.at ss f.is fits ∙ here in
    let by_x : zs ≡ set ss n (freed x) = (rw there at by) in
    let at : n - start ≡ f.at = let is = f.is in omega (arith, is) in
    by_x
    ∙ ap (λ (ys : List Slot). set ys n (freed x)) (sym (take-append-drop start ss))
    ∙ set-append_right (take start ss) back start n (freed x) (omega (arith, fits, length-take start ss)) (let is = f.is in omega (arith, is))
    ∙ ap (λ (i : ℕ). take start ss ++ set back i (freed x)) at
    ∙ ap (λ (ys : List Slot). take start ss ++ ys) (f.freed_is x here)

none_found : (process place : ℕ) (ss : List Slot) → next_from place process ss ≡ None → released process ss ≡ ss
none_found process place [] none = refl
none_found process place (s ∷ ss) none = elim (cases_Bool (is_update_of process s)) [
  | inl same ↦ (let here : Some place ≡ None = sym (ap (λ (b : Bool). cond b (Some place) (next_from (place + 1) process ss)) same) ∙ none in absurd cc)
  | inr other ↦
      ap (λ (b : Bool). cond b (freed s ∷ ss) (s ∷ released process ss)) other
      ∙ ap (λ (ys : List Slot). s ∷ ys) (none_found process (place + 1) ss (sym (ap (λ (b : Bool). cond b (Some place) (next_from (place + 1) process ss)) other) ∙ none))
]

-- none is released where none is found
pub next_none : (process start : ℕ) (ss : List Slot) → next_from start process (drop start ss) ≡ None → ss ≡ take start ss ++ released process (drop start ss)
next_none process start ss none = sym (take-append-drop start ss) ∙ ap (λ (ys : List Slot). take start ss ++ ys) (sym (none_found process start (drop start ss) none))

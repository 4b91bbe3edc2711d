-- Where future events in chunks stand that come no later than a time.
use Rattle.std.proofs.Common.{◌≡◌, ◌∙◌, ℕ, zero, suc, ◌+◌, ◌-◌, ◌<◌, ◌≤◌, true, false, List, [], ◌∷◌, ◌++◌, Option, inl, inr, refl, ap, sym, arith, subst, length, length-append, get_or, map, take, drop}
use Rattle.std.specs.Prelude.{option_map, unwrap_or}
use Rattle.std.specs.List.{All, AllWithin}
use Rattle.std.specs.List.Sorted.{IsPartitionPoint, IsPartitionedBy}
use Rattle.std.proofs.lemmas.Bool.{cases_lt, false≢true, leb-false, leb-true, le-leb, lt-leb}
use Rattle.std.proofs.lemmas.List.{drop_at, get_or-append_right, get_or-drop, get_or-map, get_or_append_left, length-drop, length-map, take_at}
use Rattle.std.proofs.lemmas.List.Concat.{get_or-flat_map}
use Rattle.std.proofs.lemmas.List.Elements.{All-cons, All-nil, All-tail}
use Rattle.std.proofs.lemmas.List.Sorted.{IsNonDecreasingBy-drop, IsNonDecreasingBy-take}
use Rattle.std.proofs.lemmas.Option.{slice_get-get_or}
use Rattle.vp_strata.specs.declared.event.Timed.{Timed}
use Rattle.vp_strata.specs.Queues.{AreOrdered, is_by}
use Rattle.vp_text.specs.Lists.{joined}
use Rattle.vp_strata.specs.Chunks.{AreUnfinished, ends_by, first_place, position, remaining}
use Rattle.vp_strata.proofs.Chunked.{as_many, chunk_at, remaining_at}

-- an event comes no later than a time, or later
abbrev pub DueBy : ℕ → Timed → Type 0
DueBy time e = is_by time e ≡ true

abbrev pub Later : ℕ → Timed → Type 0
Later time e = is_by time e ≡ false

-- ---- the order of a chunk, and of those after

following : (c es : List Timed) → AreOrdered (c ++ es) → AreOrdered es
following c es h =
    let P : List Timed → Type 0 = AreOrdered in subst P (drop_at c es (length c) refl) (IsNonDecreasingBy-drop (λ e. e.time) (length c) (c ++ es) h)

front : (c es : List Timed) → AreOrdered (c ++ es) → AreOrdered c
front c es h =
    let P : List Timed → Type 0 = AreOrdered in subst P (take_at c es (length c) refl) (IsNonDecreasingBy-take (λ e. e.time) (length c) (c ++ es) h)

pub chunk_ordered : (ls : List (List Timed)) (number : ℕ) → number < length ls → AreOrdered (joined ls) → AreOrdered (get_or ls number [])
chunk_ordered [] number within h = absurd (omega arith)
chunk_ordered (c ∷ cs) zero within h = front c (joined cs) h
chunk_ordered (c ∷ cs) (suc number) within h = chunk_ordered cs number (omega arith) (following c (joined cs) h)

-- ---- the last event of a chunk

last_by : (time : ℕ) (c : List Timed) (d : Timed) → 0 < length c → ends_by time c ≡ is_by time (get_or c (length c - 1) d)
last_by time c d some =
    ap (λ (o : Option Timed). unwrap_or (option_map (is_by time) o) true) (slice_get-get_or c (length c - 1) d (omega arith))

all_by : (time : ℕ) (c : List Timed) → AreOrdered c → ends_by time c ≡ true → AllWithin (DueBy time) c 0 (length c)
all_by time c ordered ends k d low high =
    let last = leb-true (get_or c (length c - 1) d).time time (sym (last_by time c d (omega arith)) ∙ ends) in
    let order = ordered k (length c - 1) d (omega arith) (omega arith) in
    le-leb (get_or c k d).time time (omega (arith, last, order))

-- a place after events that come no later is not the end of a chunk that ends later
pub before_end : (time : ℕ) (c : List Timed) (place : ℕ) → AllWithin (DueBy time) c 0 place → place ≤ length c → 0 < length c → ends_by time c ≡ false → place < length c
before_end time [] place by within some later = absurd (omega arith)
before_end time (x ∷ c) place by within some later =
    elim (cases_lt place (length (x ∷ c))) [
      | inl h ↦ h
      | inr h ↦ absurd (false≢true (sym later ∙ last_by time (x ∷ c) x some ∙ by (length (x ∷ c) - 1) x (omega arith) (omega (arith, h))))
    ]

within_joined : (ls : List (List Timed)) (number place : ℕ) → number < length ls → place < length (get_or ls number []) → position ls number place < length (joined ls)
within_joined [] number place within fits = absurd (omega arith)
within_joined (c ∷ cs) zero place within fits = omega (arith, length-append c (joined cs))
within_joined (c ∷ cs) (suc number) place within fits =
    let rest = within_joined cs number place (omega arith) fits in
    omega (arith, rest, length-append c (joined (take number cs)), length-append c (joined cs))

-- chunks end in the order of their times
ends_in_order : (time : ℕ) (ls : List (List Timed)) (i j : ℕ) → All (λ (d : List Timed). 0 < length d) ls → AreOrdered (joined ls) → i ≤ j → j < length ls → ends_by time (get_or ls j []) ≡ true → ends_by time (get_or ls i []) ≡ true
ends_in_order time [] i j some ordered le within ends = absurd (omega arith)
ends_in_order time (c ∷ cs) zero zero some ordered le within ends = ends
ends_in_order time ([] ∷ cs) zero (suc j) some ordered le within ends = refl
ends_in_order time ((x ∷ c) ∷ cs) zero (suc j) some ordered le within ends =
    let es = x ∷ c in
    let last = get_or cs j [] in
    let any : 0 < length last = some (suc j) [] within in
    let place = position cs j (length last - 1) in
    let inside = within_joined cs j (length last - 1) (omega arith) (omega (arith, any)) in
    let at : get_or (es ++ joined cs) (length es + place) x ≡ get_or last (length last - 1) x =
    get_or-append_right es (joined cs) (length es) (length es + place) x refl (omega arith)
    ∙ ap (λ (n : ℕ). get_or (joined cs) n x) (omega arith)
    ∙ get_or-flat_map (λ (d : List Timed). d) cs j (length last - 1) [] x (omega arith) (omega (arith, any)) in
    let here : get_or (es ++ joined cs) (length es - 1) x ≡ get_or es (length es - 1) x = get_or_append_left es (joined cs) x (length es - 1) (omega arith) in
    let order = ordered (length es - 1) (length es + place) x (omega arith) (omega (arith, inside, length-append es (joined cs))) in
    let by = leb-true (get_or last (length last - 1) x).time time (sym (last_by time last x any) ∙ ends) in
    last_by time es x (omega arith)
    ∙ le-leb (get_or es (length es - 1) x).time time (omega (arith, by, order, ap (λ (e : Timed). e.time) at, ap (λ (e : Timed). e.time) here))
ends_in_order time (c ∷ cs) (suc i) zero some ordered le within ends = absurd (omega arith)
ends_in_order time (c ∷ cs) (suc i) (suc j) some ordered le within ends =
    ends_in_order time cs i j (All-tail (λ (d : List Timed). 0 < length d) c cs some) (following c (joined cs) ordered) (omega arith) (omega arith) ends

-- ---- what remains of the chunks

some_remaining : (taken : ℕ) (cs : List (List Timed)) → AreUnfinished taken cs → All (λ (d : List Timed). 0 < length d) (remaining taken cs)
some_remaining taken [] h = All-nil (λ (d : List Timed). 0 < length d)
some_remaining taken (c ∷ cs) h = All-cons (λ (d : List Timed). 0 < length d) (drop taken c) cs (omega (arith, h.0, length-drop taken c)) h.1

ends_dropped : (time taken : ℕ) (c : List Timed) → taken < length c → ends_by time (drop taken c) ≡ ends_by time c
ends_dropped time taken [] within = absurd (omega arith)
ends_dropped time taken (x ∷ c) within =
    let long = length-drop taken (x ∷ c) in
    last_by time (drop taken (x ∷ c)) x (omega (arith, long))
    ∙ ap (is_by time) (get_or-drop taken (x ∷ c) (length (drop taken (x ∷ c)) - 1) x ∙ ap (λ (n : ℕ). get_or (x ∷ c) n x) (omega (arith, long)))
    ∙ sym (last_by time (x ∷ c) x (omega arith))

-- what remains of a chunk ends as the chunk
pub ends_remaining : (time taken : ℕ) (cs : List (List Timed)) (number : ℕ) → AreUnfinished taken cs → number < length cs → ends_by time (get_or (remaining taken cs) number []) ≡ ends_by time (get_or cs number [])
ends_remaining time taken [] number h within = absurd (omega arith)
ends_remaining time taken (c ∷ cs) zero h within = ends_dropped time taken c h.0
ends_remaining time taken (c ∷ cs) (suc number) h within = refl

length_remaining : (taken : ℕ) (cs : List (List Timed)) → length (remaining taken cs) ≡ length cs
length_remaining taken [] = refl
length_remaining taken (c ∷ cs) = refl

-- the chunks are parted by whether they end by a time
pub parted_by : {P : Type 0} (f : P → List Timed) (bs : List P) (time taken : ℕ) → AreUnfinished taken (map f bs) → AreOrdered (joined (remaining taken (map f bs))) → IsPartitionedBy (λ p. ends_by time (f p)) bs
parted_by f bs time taken h ordered i j d le within ends =
    let cs = map f bs in
    let long : j < length cs = omega (arith, within, length-map bs f) in
    let at_j = get_or-map f bs j d [] within in
    let at_i = get_or-map f bs i d [] (omega (arith, le, within)) in
    let remains = ends_in_order time (remaining taken cs) i j (some_remaining taken cs h) ordered le (omega (arith, long, length_remaining taken cs)) (ends_remaining time taken cs j h long ∙ ap (ends_by time) at_j ∙ ends) in
    ap (ends_by time) (sym at_i) ∙ sym (ends_remaining time taken cs i h (omega (arith, le, long))) ∙ remains

-- the chunks before a number end by a time
pub ends_before : {P : Type 0} (f : P → List Timed) (bs : List P) (time taken number : ℕ) → AreUnfinished taken (map f bs) → number ≤ length bs → AllWithin (λ p. ends_by time (f p) ≡ true) bs 0 number
    → (k : ℕ) → k < number → ends_by time (get_or (remaining taken (map f bs)) k []) ≡ true
ends_before f [] time taken number h within all k less = absurd (omega arith)
ends_before f (b ∷ bs) time taken number h within all k less =
    let long = length-map (b ∷ bs) f in
    ends_remaining time taken (map f (b ∷ bs)) k h (omega (arith, long, less, within))
    ∙ ap (ends_by time) (get_or-map f (b ∷ bs) k b [] (omega (arith, less, within)))
    ∙ all k b (omega arith) less

-- and that at the number doesn't
pub ends_later : {P : Type 0} (f : P → List Timed) (bs : List P) (time taken number : ℕ) → AreUnfinished taken (map f bs) → number < length bs → AllWithin (λ p. ends_by time (f p) ≡ false) bs number (length bs)
    → ends_by time (get_or (remaining taken (map f bs)) number []) ≡ false
ends_later f [] time taken number h within all = absurd (omega arith)
ends_later f (b ∷ bs) time taken number h within all =
    ends_remaining time taken (map f (b ∷ bs)) number h (omega (arith, length-map (b ∷ bs) f, within))
    ∙ ap (ends_by time) (get_or-map f (b ∷ bs) number b [] within)
    ∙ all number b (omega arith) within

-- ---- the events that come no later than a time

in_front : (time : ℕ) (c es : List Timed) (place : ℕ) → AreOrdered (c ++ es) → IsPartitionPoint (DueBy time) (Later time) c place → place < length c → IsPartitionPoint (DueBy time) (Later time) (c ++ es) place
in_front time c es place ordered parted within = (
  λ k d low high. subst (DueBy time) (sym (get_or_append_left c es d k (omega (arith, high, within)))) (parted.0 k d low high),
  λ k d low high.
      let here = leb-false (get_or c place d).time time (parted.1 place d (omega arith) within) in
      let order = ordered place k d low high in
      let at = ap (λ (e : Timed). e.time) (get_or_append_left c es d place within) in
      lt-leb (get_or (c ++ es) k d).time time (omega (arith, here, order, at)),
)

further : (time : ℕ) (c es : List Timed) (place : ℕ) → AllWithin (DueBy time) c 0 (length c) → IsPartitionPoint (DueBy time) (Later time) es place → IsPartitionPoint (DueBy time) (Later time) (c ++ es) (length c + place)
further time c es place all parted = (
  λ k d low high. elim (cases_lt k (length c)) [
    | inl l ↦ subst (DueBy time) (sym (get_or_append_left c es d k l)) (all k d low l)
    | inr r ↦ subst (DueBy time) (sym (get_or-append_right c es (length c) k d refl r)) (parted.0 (k - length c) d (omega arith) (omega (arith, r, high)))
  ],
  λ k d low high.
      subst (Later time) (sym (get_or-append_right c es (length c) k d refl (omega (arith, low)))) (parted.1 (k - length c) d (omega (arith, low)) (omega (arith, low, high, length-append c es))),
)

-- a place in a chunk after those that end by a time
pub found : (time : ℕ) (ls : List (List Timed)) (number place : ℕ) → AreOrdered (joined ls) → ((k : ℕ) → k < number → ends_by time (get_or ls k []) ≡ true) → number < length ls
    → IsPartitionPoint (DueBy time) (Later time) (get_or ls number []) place → place < length (get_or ls number []) → IsPartitionPoint (DueBy time) (Later time) (joined ls) (position ls number place)
found time [] number place ordered ends within parted fits = absurd (omega arith)
found time (c ∷ cs) zero place ordered ends within parted fits =
    let P : ℕ → Type 0 = λ n. IsPartitionPoint (DueBy time) (Later time) (c ++ joined cs) n in
    let same : place ≡ 0 + place = omega arith in
    subst P same (in_front time c (joined cs) place ordered parted fits)
found time (c ∷ cs) (suc number) place ordered ends within parted fits =
    let P : ℕ → Type 0 = λ n. IsPartitionPoint (DueBy time) (Later time) (c ++ joined cs) n in
    let rest = found time cs number place (following c (joined cs) ordered) (λ k h. ends (suc k) (omega (arith, h))) (omega arith) parted fits in
    let all = all_by time c (front c (joined cs) ordered) (ends 0 (omega arith)) in
    let same : length c + position cs number place ≡ position (c ∷ cs) (suc number) place = omega (arith, length-append c (joined (take number cs))) in
    subst P same (further time c (joined cs) (position cs number place) all rest)

-- after all chunks
pub found_none : (time : ℕ) (ls : List (List Timed)) (number : ℕ) → AreOrdered (joined ls) → ((k : ℕ) → k < number → ends_by time (get_or ls k []) ≡ true) → number ≡ length ls
    → IsPartitionPoint (DueBy time) (Later time) (joined ls) (position ls number 0)
found_none time [] zero ordered ends all = (λ k d low high. absurd (omega arith), λ k d low high. absurd (omega arith))
found_none time [] (suc number) ordered ends all = absurd (omega arith)
found_none time (c ∷ cs) zero ordered ends all = absurd (omega arith)
found_none time (c ∷ cs) (suc number) ordered ends all =
    let P : ℕ → Type 0 = λ n. IsPartitionPoint (DueBy time) (Later time) (c ++ joined cs) n in
    let rest = found_none time cs number (following c (joined cs) ordered) (λ k h. ends (suc k) (omega (arith, h))) (omega arith) in
    let each = all_by time c (front c (joined cs) ordered) (ends 0 (omega arith)) in
    let same : length c + position cs number 0 ≡ position (c ∷ cs) (suc number) 0 = omega (arith, length-append c (joined (take number cs))) in
    subst P same (further time c (joined cs) (position cs number 0) each rest)

-- what remains of a chunk is what remains of what its pointer stands for
pub remains : {P : Type 0} (f : P → List Timed) (bs : List P) (taken number : ℕ) (ls : List (List Timed)) (p : P) → remaining taken (map f bs) ≡ ls → number < length bs → p ≡ get_or bs number p
    → get_or ls number [] ≡ drop (first_place taken number) (f p)
remains f bs taken number ls p view within is =
    sym (ap (λ (xs : List (List Timed)). get_or xs number []) view)
    ∙ remaining_at taken (map f bs) number (omega (arith, length-map bs f, within))
    ∙ ap (drop (first_place taken number)) (chunk_at f bs number p within is)

-- a place of the chunk that is found
pub found_in : {P : Type 0} (f : P → List Timed) (bs : List P) (time taken number place : ℕ) (ls : List (List Timed)) (p : P) → remaining taken (map f bs) ≡ ls → AreUnfinished taken (map f bs) → AreOrdered (joined ls)
    → IsPartitionPoint (λ q. ends_by time (f q) ≡ true) (λ q. ends_by time (f q) ≡ false) bs number → number < length bs → p ≡ get_or bs number p
    → IsPartitionPoint (DueBy time) (Later time) (drop (first_place taken number) (f p)) place → place ≤ length (drop (first_place taken number) (f p))
    → IsPartitionPoint (DueBy time) (Later time) (joined ls) (position ls number place) × (place < length (get_or ls number []))
found_in f bs time taken number place ls p view h ordered parted within is here fits =
    let chunk = remains f bs taken number ls p view within is in
    let ends : (k : ℕ) → k < number → ends_by time (get_or ls k []) ≡ true =
    λ k less. ap (λ (xs : List (List Timed)). ends_by time (get_or xs k [])) (sym view) ∙ ends_before f bs time taken number h (omega (arith, within)) parted.0 k less in
    let later = ap (λ (xs : List (List Timed)). ends_by time (get_or xs number [])) (sym view) ∙ ends_later f bs time taken number h within parted.1 in
    let many = as_many f taken bs ls view in
    let some : 0 < length (get_or ls number []) =
    subst (λ (xs : List (List Timed)). 0 < length (get_or xs number [])) view (some_remaining taken (map f bs) h number [] (omega (arith, length_remaining taken (map f bs), length-map bs f, within))) in
    let there : IsPartitionPoint (DueBy time) (Later time) (get_or ls number []) place = subst (λ (es : List Timed). IsPartitionPoint (DueBy time) (Later time) es place) (sym chunk) here in
    let inside = before_end time (get_or ls number []) place there.0 (omega (arith, ap length chunk, fits)) some later in
    (found time ls number place ordered ends (omega (arith, many, within)) there inside, inside)

-- the place after all chunks
pub found_after : {P : Type 0} (f : P → List Timed) (bs : List P) (time taken number : ℕ) (ls : List (List Timed)) → remaining taken (map f bs) ≡ ls → AreUnfinished taken (map f bs) → AreOrdered (joined ls)
    → IsPartitionPoint (λ q. ends_by time (f q) ≡ true) (λ q. ends_by time (f q) ≡ false) bs number → number ≡ length bs
    → IsPartitionPoint (DueBy time) (Later time) (joined ls) (position ls number 0)
found_after f bs time taken number ls view h ordered parted all =
    found_none time ls number ordered
    (λ k less. ap (λ (xs : List (List Timed)). ends_by time (get_or xs k [])) (sym view) ∙ ends_before f bs time taken number h (omega (arith, all)) parted.0 k less)
    (omega (arith, as_many f taken bs ls view, all))

-- ---- what a place counts

position_end : (ls : List (List Timed)) (number : ℕ) → number ≡ length ls → position ls number 0 ≡ length (joined ls)
position_end [] zero all = refl
position_end [] (suc number) all = absurd (omega arith)
position_end (c ∷ cs) zero all = absurd (omega arith)
position_end (c ∷ cs) (suc number) all =
    let rest = position_end cs number (omega arith) in
    omega (arith, rest, length-append c (joined (take number cs)), length-append c (joined cs))

-- after all chunks are all events
pub position_all : (ls : List (List Timed)) (number place : ℕ) → number ≡ length ls → place ≡ 0 → position ls number place ≡ length (joined ls)
position_all ls number place all none = ap (position ls number) none ∙ position_end ls number all

-- a place counts no more events than there are
pub position_fits : (ls : List (List Timed)) (number place : ℕ) → number ≤ length ls → (number < length ls → place < length (get_or ls number [])) → (length ls ≤ number → place ≡ 0) → position ls number place ≤ length (joined ls)
position_fits ls number place most within last =
    elim (cases_lt number (length ls)) [
      | inl less ↦ (let there = within_joined ls number place less (within less) in omega (arith, there))
      | inr not ↦ (let all = position_all ls number place (omega (arith, most, not)) (last not) in omega (arith, all))
    ]

-- Future events in chunks.
use Rattle.std.proofs.Common.{◌≡◌, ◌∙◌, ℕ, zero, suc, ◌+◌, ◌-◌, ◌<◌, ◌≤◌, List, [], ◌∷◌, ◌++◌, inl, inr, refl, ap, sym, arith, subst, length, length-append, get_or, map, take, drop, insert, set}
use Rattle.std.proofs.Math.Seq.{map-set_same}
use Rattle.std.specs.Prelude.{◌⊎◌, Err, Ok, OnErr, OnOk, Result, slice_get}
use Rattle.std.specs.List.{All}
use Rattle.std.proofs.lemmas.List.{append-nil, append_assoc, drop-map, map-append, map-set, take-map, drop_all, get_or-map, length-drop, length-map, take_more}
use Rattle.std.proofs.lemmas.List.Edits.{insert-append_left, insert-append_right, insert_end, length-insert}
use Rattle.std.proofs.lemmas.List.Elements.{All-append, All-cons, All-drop, All-head, All-nil, All-push, All-set, All-tail, All-take}
use Rattle.std.proofs.lemmas.List.Concat.{flat_map-append}
use Rattle.vp_strata.specs.declared.event.Timed.{Timed}
use Rattle.vp_strata.specs.Queues.{first_time}
use Rattle.vp_text.specs.Lists.{joined}
use Rattle.vp_strata.specs.Chunks.{AreUnfinished, first_place, position, remaining}

-- ---- one more event in a chunk

-- one more in a chunk is one more in the list
pub joined_set : (ls : List (List Timed)) (number place : ℕ) (e : Timed) → number < length ls → place ≤ length (get_or ls number [])
    → joined (set ls number (insert (get_or ls number []) place e)) ≡ insert (joined ls) (position ls number place) e
joined_set [] number place e within fits = absurd (omega arith)
joined_set (c ∷ cs) zero place e within fits =
    sym (ap (λ (n : ℕ). insert (c ++ joined cs) n e) (omega arith) ∙ insert-append_left c (joined cs) place e fits)
joined_set (c ∷ cs) (suc number) place e within fits =
    let at : position (c ∷ cs) (suc number) place - length c ≡ position cs number place = omega (arith, length-append c (joined (take number cs))) in
    ap (λ (es : List Timed). c ++ es) (joined_set cs number place e (omega arith) fits)
    ∙ ap (λ (n : ℕ). c ++ insert (joined cs) n e) (sym at)
    ∙ sym (insert-append_right c (joined cs) (length c) (position (c ∷ cs) (suc number) place) e refl (omega (arith, length-append c (joined (take number cs)))))

-- what remains of a chunk
pub remaining_at : (taken : ℕ) (cs : List (List Timed)) (number : ℕ) → number < length cs → get_or (remaining taken cs) number [] ≡ drop (first_place taken number) (get_or cs number [])
remaining_at taken [] number within = absurd (omega arith)
remaining_at taken (c ∷ cs) zero within = refl
remaining_at taken (c ∷ cs) (suc number) within = refl

pub length-remaining : (taken : ℕ) (cs : List (List Timed)) → length (remaining taken cs) ≡ length cs
length-remaining taken [] = refl
length-remaining taken (c ∷ cs) = refl

-- what remains where a chunk is exchanged
remaining_set : (taken : ℕ) (cs : List (List Timed)) (number : ℕ) (c : List Timed) → number < length cs → remaining taken (set cs number c) ≡ set (remaining taken cs) number (drop (first_place taken number) c)
remaining_set taken [] number c within = absurd (omega arith)
remaining_set taken (b ∷ bs) zero c within = refl
remaining_set taken (b ∷ bs) (suc number) c within = refl

-- one more after a place
drop-insert : (first : ℕ) (c : List Timed) (place : ℕ) (e : Timed) → first + place ≤ length c → drop first (insert c (first + place) e) ≡ insert (drop first c) place e
drop-insert zero c place e within = ap (λ (n : ℕ). insert c n e) (omega arith)
drop-insert (suc first) [] place e within = absurd (omega arith)
drop-insert (suc first) (x ∷ c) place e within =
    let next : suc first + place ≡ suc (first + place) = omega arith in
    ap (λ (n : ℕ). drop (suc first) (insert (x ∷ c) n e)) next ∙ drop-insert first c place e (omega arith)

-- the place of the first event that remains stands within its chunk
pub first_within : (taken : ℕ) (cs : List (List Timed)) (number : ℕ) → AreUnfinished taken cs → number < length cs → first_place taken number < length (get_or cs number [])
first_within taken [] number h within = absurd (omega arith)
first_within taken (c ∷ cs) zero h within = h.0
first_within taken (c ∷ cs) (suc number) h within = h.1 number [] (omega arith)

-- one more among what remains of a chunk
pub more_in_chunk : (taken : ℕ) (cs : List (List Timed)) (number place : ℕ) (e : Timed) → number < length cs → first_place taken number + place ≤ length (get_or cs number [])
    → joined (remaining taken (set cs number (insert (get_or cs number []) (first_place taken number + place) e)))
    ≡ insert (joined (remaining taken cs)) (position (remaining taken cs) number place) e
more_in_chunk taken cs number place e within fits =
    let first = first_place taken number in
    let ls = remaining taken cs in
    let here = remaining_at taken cs number within in
    ap joined (remaining_set taken cs number (insert (get_or cs number []) (first + place) e) within
    ∙ ap (set ls number) (drop-insert first (get_or cs number []) place e fits ∙ ap (λ (c : List Timed). insert c place e) (sym here)))
    ∙ joined_set ls number place e (omega (arith, length-remaining taken cs)) (omega (arith, ap length here, length-drop first (get_or cs number [])))

-- a longer chunk is no less unfinished
pub unfinished_set : (taken : ℕ) (cs : List (List Timed)) (number : ℕ) (c : List Timed) → AreUnfinished taken cs → number < length cs → length (get_or cs number []) ≤ length c → AreUnfinished taken (set cs number c)
unfinished_set taken [] number c h within long = absurd (omega arith)
unfinished_set taken (b ∷ bs) zero c h within long = (omega (arith, h.0), h.1)
unfinished_set taken (b ∷ bs) (suc number) c h within long =
    (h.0, All-set (λ (d : List Timed). 0 < length d) bs number c (let some = h.1 number [] (omega arith) in omega (arith, long)) h.1)

-- ---- a chunk in two

map_insert : {X Y : Type 0} (f : X → Y) (xs : List X) (i : ℕ) (x : X) → map f (insert xs i x) ≡ insert (map f xs) i (f x)
map_insert f xs i x =
    map-append f (take i xs) (x ∷ drop i xs)
    ∙ ap (λ ys. ys ++ f x ∷ map f (drop i xs)) (sym (take-map f i xs))
    ∙ ap (λ ys. take i (map f xs) ++ f x ∷ ys) (sym (drop-map f i xs))

-- what stands after an exchange of a chunk for two
pub map_split : {X Y : Type 0} (f : X → Y) (xs : List X) (number : ℕ) (front back : X) → map f (set (insert xs (number + 1) back) number front) ≡ set (insert (map f xs) (number + 1) (f back)) number (f front)
map_split f xs number front back =
    map-set f (insert xs (number + 1) back) number front ∙ ap (λ ys. set ys number (f front)) (map_insert f xs (number + 1) back)

joined_split : (ls : List (List Timed)) (number place : ℕ) (e : Timed) (front back : List Timed) → number < length ls → place ≤ length (get_or ls number []) → front ++ back ≡ insert (get_or ls number []) place e
    → joined (set (insert ls (number + 1) back) number front) ≡ insert (joined ls) (position ls number place) e
joined_split [] number place e front back within fits both = absurd (omega arith)
joined_split (c ∷ cs) zero place e front back within fits both =
    sym (append_assoc front back (joined cs))
    ∙ ap (λ (es : List Timed). es ++ joined cs) both
    ∙ sym (ap (λ (n : ℕ). insert (c ++ joined cs) n e) (omega arith) ∙ insert-append_left c (joined cs) place e fits)
joined_split (c ∷ cs) (suc number) place e front back within fits both =
    let next : suc number + 1 ≡ suc (number + 1) = omega arith in
    let at : position (c ∷ cs) (suc number) place - length c ≡ position cs number place = omega (arith, length-append c (joined (take number cs))) in
    ap (λ (n : ℕ). joined (set (insert (c ∷ cs) n back) (suc number) front)) next
    ∙ ap (λ (es : List Timed). c ++ es) (joined_split cs number place e front back (omega arith) fits both)
    ∙ ap (λ (n : ℕ). c ++ insert (joined cs) n e) (sym at)
    ∙ sym (insert-append_right c (joined cs) (length c) (position (c ∷ cs) (suc number) place) e refl (omega (arith, length-append c (joined (take number cs)))))

remaining_split : (taken : ℕ) (cs : List (List Timed)) (number : ℕ) (front back : List Timed) → number < length cs
    → remaining (taken - first_place taken number) (set (insert cs (number + 1) back) number front) ≡ set (insert (remaining taken cs) (number + 1) back) number front
remaining_split taken [] number front back within = absurd (omega arith)
remaining_split taken (c ∷ cs) zero front back within =
    let none : taken - taken ≡ 0 = omega arith in ap (λ (n : ℕ). drop n front ∷ back ∷ cs) none
remaining_split taken (c ∷ cs) (suc number) front back within =
    let next : suc number + 1 ≡ suc (number + 1) = omega arith in
    let same : taken - 0 ≡ taken = omega arith in
    ap (λ (n : ℕ). remaining (taken - 0) (set (insert (c ∷ cs) n back) (suc number) front)) next
    ∙ ap (λ (n : ℕ). drop n c ∷ set (insert cs (number + 1) back) number front) same
    ∙ ap (λ (n : ℕ). set (insert (drop taken c ∷ cs) n back) (suc number) front) (sym next)

-- one more among what remains of a chunk that is exchanged for two
pub more_in_two : (taken : ℕ) (cs : List (List Timed)) (number place : ℕ) (e : Timed) (front back : List Timed) → number < length cs → place ≤ length (drop (first_place taken number) (get_or cs number []))
    → front ++ back ≡ insert (drop (first_place taken number) (get_or cs number [])) place e
    → joined (remaining (taken - first_place taken number) (set (insert cs (number + 1) back) number front)) ≡ insert (joined (remaining taken cs)) (position (remaining taken cs) number place) e
more_in_two taken cs number place e front back within fits both =
    let here = remaining_at taken cs number within in
    ap joined (remaining_split taken cs number front back within)
    ∙ joined_split (remaining taken cs) number place e front back (omega (arith, length-remaining taken cs)) (omega (arith, ap length here, fits)) (both ∙ ap (λ (c : List Timed). insert c place e) (sym here))

-- two chunks that are not empty are unfinished in place of one
pub unfinished_split : (taken : ℕ) (cs : List (List Timed)) (number : ℕ) (front back : List Timed) → AreUnfinished taken cs → number < length cs → 0 < length front → 0 < length back
    → AreUnfinished (taken - first_place taken number) (set (insert cs (number + 1) back) number front)
unfinished_split taken [] number front back h within f b = absurd (omega arith)
unfinished_split taken (c ∷ cs) zero front back h within f b =
    (omega arith, All-cons (λ (d : List Timed). 0 < length d) back cs b h.1)
unfinished_split taken (c ∷ cs) (suc number) front back h within f b =
    let next : suc number + 1 ≡ suc (number + 1) = omega arith in
    let Some : List Timed → Type 0 = λ d. 0 < length d in
    let more = All-append Some (take (number + 1) cs) (back ∷ drop (number + 1) cs) (All-take Some (number + 1) cs h.1) (All-cons Some back (drop (number + 1) cs) b (All-drop Some (number + 1) cs h.1)) in
    let P : ℕ → Type 0 = λ n. AreUnfinished (taken - 0) (set (insert (c ∷ cs) n back) (suc number) front) in
    subst P (sym next) (omega (arith, h.0), All-set Some (insert cs (number + 1) back) number front f more)

-- ---- one more chunk

pub joined_push : (taken : ℕ) (cs : List (List Timed)) (e : Timed) → AreUnfinished taken cs → joined (remaining taken (cs ++ (e ∷ []) ∷ [])) ≡ joined (remaining taken cs) ++ e ∷ []
joined_push taken [] e h = ap (λ (n : ℕ). drop n (e ∷ []) ++ []) h
joined_push taken (c ∷ cs) e h =
    ap (λ (es : List Timed). drop taken c ++ es) (flat_map-append (λ (d : List Timed). d) cs ((e ∷ []) ∷ []))
    ∙ sym (append_assoc (drop taken c) (joined cs) (e ∷ []))

pub unfinished_push : (taken : ℕ) (cs : List (List Timed)) (e : Timed) → AreUnfinished taken cs → AreUnfinished taken (cs ++ (e ∷ []) ∷ [])
unfinished_push taken [] e h = (omega (arith, h), All-nil (λ (d : List Timed). 0 < length d))
unfinished_push taken (c ∷ cs) e h = (h.0, All-push (λ (d : List Timed). 0 < length d) cs (e ∷ []) h.1 (omega arith))

-- after the last chunk's events all have passed
pub position_last : (ls : List (List Timed)) (number place : ℕ) → suc number ≡ length ls → place ≡ length (get_or ls number []) → position ls number place ≡ length (joined ls)
position_last [] number place last all = absurd (omega arith)
position_last (c ∷ []) zero place last all = omega (arith, all, ap length (append-nil c))
position_last (c ∷ d ∷ cs) zero place last all = absurd (omega arith)
position_last (c ∷ []) (suc number) place last all = absurd (omega arith)
position_last (c ∷ d ∷ cs) (suc number) place last all =
    let rest = position_last (d ∷ cs) number place (omega arith) all in
    omega (arith, rest, length-append c (joined (take number (d ∷ cs))), length-append c (joined (d ∷ cs)))

-- ---- the first event is over

pub first_of : (taken : ℕ) (c : List Timed) (cs : List (List Timed)) → taken < length c → slice_get (joined (remaining taken (c ∷ cs))) 0 ≡ slice_get c taken
first_of taken [] cs within = absurd (omega arith)
first_of zero (x ∷ c) cs within = refl
first_of (suc taken) (x ∷ c) cs within = first_of taken c cs (omega arith)

pub rest_of : (taken : ℕ) (c : List Timed) (cs : List (List Timed)) → taken < length c → joined (remaining (taken + 1) (c ∷ cs)) ≡ drop 1 (joined (remaining taken (c ∷ cs)))
rest_of taken [] cs within = absurd (omega arith)
rest_of zero (x ∷ c) cs within = refl
rest_of (suc taken) (x ∷ c) cs within =
    let next : suc taken + 1 ≡ suc (taken + 1) = omega arith in
    ap (λ (n : ℕ). drop n (x ∷ c) ++ joined cs) next ∙ rest_of taken c cs (omega arith)

-- what remains where none of the first chunk's events is over
pub remaining_zero : (cs : List (List Timed)) → remaining 0 cs ≡ cs
remaining_zero [] = refl
remaining_zero (c ∷ cs) = refl

pub unfinished_zero : (cs : List (List Timed)) → All (λ (d : List Timed). 0 < length d) cs → AreUnfinished 0 cs
unfinished_zero [] h = refl
unfinished_zero (c ∷ cs) h = (All-head (λ (d : List Timed). 0 < length d) c cs h, All-tail (λ (d : List Timed). 0 < length d) c cs h)

pub rest_is : (taken : ℕ) (c : List Timed) (cs : List (List Timed)) → taken < length c → length c ≤ taken + 1 → joined (remaining 0 cs) ≡ drop 1 (joined (remaining taken (c ∷ cs)))
rest_is taken c cs within last =
    ap joined (remaining_zero cs)
    ∙ ap (λ (es : List Timed). es ++ joined cs) (sym (drop_all (taken + 1) c last))
    ∙ rest_of taken c cs within

-- ---- a chunk that is written to

-- the list's chunks stay where one is exchanged for one of the same events
pub kept_in : {P : Type 0} (f : P → List Timed) (bs : List P) (number : ℕ) (old new : P) → old ≡ get_or bs number old → f new ≡ f old → map f (set bs number new) ≡ map f bs
kept_in f bs number old new is by = map-set_same f bs number new old (by ∙ ap f is)

-- one is exchanged for one with one more event
pub set_in : {P : Type 0} (f : P → List Timed) (bs : List P) (number place : ℕ) (e : Timed) (old new : P) → number < length bs → old ≡ get_or bs number old → f new ≡ insert (f old) place e
    → map f (set bs number new) ≡ set (map f bs) number (insert (get_or (map f bs) number []) place e)
set_in f bs number place e old new within is by =
    map-set f bs number new
    ∙ ap (set (map f bs) number) (by ∙ ap (λ c. insert c place e) (ap f is ∙ sym (get_or-map f bs number old [] within)))

pub same_either : {X : Type 0} {x y : X} → (x ≡ y) ⊎ (x ≡ y) → x ≡ y
same_either (inl h) = h
same_either (inr h) = h

-- what holds where an error is returned, at an error
pub at_err : {T E Q : Type 0} (r : Result T E) (y : E) → r ≡ Err y → OnErr r Q → Q
at_err (Ok a) y e h = absurd cc
at_err (Err a) y e h = h

-- a fact holds also where an error is returned
pub whenever_err : {T E Q : Type 0} (r : Result T E) → Q → OnErr r Q
whenever_err (Ok a) h = tt
whenever_err (Err a) h = h

-- a chunk is what its pointer stands for
pub chunk_at : {P : Type 0} (f : P → List Timed) (bs : List P) (number : ℕ) (p : P) → number < length bs → p ≡ get_or bs number p → get_or (map f bs) number [] ≡ f p
chunk_at f bs number p within is = get_or-map f bs number p [] within ∙ ap f (sym is)

-- one chunk more is shared
pub shared_more : {P : Type 0} (f : P → List Timed) (bs made more : List P) (i : ℕ) (p new : P) → map f made ≡ take i (map f bs) → i < length bs → p ≡ get_or bs i p → f new ≡ f p → more ≡ made ++ new ∷ [] → map f more ≡ take (i + 1) (map f bs)
shared_more f bs made more i p new h within is same by =
    let at : get_or (map f bs) i [] ≡ f new = chunk_at f bs i p within is ∙ sym same in
    ap (map f) by ∙ map-append f made (new ∷ [])
    ∙ ap (λ front. front ++ f new ∷ []) h
    ∙ ap (λ c. take i (map f bs) ++ c ∷ []) (sym at)
    ∙ sym (take_more (map f bs) i [] (omega (arith, length-map bs f)))

-- one more after the events of the last chunk
pub more_last : (taken : ℕ) (cs : List (List Timed)) (number place : ℕ) (e : Timed) → AreUnfinished taken cs → suc number ≡ length cs → place ≡ length (get_or cs number [])
    → joined (remaining taken (set cs number (insert (get_or cs number []) place e))) ≡ joined (remaining taken cs) ++ e ∷ []
more_last taken cs number place e h last all =
    let first = first_place taken number in
    let ls = remaining taken cs in
    let c = get_or cs number [] in
    let within : number < length cs = omega (arith, last) in
    let before = first_within taken cs number h within in
    let from : place ≡ first + (place - first) = omega (arith, before, all) in
    let here = remaining_at taken cs number within in
    ap (λ (n : ℕ). joined (remaining taken (set cs number (insert c n e)))) from
    ∙ more_in_chunk taken cs number (place - first) e within (omega (arith, from, all))
    ∙ ap (λ (n : ℕ). insert (joined ls) n e) (position_last ls number (place - first) (last ∙ sym (length-remaining taken cs)) (omega (arith, ap length here, length-drop first c, all)))
    ∙ insert_end (joined ls) e

-- a chunk of which one event was the last that remains
pub first_at : (taken : ℕ) (cs : List (List Timed)) → AreUnfinished taken cs → 0 < length cs → slice_get (joined (remaining taken cs)) 0 ≡ slice_get (get_or cs 0 []) taken
first_at taken [] h some = absurd (omega arith)
first_at taken (c ∷ cs) h some = first_of taken c cs h.0

pub rest_at : (taken : ℕ) (cs : List (List Timed)) → AreUnfinished taken cs → 0 < length cs → joined (remaining (taken + 1) cs) ≡ drop 1 (joined (remaining taken cs))
rest_at taken [] h some = absurd (omega arith)
rest_at taken (c ∷ cs) h some = rest_of taken c cs h.0

pub rest_after : (taken : ℕ) (cs : List (List Timed)) → AreUnfinished taken cs → 0 < length cs → length (get_or cs 0 []) ≤ taken + 1 → joined (remaining 0 (drop 1 cs)) ≡ drop 1 (joined (remaining taken cs))
rest_after taken [] h some last = absurd (omega arith)
rest_after taken (c ∷ cs) h some last = rest_is taken c cs h.0 last

pub unfinished_following : (taken : ℕ) (cs : List (List Timed)) → AreUnfinished taken cs → AreUnfinished 0 (drop 1 cs)
unfinished_following taken [] h = refl
unfinished_following taken (c ∷ cs) h = unfinished_zero cs h.1

-- ---- how many stand before a place

pub position_more : (ls : List (List Timed)) (number place : ℕ) → number < length ls → position ls (number + 1) place ≡ position ls number place + length (get_or ls number [])
position_more [] number place within = absurd (omega arith)
position_more (c ∷ cs) zero place within = omega (arith, length-append c [])
position_more (c ∷ cs) (suc number) place within =
    let next : suc number + 1 ≡ suc (number + 1) = omega arith in
    let rest = position_more cs number place (omega arith) in
    ap (λ (n : ℕ). position (c ∷ cs) n place) next
    ∙ omega (arith, rest, length-append c (joined (take number cs)), length-append c (joined (take (number + 1) cs)))

pub position_le : (ls : List (List Timed)) (m n place : ℕ) → m ≤ n → position ls m place ≤ position ls n place
position_le [] zero n place h = omega arith
position_le [] (suc m) zero place h = absurd (omega arith)
position_le [] (suc m) (suc n) place h = omega arith
position_le (c ∷ cs) zero n place h = omega arith
position_le (c ∷ cs) (suc m) zero place h = absurd (omega arith)
position_le (c ∷ cs) (suc m) (suc n) place h =
    let rest = position_le cs m n place (omega arith) in
    omega (arith, rest, length-append c (joined (take m cs)), length-append c (joined (take n cs)))

-- how many are before the next chunk
pub next_position : {P : Type 0} (f : P → List Timed) (taken : ℕ) (bs : List P) (ls : List (List Timed)) (number place long : ℕ) (p : P) → remaining taken (map f bs) ≡ ls → number < length bs → p ≡ get_or bs number p → long ≡ length (f p)
    → position ls (number + 1) place ≡ position ls number place + (long - first_place taken number)
next_position f taken bs ls number place long p view within is all =
    let cs = map f bs in
    let inside : number < length cs = omega (arith, length-map bs f) in
    let here = ap length (sym (ap (λ (xs : List (List Timed)). get_or xs number []) view) ∙ remaining_at taken cs number inside ∙ ap (drop (first_place taken number)) (chunk_at f bs number p within is)) in
    let count = ap length view in
    position_more ls number place (omega (arith, count, length-remaining taken cs)) ∙ omega (arith, here, all, length-drop (first_place taken number) (f p))

-- there are as many chunks as pointers
pub as_many : {P : Type 0} (f : P → List Timed) (taken : ℕ) (bs : List P) (ls : List (List Timed)) → remaining taken (map f bs) ≡ ls → length ls ≡ length bs
as_many f taken bs ls view = omega (arith, ap length view, length-remaining taken (map f bs), length-map bs f)

-- a place of what remains of a chunk stands within the chunk
pub fits_in : {P : Type 0} (f : P → List Timed) (taken : ℕ) (bs : List P) (ls : List (List Timed)) (number place : ℕ) → remaining taken (map f bs) ≡ ls → number < length ls → place < length (get_or ls number [])
    → first_place taken number + place < length (get_or (map f bs) number [])
fits_in f taken bs ls number place view within fits =
    let cs = map f bs in
    let inside : number < length cs = omega (arith, within, as_many f taken bs ls view, length-map bs f) in
    let here = ap length (sym (ap (λ (xs : List (List Timed)). get_or xs number []) view) ∙ remaining_at taken cs number inside) in
    omega (arith, here, fits, length-drop (first_place taken number) (get_or cs number []))

-- the chunks are unfinished where one may have one more event
pub unfinished_after : {T E : Type 0} (r : Result T E) (taken : ℕ) (cs ds : List (List Timed)) (number place : ℕ) (e : Timed) → AreUnfinished taken cs → number < length cs → place ≤ length (get_or cs number [])
    → OnOk r (ds ≡ set cs number (insert (get_or cs number []) place e)) → OnErr r (ds ≡ cs) → AreUnfinished taken ds
unfinished_after (Ok a) taken cs ds number place e h within fits more kept =
    let P : List (List Timed) → Type 0 = λ xs. AreUnfinished taken xs in
    subst P (sym more) (unfinished_set taken cs number (insert (get_or cs number []) place e) h within (omega (arith, length-insert (get_or cs number []) place e fits)))
unfinished_after (Err a) taken cs ds number place e h within fits more kept =
    let P : List (List Timed) → Type 0 = λ xs. AreUnfinished taken xs in subst P (sym kept) h

first_time_of : (taken : ℕ) (c : List Timed) (cs : List (List Timed)) → taken < length c → first_time (drop taken c) ≡ first_time (joined (remaining taken (c ∷ cs)))
first_time_of taken [] cs within = absurd (omega arith)
first_time_of zero (x ∷ c) cs within = refl
first_time_of (suc taken) (x ∷ c) cs within = first_time_of taken c cs (omega arith)

-- the time of the first event that remains in the first chunk
pub first_time_at : (taken : ℕ) (cs : List (List Timed)) → AreUnfinished taken cs → 0 < length cs → first_time (drop taken (get_or cs 0 [])) ≡ first_time (joined (remaining taken cs))
first_time_at taken [] h some = absurd (omega arith)
first_time_at taken (c ∷ cs) h some = first_time_of taken c cs h.0

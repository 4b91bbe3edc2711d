-- Laws of lists of which copies are kept.
use Rattle.std.proofs.Common.{◌≡◌, ℕ, zero, suc, ◌+◌, ◌-◌, ◌*◌, ◌/◌, ◌<◌, ◌≤◌, List, [], ◌∷◌, ◌++◌, length, min, take, drop, get_or, Option, Some, None, refl, ap, sym, subst, inl, inr, ◌∙◌, arith}
use Rattle.std.specs.Int.{bit_at}
use Rattle.std.specs.Prelude.{◌⊎◌, ◌%◌, ◌^◌, bit_or, slice_get, slice_index_or, slice_set, replicate}
use Rattle.std.specs.Option.{option_to_list}
use Rattle.std.specs.List.{Contains}
use Rattle.std.proofs.Math.Nat.{mod-lt}
use Rattle.std.proofs.lemmas.Bool.{cases_eq, cases_lt}
use Rattle.std.proofs.lemmas.Nat.{div-add-mod'}
use Rattle.std.proofs.lemmas.List.{length-take, length-take-le, length-drop, get_or-set_same, get_or-set_other}
use Rattle.std.proofs.lemmas.Nat.Bits.{bit_at_or, bit_at-lt, bit_at-pow_same, bit_at-zero}
use Rattle.std.proofs.lemmas.List.Elements.{Contains-push_cases}
use Rattle.std.proofs.lemmas.Option.{slice_get_past}
use Rattle.vp_cow_list.specs.Chunks.{with_items}
use Rattle.vp_cow_list.specs.Tracked.{AreCopied, AreMarked, HasWritten, IsRenewed, IsWritten}
use Rattle.vp_cow_list.specs.laws.Chunks.{get_back, get_front}

-- lists with the same item at each place are the same
pub same_items : {X : Type 0} (xs ys : List X) → ((k : ℕ) → slice_get xs k ≡ slice_get ys k) → xs ≡ ys
same_items [] [] h = refl
same_items [] (y ∷ ys) h = let e = h 0 in cc
same_items (x ∷ xs) [] h = let e = h 0 in cc
same_items (x ∷ xs) (y ∷ ys) h =
    let e : x ≡ y = let some = h 0 in cc in
    let rest = same_items xs ys (λ k. h (suc k)) in
    ap (λ z. z ∷ xs) e ∙ ap (λ zs. y ∷ zs) rest

-- the item at a place that was exchanged
pub get_same : {X : Type 0} (xs : List X) (k : ℕ) (x : X) → k < length xs → slice_get (slice_set xs k x) k ≡ Some x
get_same [] k x h = absurd (omega arith)
get_same (y ∷ ys) zero x h = refl
get_same (y ∷ ys) (suc k) x h = get_same ys k x (omega arith)

-- and at another place
pub get_other : {X : Type 0} (xs : List X) (p k : ℕ) (x : X) → (k ≡ p → ⊥) → slice_get (slice_set xs p x) k ≡ slice_get xs k
get_other [] p k x h = refl
get_other (y ∷ ys) zero zero x h = absurd (h refl)
get_other (y ∷ ys) zero (suc k) x h = refl
get_other (y ∷ ys) (suc p) zero x h = refl
get_other (y ∷ ys) (suc p) (suc k) x h = get_other ys p k x (λ e. h (ap suc e))

-- the first items of a list
pub get_take : {X : Type 0} (n : ℕ) (xs : List X) (k : ℕ) → k < n → slice_get (take n xs) k ≡ slice_get xs k
get_take zero xs k h = absurd (omega arith)
get_take (suc n) [] k h = refl
get_take (suc n) (x ∷ xs) zero h = refl
get_take (suc n) (x ∷ xs) (suc k) h = get_take n xs k (omega arith)

-- those after a place
pub get_drop : {X : Type 0} (n : ℕ) (xs : List X) (k : ℕ) → slice_get (drop n xs) k ≡ slice_get xs (n + k)
get_drop zero xs k = ap (slice_get xs) (omega arith)
get_drop (suc n) [] k = sym (slice_get_past [] (suc n + k) (omega arith))
get_drop (suc n) (x ∷ xs) k = let e : suc n + k ≡ suc (n + k) = omega arith in get_drop n xs k ∙ ap (slice_get (x ∷ xs)) (sym e)

-- the item at a place of the list that others were put in
pub get_with : {X : Type 0} (xs ys : List X) (p j k : ℕ) → p + length ys ≤ length xs → k ≡ p + j → j < length ys
    → slice_get (with_items xs p ys) k ≡ slice_get ys j
get_with xs ys p j k l at h =
    let front = length-take-le p xs (omega arith) in
    let n : k ≡ length (take p xs) + j = omega (arith, front) in
    ap (slice_get (with_items xs p ys)) n
    ∙ get_back (take p xs) (ys ++ drop (p + length ys) xs) j
    ∙ get_front ys (drop (p + length ys) xs) j h

-- before them
pub get_before : {X : Type 0} (xs ys : List X) (p k : ℕ) → p + length ys ≤ length xs → k < p
    → slice_get (with_items xs p ys) k ≡ slice_get xs k
get_before xs ys p k l h =
    let front = length-take-le p xs (omega arith) in
    get_front (take p xs) (ys ++ drop (p + length ys) xs) k (omega (arith, front)) ∙ get_take p xs k h

-- and after them
pub get_after : {X : Type 0} (xs ys : List X) (p k : ℕ) → p + length ys ≤ length xs → p + length ys ≤ k
    → slice_get (with_items xs p ys) k ≡ slice_get xs k
get_after xs ys p k l h =
    let front = length-take-le p xs (omega arith) in
    let following = drop (p + length ys) xs in
    let n : k ≡ length (take p xs) + (k - p) = omega (arith, front) in
    let m : k - p ≡ length ys + (k - (p + length ys)) = omega arith in
    let e : p + length ys + (k - (p + length ys)) ≡ k = omega arith in
    ap (slice_get (with_items xs p ys)) n
    ∙ get_back (take p xs) (ys ++ following) (k - p)
    ∙ ap (slice_get (ys ++ following)) m
    ∙ get_back ys following (k - (p + length ys))
    ∙ get_drop (p + length ys) xs (k - (p + length ys))
    ∙ ap (slice_get xs) e

-- a chunk of a list, by its number
abbrev pub chunk_of : {X : Type 0} → List X → ℕ → List X
chunk_of xs number = take 64 (drop (64 * number) xs)

-- how long it is
pub chunk_length : {X : Type 0} (xs : List X) (number : ℕ) → length (chunk_of xs number) ≡ min (length xs - 64 * number) 64
chunk_length xs number =
    omega (arith, length-take 64 (drop (64 * number) xs), length-drop (64 * number) xs)

-- an item of the list stands in its chunk
pub get_chunk : {X : Type 0} (xs : List X) (number k : ℕ) → k / 64 ≡ number → k < length xs
    → slice_get (chunk_of xs number) (k - 64 * number) ≡ slice_get xs k
get_chunk xs number k own h =
    let long = length-drop (64 * number) xs in
    let rest = div-add-mod' k 64 in
    let less = mod-lt k {m = 64} (omega arith) in
    let e : 64 * number + (k - 64 * number) ≡ k = omega (arith, rest, less) in
    get_take 64 (drop (64 * number) xs) (k - 64 * number) (omega (arith, long, rest, less))
    ∙ get_drop (64 * number) xs (k - 64 * number)
    ∙ ap (slice_get xs) e

-- where a copy has what was written in a chunk already, its items there are those of the list
pub own_same : {X : Type 0} (copy items : List X) (number bits k : ℕ) → length copy ≡ length items
    → HasWritten (chunk_of copy number) (chunk_of items number) bits → k / 64 ≡ number
    → (slice_get copy k ≡ slice_get items k) ⊎ (bit_at bits (k % 64) ≡ 1) → slice_get copy k ≡ slice_get items k
own_same copy items number bits k same has own either =
    elim either [
      | inl e ↦ e
      | inr set ↦ elim (cases_lt k (length items)) [
        | inl within ↦
            let long = chunk_length items number in
            let rest = div-add-mod' k 64 in
            let less = mod-lt k {m = 64} (omega arith) in
            let at : k - 64 * number ≡ k % 64 = omega (arith, rest, less) in
            let equal = has (k % 64) (omega (arith, long, rest, less)) set in
            sym (get_chunk copy number k own (omega arith))
            ∙ ap (slice_get (chunk_of copy number)) at
            ∙ equal
            ∙ ap (slice_get (chunk_of items number)) (sym at)
            ∙ get_chunk items number k own within
        | inr past ↦ slice_get_past copy k (omega arith) ∙ sym (slice_get_past items k past)
      ]
    ]

-- a chunk is put in: its items are those of the list
pub own_taken : {X : Type 0} (copy items new : List X) (number k : ℕ) → length copy ≡ length items → 64 * number < length items
    → new ≡ with_items copy (64 * number) (chunk_of items number) → k / 64 ≡ number → slice_get new k ≡ slice_get items k
own_taken copy items new number k same there e own =
    let long = chunk_length items number in
    let rest = div-add-mod' k 64 in
    let less = mod-lt k {m = 64} (omega arith) in
    elim (cases_lt k (length items)) [
      | inl h ↦
          ap (λ xs. slice_get xs k) e
          ∙ get_with copy (chunk_of items number) (64 * number) (k - 64 * number) k (omega (arith, long)) (omega (arith, rest, less)) (omega (arith, long, rest, less))
          ∙ get_chunk items number k own h
      | inr h ↦
          ap (λ xs. slice_get xs k) e
          ∙ get_after copy (chunk_of items number) (64 * number) k (omega (arith, long)) (omega (arith, long, rest))
          ∙ slice_get_past copy k (omega arith) ∙ sym (slice_get_past items k h)
    ]

-- and the others stay
pub others_taken : {X : Type 0} (copy items new : List X) (number k : ℕ) → length copy ≡ length items → 64 * number < length items
    → new ≡ with_items copy (64 * number) (chunk_of items number) → (k / 64 ≡ number → ⊥) → slice_get new k ≡ slice_get copy k
others_taken copy items new number k same there e other =
    let long = chunk_length items number in
    let rest = div-add-mod' k 64 in
    let less = mod-lt k {m = 64} (omega arith) in
    elim (cases_lt k (64 * number)) [
      | inl h ↦ ap (λ xs. slice_get xs k) e ∙ get_before copy (chunk_of items number) (64 * number) k (omega (arith, long)) h
      | inr h ↦ elim (cases_lt k (64 * number + 64)) [
        | inl near ↦ absurd (other (omega (arith, rest, less, h, near)))
        | inr far ↦
            ap (λ xs. slice_get xs k) e
            ∙ get_after copy (chunk_of items number) (64 * number) k (omega (arith, long)) (omega (arith, long, far))
      ]
    ]

-- where there is no such chunk, nothing is to be taken
pub own_past : {X : Type 0} (copy items : List X) (number k : ℕ) → length copy ≡ length items → length items ≤ 64 * number
    → k / 64 ≡ number → slice_get copy k ≡ slice_get items k
own_past copy items number k same past own =
    let rest = div-add-mod' k 64 in
    slice_get_past copy k (omega (arith, rest)) ∙ sym (slice_get_past items k (omega (arith, rest)))

-- an item is written at a place of which that is remembered
pub copied_set : {X : Type 0} (copy items : List X) (written new : List ℕ) (p : ℕ) (x : X) → AreCopied copy items written
    → ((k : ℕ) → IsWritten written k → IsWritten new k) → IsWritten new p
    → AreCopied copy (slice_set items p x) new
copied_set copy items written new p x h others there k =
    elim (cases_eq k p) [
      | inl e ↦ inr (subst (λ (n : ℕ). IsWritten new n) (sym e) there)
      | inr n ↦ elim (h k) [
        | inl e ↦ inl (e ∙ sym (get_other items p k x n))
        | inr c ↦ inr (others k c)
      ]
    ]

-- a bit that a number has stays where another is added
bit_stays : (bits k i : ℕ) → bit_at bits i ≡ 1 → bit_at (bit_or bits (2 ^ k)) i ≡ 1
bit_stays bits k i h = omega (arith, bit_at_or bits (2 ^ k) i, bit_at-lt (2 ^ k) i, h)

-- and the other is there
bit_added : (bits k : ℕ) → bit_at (bit_or bits (2 ^ k)) k ≡ 1
bit_added bits k = omega (arith, bit_at_or bits (2 ^ k) k, bit_at-pow_same k, bit_at-lt bits k)

-- a place more is written in a chunk: what was written still is
pub written_more : (written new : List ℕ) (number bits at k : ℕ) → number < length written → bits ≡ slice_index_or written number 0
    → new ≡ slice_set written number (bit_or bits (2 ^ at)) → IsWritten written k → IsWritten new k
written_more written new number bits at k within read set h =
    elim (cases_eq (k / 64) number) [
      | inl same ↦
          let was = ap (λ (n : ℕ). slice_index_or written n 0) same ∙ sym read in
          let now = ap (λ (ns : List ℕ). slice_index_or ns (k / 64) 0) set
          ∙ ap (λ (n : ℕ). slice_index_or (slice_set written number (bit_or bits (2 ^ at))) n 0) same
          ∙ get_or-set_same written number (bit_or bits (2 ^ at)) 0 within in
          ap (λ (n : ℕ). bit_at n (k % 64)) now ∙ bit_stays bits at (k % 64) (ap (λ (n : ℕ). bit_at n (k % 64)) (sym was) ∙ h)
      | inr other ↦
          let now = ap (λ (ns : List ℕ). slice_index_or ns (k / 64) 0) set
          ∙ get_or-set_other written number (k / 64) (bit_or bits (2 ^ at)) 0 other in
          ap (λ (n : ℕ). bit_at n (k % 64)) now ∙ h
    ]

-- and so is the place
pub written_there : (written new : List ℕ) (bits place : ℕ) → place / 64 < length written
    → new ≡ slice_set written (place / 64) (bit_or bits (2 ^ (place % 64))) → IsWritten new place
written_there written new bits place within set =
    let now = ap (λ (ns : List ℕ). slice_index_or ns (place / 64) 0) set
    ∙ get_or-set_same written (place / 64) (bit_or bits (2 ^ (place % 64))) 0 within in
    ap (λ (n : ℕ). bit_at n (place % 64)) now ∙ bit_added bits (place % 64)

-- a chunk in which a place is written is remembered
pub marked_more : (changed more written new : List ℕ) (number bits : ℕ) → AreMarked changed written
    → ((n : ℕ) → Contains changed n → Contains more n) → Contains more number → new ≡ slice_set written number bits → AreMarked more new
marked_more changed more written new number bits h grow there set n is =
    elim (cases_eq n number) [
      | inl same ↦ subst (λ (m : ℕ). Contains more m) (sym same) there
      | inr other ↦
          let now = ap (λ (ns : List ℕ). slice_index_or ns n 0) set ∙ get_or-set_other written number n bits 0 other in
          grow n (h n (omega (arith, now, is)))
    ]

-- the last of those chunks is forgotten: the others still are all that are after
pub copied_less : {X : Type 0} (copy items taken : List X) (written new : List ℕ) (number : ℕ) → AreCopied copy items written
    → IsRenewed copy taken items number (slice_index_or written number 0)
    → ((k : ℕ) → (k / 64 ≡ number → ⊥) → slice_get taken k ≡ slice_get copy k)
    → new ≡ slice_set written number 0 → AreCopied taken items new
copied_less copy items taken written new number h own others set k =
    elim (cases_eq (k / 64) number) [
      | inl same ↦ elim (h k) [
        | inl equal ↦ inl (own k same (inl equal))
        | inr c ↦ inl (own k same (inr (ap (λ (n : ℕ). bit_at (slice_index_or written n 0) (k % 64)) (sym same) ∙ c)))
      ]
      | inr other ↦ elim (h k) [
        | inl equal ↦ inl (others k other ∙ equal)
        | inr c ↦
            let now = ap (λ (ns : List ℕ). slice_index_or ns (k / 64) 0) set ∙ get_or-set_other written number (k / 64) 0 0 other in
            inr (ap (λ (n : ℕ). bit_at n (k % 64)) now ∙ c)
      ]
    ]

-- nothing is written in a chunk that is forgotten
none_there : (written : List ℕ) (n : ℕ) → slice_index_or (slice_set written n 0) n 0 ≡ 0
none_there [] n = refl
none_there (b ∷ written) zero = refl
none_there (b ∷ written) (suc n) = none_there written n

-- and all that are marked
pub marked_less : (changed rest written new : List ℕ) (number : ℕ) → AreMarked changed written
    → changed ≡ rest ++ number ∷ [] → new ≡ slice_set written number 0 → AreMarked rest new
marked_less changed rest written new number h e set n is =
    let now = ap (λ (ns : List ℕ). slice_index_or ns n 0) set in
    elim (cases_eq n number) [
      | inl same ↦
          let none = ap (λ (m : ℕ). slice_index_or (slice_set written number 0) m 0) same ∙ none_there written number in
          absurd (omega (arith, now, none, is))
      | inr other ↦
          let was = get_or-set_other written number n 0 0 other in
          elim (Contains-push_cases rest number n (subst (λ (cs : List ℕ). Contains cs n) e (h n (omega (arith, now, was, is))))) [
            | inl there ↦ there
            | inr same ↦ absurd (other (sym same))
          ]
    ]

-- a number with a bit is not 0
some_bit : (n i : ℕ) → bit_at n i ≡ 1 → 0 < n
some_bit zero i h = omega (arith, bit_at-zero i, h)
some_bit (suc n) i h = omega arith

-- a copy that is behind by no chunk has the items
pub copied_whole : {X : Type 0} (copy items : List X) (changed written : List ℕ) → AreCopied copy items written → AreMarked changed written
    → length changed ≡ 0 → copy ≡ items
copied_whole copy items changed written h marked none =
    same_items copy items (λ k. elim (h k) [
      | inl e ↦ e
      | inr c ↦ let there = marked (k / 64) (some_bit _ (k % 64) c) in absurd (omega (arith, there.1, none))
    ])

-- a new copy is behind by none
pub copied_anew : {X : Type 0} (items : List X) (written : List ℕ) → AreCopied items items written
copied_anew items written k = inl refl

not_in_none : (n k : ℕ) → ◌≡◌ {A = ℕ} (slice_index_or (replicate n 0) k 0) 0
not_in_none zero k = refl
not_in_none (suc n) zero = refl
not_in_none (suc n) (suc k) = not_in_none n k

-- at first no chunk is marked
pub none_marked : (n : ℕ) (written changed : List ℕ) → written ≡ replicate n 0 → AreMarked changed written
none_marked n written changed e k is =
    absurd (omega (arith, ap (λ (ns : List ℕ). slice_index_or ns k 0) e, not_in_none n k, is))

-- the item that is read at a place
get_read : {X : Type 0} (xs : List X) (i : ℕ) (x d : X) → slice_get xs i ≡ Some x → get_or xs i d ≡ x
get_read [] i x d e = absurd (cc)
get_read (y ∷ xs) zero x d e = cc
get_read (y ∷ xs) (suc i) x d e = get_read xs i x d e

-- the last item that was read is the one that is taken away
pub last_taken : (xs ys : List ℕ) (o : Option ℕ) (m n : ℕ) → m ≡ length xs → slice_get xs (length xs - 1) ≡ Some n
    → o ≡ Some (get_or xs (m - 1) n) → xs ≡ ys ++ option_to_list o → xs ≡ ys ++ n ∷ []
last_taken xs ys o m n long there is e =
    let read : get_or xs (m - 1) n ≡ n = ap (λ (k : ℕ). get_or xs (k - 1) n) long ∙ get_read xs (length xs - 1) n n there in
    e ∙ ap (λ p. ys ++ option_to_list p) (is ∙ ap Some read)

not_last : (x : ℕ) (xs : List ℕ) (k : ℕ) → k ≤ length xs → slice_get (x ∷ xs) k ≡ None → ⊥
not_last x xs zero l e = absurd (cc)
not_last x [] (suc k) l e = absurd (omega arith)
not_last x (y ∷ xs) (suc k) l e = not_last y xs k (omega arith) e

-- where there is no last item, there is none
pub last_none : (xs : List ℕ) → slice_get xs (length xs - 1) ≡ None → length xs ≡ 0
last_none [] e = refl
last_none (x ∷ xs) e = absurd (not_last x xs (length xs) (omega arith) (ap (slice_get (x ∷ xs)) (omega arith) ∙ e))

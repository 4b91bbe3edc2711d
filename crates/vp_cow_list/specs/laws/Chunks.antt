-- Laws of lists in chunks.
use Rattle.std.proofs.Common.{◌≡◌, ℕ, zero, suc, ◌+◌, ◌-◌, ◌*◌, ◌/◌, ◌%◌, ◌<◌, ◌≤◌, List, [], ◌∷◌, ◌++◌, length, get_or, map, take, drop, refl, ap, sym, subst, inl, inr, ◌∙◌, arith, length-append, append_assoc}
use Rattle.std.specs.Prelude.{slice_get, slice_set, slice_index_or, ◌⊎◌, Result, Ok, Err, OnOk, OnErr}
use Rattle.std.proofs.Math.Nat.{mod-eq_of_lt, eq-or-lt_of_le, mul-mod_left, lt_of_mul-lt-mul_right, add-mod_left, mul-le-mul_right}
use Rattle.std.proofs.Math.Seq.{map-set_same, take-add, take-append-add, drop-append-add, drop-append-le}
use Rattle.std.proofs.lemmas.Nat.{div-add-mod'}
use Rattle.std.proofs.lemmas.List.{length-take, drop-take, take-take, drop-drop, take_more, take_all, take-append-le, length-take-le, length-drop, take_rest, take-append-drop, map-append, length-map, get_or-map, map-set, append-nil}
use Rattle.vp_text.specs.Lists.{joined}
use Rattle.vp_cow_list.specs.Chunks.{with_items, AreChunks}

-- the item at a place in the first of two lists
pub get_front : {X : Type 0} (xs ys : List X) (k : ℕ) → k < length xs → slice_get (xs ++ ys) k ≡ slice_get xs k
get_front [] ys k h = absurd (omega arith)
get_front (x ∷ xs) ys zero h = refl
get_front (x ∷ xs) ys (suc k) h = get_front xs ys k (omega arith)

-- and in the second
pub get_back : {X : Type 0} (xs ys : List X) (k : ℕ) → slice_get (xs ++ ys) (length xs + k) ≡ slice_get ys k
get_back [] ys k = ap (slice_get ys) (omega arith)
get_back (x ∷ xs) ys k =
    let e : length (x ∷ xs) + k ≡ suc (length xs + k) = omega arith in
    ap (slice_get ((x ∷ xs) ++ ys)) e ∙ get_back xs ys k

-- a list in chunks is no longer than so many sizes
length_chunks : {X : Type 0} (size : ℕ) (cs : List (List X)) → AreChunks size cs → length (joined cs) ≤ length cs * size
length_chunks size [] h = omega arith
length_chunks size (c ∷ []) h = omega (arith, ap length (append-nil c), h.1)
length_chunks size (c ∷ d ∷ cs) h =
    let rest = length_chunks size (d ∷ cs) h.1 in
    let n : ℕ = length (joined (d ∷ cs)) in
    let m : ℕ = length (d ∷ cs) in
    let more : length (c ∷ d ∷ cs) ≡ suc m = omega arith in
    let by : length (c ∷ d ∷ cs) * size ≡ size + m * size = ap (λ (l : ℕ). l * size) more ∙ omega arith in
    omega (arith, length-append c (joined (d ∷ cs)), h.0, by)

-- others in place of items of the first of two lists
with_front : {X : Type 0} (xs zs ys : List X) (k : ℕ) → k + length ys ≤ length xs
    → with_items (xs ++ zs) k ys ≡ with_items xs k ys ++ zs
with_front xs zs ys k l =
    let rest = drop (k + length ys) xs in
    ap (λ front. front ++ (ys ++ drop (k + length ys) (xs ++ zs))) (take-append-le k xs zs (omega arith))
    ∙ ap (λ back. take k xs ++ (ys ++ back)) (drop-append-le (k + length ys) xs zs l)
    ∙ ap (λ back. take k xs ++ back) (sym (append_assoc ys rest zs))
    ∙ sym (append_assoc (take k xs) (ys ++ rest) zs)

-- and of the second
with_back : {X : Type 0} (xs zs ys : List X) (k n : ℕ) → n ≡ length xs + k
    → with_items (xs ++ zs) n ys ≡ xs ++ with_items zs k ys
with_back xs zs ys k n at =
    let following : n + length ys ≡ length xs + (k + length ys) = omega arith in
    ap (λ m. take m (xs ++ zs) ++ (ys ++ drop (n + length ys) (xs ++ zs))) at
    ∙ ap (λ front. front ++ (ys ++ drop (n + length ys) (xs ++ zs))) (take-append-add xs zs k)
    ∙ ap (λ m. (xs ++ take k zs) ++ (ys ++ drop m (xs ++ zs))) following
    ∙ ap (λ back. (xs ++ take k zs) ++ (ys ++ back)) (drop-append-add xs zs (k + length ys))
    ∙ append_assoc xs (take k zs) (ys ++ drop (k + length ys) zs)

-- others in the list are others in its chunk
with_at : {X : Type 0} (size q r k : ℕ) (cs : List (List X)) (e ys : List X) → k ≡ q * size + r → q < length cs
    → r + length ys ≤ length (slice_index_or cs q e) → AreChunks size cs
    → with_items (joined cs) k ys ≡ joined (slice_set cs q (with_items (slice_index_or cs q e) r ys))
with_at size q r k [] e ys at within l h = absurd (omega arith)
with_at size zero r k (c ∷ cs) e ys at within l h =
    ap (λ (n : ℕ). with_items (joined (c ∷ cs)) n ys) (omega arith) ∙ with_front c (joined cs) ys r l
with_at size (suc q) r k (c ∷ []) e ys at within l h = absurd (omega arith)
with_at size (suc q) r k (c ∷ d ∷ cs) e ys at within l h =
    with_back c (joined (d ∷ cs)) ys (q * size + r) k (omega (arith, h.0))
    ∙ ap (λ xs. c ++ xs) (with_at size q r (q * size + r) (d ∷ cs) e ys refl (omega arith) l h.1)

-- with others in place of its items a list is as long
pub length_with : {X : Type 0} (xs ys : List X) (k : ℕ) → k + length ys ≤ length xs → length (with_items xs k ys) ≡ length xs
length_with xs ys k l =
    omega (arith, length-append (take k xs) (ys ++ drop (k + length ys) xs), length-append ys (drop (k + length ys) xs), length-take-le k xs (omega arith), length-drop (k + length ys) xs)

-- chunks stay such where one is exchanged for one of the same length
pub still_chunks : {X : Type 0} (size q : ℕ) (cs : List (List X)) (e new : List X) → q < length cs
    → length new ≡ length (slice_index_or cs q e) → AreChunks size cs → AreChunks size (slice_set cs q new)
still_chunks size q [] e new within l h = absurd (omega arith)
still_chunks size zero (c ∷ []) e new within l h = (omega (arith, h.0), omega (arith, h.1))
still_chunks size (suc q) (c ∷ []) e new within l h = absurd (omega arith)
still_chunks size zero (c ∷ d ∷ cs) e new within l h = (l ∙ h.0, h.1)
still_chunks size (suc zero) (c ∷ d ∷ []) e new within l h = (h.0, still_chunks size zero (d ∷ []) e new (omega arith) l h.1)
still_chunks size (suc (suc q)) (c ∷ d ∷ []) e new within l h = absurd (omega arith)
still_chunks size (suc zero) (c ∷ d ∷ b ∷ cs) e new within l h = (h.0, still_chunks size zero (d ∷ b ∷ cs) e new (omega arith) l h.1)
still_chunks size (suc (suc q)) (c ∷ d ∷ b ∷ cs) e new within l h =
    (h.0, still_chunks size (suc q) (d ∷ b ∷ cs) e new (omega arith) l h.1)

-- others in a part are others in the list
pub with_map : {X P : Type 0} (f : P → List X) (bs : List P) (size k : ℕ) (old new : P) (ys : List X) → AreChunks size (map f bs)
    → k / size < length bs → old ≡ get_or bs (k / size) old → k % size + length ys ≤ length (f old)
    → f new ≡ with_items (f old) (k % size) ys → joined (map f (slice_set bs (k / size) new)) ≡ with_items (joined (map f bs)) k ys
with_map f bs size k old new ys h within is room by =
    let q : ℕ = k / size in
    let in_map : q < length (map f bs) = omega (arith, length-map bs f) in
    let e : slice_index_or (map f bs) q (f old) ≡ f old = get_or-map f bs q old (f old) within ∙ ap f (sym is) in
    ap joined (map-set f bs q new)
    ∙ ap (λ c. joined (slice_set (map f bs) q c)) (by ∙ ap (λ c. with_items c (k % size) ys) (sym e))
    ∙ sym (with_at size q (k % size) k (map f bs) (f old) ys (sym (div-add-mod' k size)) in_map (omega (arith, ap length e)) h)

-- the parts stay chunks where one is exchanged for one of the same length
pub set_still : {X P : Type 0} (f : P → List X) (bs : List P) (size q : ℕ) (old new : P) → AreChunks size (map f bs)
    → q < length bs → old ≡ get_or bs q old → length (f new) ≡ length (f old) → AreChunks size (map f (slice_set bs q new))
set_still f bs size q old new h within is by =
    let in_map : q < length (map f bs) = omega (arith, length-map bs f) in
    let e : slice_index_or (map f bs) q (f old) ≡ f old = get_or-map f bs q old (f old) within ∙ ap f (sym is) in
    subst (AreChunks size) (sym (map-set f bs q new))
    (still_chunks size q (map f bs) (f old) (f new) in_map (by ∙ sym (ap length e)) h)

-- the list stays where a part is exchanged for one of the same list
pub kept_map : {X P : Type 0} (f : P → List X) (bs : List P) (q : ℕ) (old new : P) → old ≡ get_or bs q old → f new ≡ f old
    → map f (slice_set bs q new) ≡ map f bs
kept_map f bs q old new is by = map-set_same f bs q new old (by ∙ ap f is)

-- a part that is another or its clone stands for the same list
pub same_part : {X P : Type 0} (items : P → List X) (IsClone : P → P → Type 0) (a b : P)
    → ((c d : P) → IsClone c d → items d ≡ items c) → (b ≡ a) ⊎ IsClone a b → items b ≡ items a
same_part items IsClone a b law (inl e) = ap items e
same_part items IsClone a b law (inr h) = law a b h

-- a list with others in place of its items, or the list itself, has its length
pub length_written : {X T E : Type 0} (r : Result T E) (xs new ys : List X) (k : ℕ) → k + length ys ≤ length xs
    → OnOk r (new ≡ with_items xs k ys) → OnErr r (new ≡ xs) → length new ≡ length xs
length_written (Ok a) xs new ys k l set unchanged = ap length set ∙ length_with xs ys k l
length_written (Err a) xs new ys k l set unchanged = ap length unchanged

-- what holds where an error is returned, at an error
pub known_err : {T E Q : Type 0} (r : Result T E) (y : E) → r ≡ Err y → OnErr r Q → Q
known_err (Ok a) y e h = absurd (cc)
known_err (Err a) y e h = h

-- a fact holds also where an error is returned
pub whenever_err : {T E Q : Type 0} (r : Result T E) → Q → OnErr r Q
whenever_err (Ok a) h = tt
whenever_err (Err a) h = h

-- a length of at most the size that is a multiple of it is the size
last_full : (size n : ℕ) → 0 < n → n ≤ size → n % size ≡ 0 → n ≡ size
last_full size n some most by =
    elim (eq-or-lt_of_le most) [ inl e ↦ e | inr less ↦ absurd (omega (arith, mod-eq_of_lt less)) ]

-- full chunks and one more of at most the size are chunks
full_more : {X : Type 0} (size : ℕ) (cs : List (List X)) (c : List X) → AreChunks size cs → length (joined cs) % size ≡ 0
    → 0 < length c → length c ≤ size → AreChunks size (cs ++ c ∷ [])
full_more size [] c h full some most = (some, most)
full_more size (b ∷ []) c h full some most =
    let same : length (b ++ []) ≡ length b = ap length (append-nil b) in
    (last_full size (length b) h.0 h.1 (ap (λ (n : ℕ). n % size) (sym same) ∙ full), (some, most))
full_more size (b ∷ d ∷ cs) c h full some most =
    let n : ℕ = length (joined (d ∷ cs)) in
    let long : length (joined (b ∷ d ∷ cs)) ≡ size + n = length-append b (joined (d ∷ cs)) ∙ ap (λ (m : ℕ). m + n) h.0 in
    let rest : n % size ≡ 0 = sym (add-mod_left size n) ∙ ap (λ (m : ℕ). m % size) (sym long) ∙ full in
    (h.0, full_more size (d ∷ cs) c h.1 rest some most)

-- full parts with one more are chunks
pub more_chunks : {X P : Type 0} (f : P → List X) (bs more : List P) (new : P) (list xs : List X) (size : ℕ)
    → AreChunks size (map f bs) → more ≡ bs ++ new ∷ [] → joined (map f bs) ≡ list → f new ≡ xs → length list % size ≡ 0
    → 0 < length xs → length xs ≤ size → AreChunks size (map f more)
more_chunks f bs more new list xs size h e whole last full some most =
    let is_full : length (joined (map f bs)) % size ≡ 0 = ap (λ items. length items % size) whole ∙ full in
    let chunks = full_more size (map f bs) (f new) h is_full (omega (arith, ap length last)) (omega (arith, ap length last)) in
    subst (AreChunks size) (sym (ap (map f) e ∙ map-append f bs (new ∷ []))) chunks

-- a whole piece of a list stands within it
pub piece_within : (size n long : ℕ) → n < long / size → n * size + size ≤ long
piece_within size n long l =
    let next : suc n ≤ long / size = omega (arith, l) in
    let most : suc n * size ≤ long / size * size = mul-le-mul_right size next in
    omega (arith, most, div-add-mod' long size)

-- pieces taken in full have a multiple of the size
pub taken_full : {X : Type 0} (size n : ℕ) (xs ys : List X) → ys ≡ take (n * size) xs → n * size ≤ length xs → length ys % size ≡ 0
taken_full size n xs ys e l =
    ap (λ m. m % size) (ap length e ∙ length-take-le (n * size) xs l) ∙ mul-mod_left n size

-- the length of a piece
pub piece_length : {X : Type 0} (xs : List X) (from to : ℕ) → to ≤ length xs → length (take (to - from) (drop from xs)) ≡ to - from
piece_length xs from to l = length-take-le (to - from) (drop from xs) (omega (arith, length-drop from xs))

-- one piece more is taken
pub cut_more : {X : Type 0} (size n : ℕ) (xs ys zs : List X) → ys ≡ take (n * size) xs
    → zs ≡ ys ++ take (n * size + size - n * size) (drop (n * size) xs) → zs ≡ take ((n + 1) * size) xs
cut_more size n xs ys zs e more =
    let small : n * size + size - n * size ≡ size = omega arith in
    let next : n * size + size ≡ (n + 1) * size = omega arith in
    more
    ∙ ap (λ piece. ys ++ piece) (ap (λ m. take m (drop (n * size) xs)) small)
    ∙ ap (λ front. front ++ take size (drop (n * size) xs)) e
    ∙ sym (take-add (n * size) size xs)
    ∙ ap (λ m. take m xs) next

-- all is taken with what follows the whole pieces
pub cut_all : {X : Type 0} (from : ℕ) (xs ys zs : List X) → ys ≡ take from xs
    → zs ≡ ys ++ take (length xs - from) (drop from xs) → zs ≡ xs
cut_all from xs ys zs e more =
    more ∙ ap (λ rest. ys ++ rest) (take_rest xs from) ∙ ap (λ front. front ++ drop from xs) e ∙ take-append-drop from xs

-- all the whole pieces are taken
pub taken_whole : {X : Type 0} (size n whole : ℕ) (xs ys : List X) → n ≤ whole → whole ≤ n → ys ≡ take (n * size) xs
    → ys ≡ take (whole * size) xs
taken_whole size n whole xs ys a b e = let same : n ≡ whole = omega arith in e ∙ ap (λ (m : ℕ). take (m * size) xs) same

-- a chunk is so many items of the list
chunk_at : {X : Type 0} (size q k : ℕ) (cs : List (List X)) (e : List X) → k ≡ q * size → q < length cs → AreChunks size cs
    → slice_index_or cs q e ≡ take size (drop k (joined cs))
chunk_at size q k [] e at l h = absurd (omega arith)
chunk_at size zero k (c ∷ []) e at l h =
    let first : k ≡ 0 = omega arith in
    sym (ap (λ (n : ℕ). take size (drop n (c ++ []))) first ∙ ap (take size) (append-nil c) ∙ take_all size c h.1)
chunk_at size (suc q) k (c ∷ []) e at l h = absurd (omega arith)
chunk_at size zero k (c ∷ d ∷ cs) e at l h =
    let first : k ≡ 0 = omega arith in
    sym (ap (λ (n : ℕ). take size (drop n (joined (c ∷ d ∷ cs)))) first
    ∙ take-append-le size c (joined (d ∷ cs)) (omega (arith, h.0)) ∙ take_all size c (omega (arith, h.0)))
chunk_at size (suc q) k (c ∷ d ∷ cs) e at l h =
    let next : k ≡ length c + q * size = omega (arith, h.0) in
    chunk_at size q (q * size) (d ∷ cs) e refl (omega arith) h.1
    ∙ sym (ap (λ (n : ℕ). take size (drop n (joined (c ∷ d ∷ cs)))) next
    ∙ ap (take size) (drop-append-add c (joined (d ∷ cs)) (q * size)))

-- a place in the list is in a part
pub part_within : {X P : Type 0} (f : P → List X) (bs : List P) (size number : ℕ) → AreChunks size (map f bs)
    → size * number < length (joined (map f bs)) → number < length bs
part_within f bs size number h l =
    let long : length (joined (map f bs)) ≤ length bs * size =
    subst (λ (n : ℕ). length (joined (map f bs)) ≤ n * size) (length-map bs f) (length_chunks size (map f bs) h) in
    let less : number * size < length bs * size = omega (arith, long, l) in
    lt_of_mul-lt-mul_right size less

-- a part is so many items of the list
pub part_from : {X P : Type 0} (f : P → List X) (bs : List P) (size number : ℕ) (p : P) → AreChunks size (map f bs)
    → number < length bs → p ≡ get_or bs number p → f p ≡ take size (drop (size * number) (joined (map f bs)))
part_from f bs size number p h l e =
    let from : size * number ≡ number * size = omega arith in
    ap f e ∙ sym (get_or-map f bs number p (f p) l)
    ∙ chunk_at size number (size * number) (map f bs) (f p) from (omega (arith, length-map bs f)) h

-- one part more is copied
pub copied_more : {X P : Type 0} (f : P → List X) (bs made more : List P) (i : ℕ) (p new : P)
    → map f made ≡ take i (map f bs) → i < length bs → p ≡ get_or bs i p → f new ≡ f p → more ≡ made ++ new ∷ []
    → map f more ≡ take (i + 1) (map f bs)
copied_more f bs made more i p new h l e same by =
    let at : get_or (map f bs) i (f p) ≡ f new = get_or-map f bs i p (f p) l ∙ ap f (sym e) ∙ sym same in
    ap (map f) by ∙ map-append f made (new ∷ [])
    ∙ ap (λ front. front ++ f new ∷ []) h
    ∙ ap (λ c. take i (map f bs) ++ c ∷ []) (sym at)
    ∙ sym (take_more (map f bs) i (f p) (omega (arith, length-map bs f)))

-- a piece of a piece of a list is a piece of the list
pub part_of_part : {X : Type 0} (size small skip left from place : ℕ) (xs : List X) → size ≡ skip + left → small ≤ left
    → from + skip ≡ place → take small (drop skip (take size (drop from xs))) ≡ take small (drop place xs)
part_of_part size small skip left from place xs e l at =
    ap (λ (n : ℕ). take small (drop skip (take n (drop from xs)))) e
    ∙ ap (take small) (drop-take skip left (drop from xs))
    ∙ take-take small left (drop skip (drop from xs)) l
    ∙ ap (take small) (drop-drop skip from xs)
    ∙ ap (λ (n : ℕ). take small (drop n xs)) at

-- a place in the list stands in its piece
pub place_in_part : {X : Type 0} (size skip from place : ℕ) (xs : List X) → skip < size → from + skip ≡ place
    → place < length xs → skip < length (take size (drop from xs))
place_in_part size skip from place xs s at l =
    omega (arith, length-take size (drop from xs), length-drop from xs)

-- where items stand in one part of the list, there is that part
pub room_within : {X P : Type 0} (f : P → List X) (bs : List P) (size k n : ℕ) → AreChunks size (map f bs) → 0 < n
    → k + n ≤ length (joined (map f bs)) → k / size < length bs
room_within f bs size k n h some l =
    part_within f bs size (k / size) h (omega (arith, div-add-mod' k size))

-- and it has room for them
pub room_in_part : {X P : Type 0} (f : P → List X) (bs : List P) (size k n : ℕ) (p : P) → AreChunks size (map f bs) → 0 < n
    → k % size + n ≤ size → k + n ≤ length (joined (map f bs)) → p ≡ get_or bs (k / size) p → k % size + n ≤ length (f p)
room_in_part f bs size k n p h some one l e =
    let from = size * (k / size) in
    let all = joined (map f bs) in
    let is = part_from f bs size (k / size) p h (room_within f bs size k n h some l) e in
    omega (arith, ap length is, length-take size (drop from all), length-drop from all, div-add-mod' k size)

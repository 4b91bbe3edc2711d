-- Parts that were noted one after the other: of each statement the first part that it is.
use Rattle.std.proofs.Common.{◌≡◌, ◌≢◌, ◌∙◌, ℕ, zero, suc, ◌+◌, ◌<◌, Bool, true, false, if◌then◌else◌, List, [], ◌∷◌, ◌++◌, length, map, replicate, get_or, Option, Some, None, refl, sym, ap, arith, inl, inr, add-one}
use Rattle.std.proofs.lemmas.Bool.{cases_eq, cases_lt, eq-eqb, ne_eqb}
use Rattle.std.proofs.lemmas.Grind.{flat_map-append}
use Rattle.std.proofs.lemmas.List.{append-nil, ext_get_or, get_or-map, get_or-replicate, get_or-set_other, get_or-set_same, get_or_append_left, get_or_push, length-map, length-replicate, length-set, length_push, map_push}
use Rattle.std.specs.List.{find, flat_map, fold}
use Rattle.std.specs.Option.{option_or}
use Rattle.vp_elab.specs.Tree.{below}
use Rattle.vp_statement.specs.declared.flow.Part.{Part}
use Rattle.vp_statement.specs.Noting.{noted, noted_where}
use Rattle.vp_statement.specs.Walking.{stands_at}

-- ---- the numbers below one

below_length : (n : ℕ) → length (below n) ≡ n
below_length zero = refl
below_length (suc n) = let one = length_push (below n) n in let long = below_length n in omega (arith, one, long)

below_at : (n i : ℕ) → i < n → get_or (below n) i 0 ≡ i
below_at zero i h = absurd (omega (arith, h))
below_at (suc n) i h =
    let long = below_length n in
    elim (cases_lt i n) [
      | inl within ↦ get_or_append_left (below n) (n ∷ []) 0 i (omega (arith, long, within)) ∙ below_at n i within
      | inr last ↦ (let same : i ≡ n = omega (arith, h, last) in ap (λ k. get_or (below n ++ n ∷ []) k 0) same ∙ get_or_push (below n) n 0 n long ∙ sym same)
    ]

pub below_more : (n : ℕ) → below (n + 1) ≡ below n ++ n ∷ []
below_more n = ap below (add-one n)

-- what one more number gives
pub parts_more : {X : Type 0} (f : ℕ → List X) (n : ℕ) → flat_map f (below (n + 1)) ≡ flat_map f (below n) ++ f n
parts_more f n = ap (flat_map f) (below_more n) ∙ flat_map-append f (below n) (n ∷ []) ∙ ap (λ xs. flat_map f (below n) ++ xs) (append-nil (f n))

pub map_below_more : {X : Type 0} (f : ℕ → X) (n : ℕ) → map f (below (n + 1)) ≡ map f (below n) ++ f n ∷ []
map_below_more f n = ap (map f) (below_more n) ∙ map_push f (below n) n

-- ---- what is noted

-- it keeps its places
length_where : (parts : List (Option Part)) (part : Part) (o : Option Part) → length (noted_where parts part o) ≡ length parts
length_where parts part None = length-set parts part.place (Some part)
length_where parts part (Some other) = refl

length_noted : (parts : List (Option Part)) (part : Part) → length (noted parts part) ≡ length parts
length_noted parts part = length_where parts part (get_or parts part.place None)

length_fold : (xs : List Part) (parts : List (Option Part)) → length (fold noted parts xs) ≡ length parts
length_fold [] parts = refl
length_fold (x ∷ xs) parts = length_fold xs (noted parts x) ∙ length_noted parts x

-- what stands at a place, and else a part, if it stands there
abbrev joined : (place : ℕ) → Option Part → Part → Option Part
joined place before part = option_or before (if stands_at place part then Some part else None)

before_none : (o : Option Part) → option_or o None ≡ o
before_none None = refl
before_none (Some x) = refl

at_other : (place : ℕ) (part : Part) (o : Option Part) → stands_at place part ≡ false → joined place o part ≡ o
at_other place part o e = ap (λ b. option_or o (if b then Some part else None)) e ∙ before_none o

at_same : (place : ℕ) (part : Part) → stands_at place part ≡ true → joined place None part ≡ Some part
at_same place part e = ap (λ b. if b then Some part else None) e

where_same : (parts : List (Option Part)) (part : Part) (o : Option Part) → o ≡ get_or parts part.place None → part.place < length parts → get_or (noted_where parts part o) part.place None ≡ joined part.place o part
where_same parts part None e h = get_or-set_same parts part.place (Some part) None h ∙ sym (at_same part.place part (eq-eqb part.place part.place refl))
where_same parts part (Some other) e h = sym e

where_other : (parts : List (Option Part)) (part : Part) (o : Option Part) (place : ℕ) → place ≢ part.place → get_or (noted_where parts part o) place None ≡ get_or parts place None
where_other parts part None place h = get_or-set_other parts part.place place (Some part) None h
where_other parts part (Some other) place h = refl

-- at each place what stood there, else the part
noted_at : (parts : List (Option Part)) (part : Part) (place : ℕ) → place < length parts → get_or (noted parts part) place None ≡ joined place (get_or parts place None) part
noted_at parts part place h = elim (cases_eq place part.place) [
  | inl same ↦
      ap (λ k. get_or (noted parts part) k None) same
      ∙ where_same parts part (get_or parts part.place None) refl (omega (arith, h, same))
      ∙ ap (λ k. joined k (get_or parts k None) part) (sym same)
  | inr other ↦
      where_other parts part (get_or parts part.place None) place other
      ∙ sym (at_other place part (get_or parts place None) (ne_eqb part.place place (λ e. other (sym e))))
]

joined_none : (b : Bool) (part : Part) (found : Option Part) → option_or (if b then Some part else None) found ≡ (if b then Some part else found)
joined_none true part found = refl
joined_none false part found = refl

joined_more : (place : ℕ) (o : Option Part) (part : Part) (parts : List Part) → option_or (joined place o part) (find (stands_at place) parts) ≡ option_or o (find (stands_at place) (part ∷ parts))
joined_more place (Some x) part parts = refl
joined_more place None part parts = joined_none (stands_at place part) part (find (stands_at place) parts)

folded_at : (xs : List Part) (parts : List (Option Part)) (place : ℕ) → place < length parts → get_or (fold noted parts xs) place None ≡ option_or (get_or parts place None) (find (stands_at place) xs)
folded_at [] parts place h = sym (before_none (get_or parts place None))
folded_at (x ∷ xs) parts place h =
    let long = length_noted parts x in
    folded_at xs (noted parts x) place (omega (arith, h, long))
    ∙ ap (λ o. option_or o (find (stands_at place) xs)) (noted_at parts x place h)
    ∙ joined_more place (get_or parts place None) x xs

-- of each statement the first part that it is
pub all_noted : (n : ℕ) (xs : List Part) → fold noted (replicate n None) xs ≡ map (λ place. find (stands_at place) xs) (below n)
all_noted n xs =
    let none : List (Option Part) = replicate n None in
    let many : length (fold noted none xs) ≡ n = length_fold xs none ∙ length-replicate n None in
    let found : List (Option Part) = map (λ place. find (stands_at place) xs) (below n) in
    let count : length found ≡ n = length-map (below n) (λ place. find (stands_at place) xs) ∙ below_length n in
    ext_get_or None (fold noted none xs) found (many ∙ sym count)
    (λ i h.
    let within : i < n = omega (arith, h, many) in
    let long = below_length n in
    let blank : length none ≡ n = length-replicate n None in
    folded_at xs none i (omega (arith, within, blank))
    ∙ ap (λ o. option_or o (find (stands_at i) xs)) (get_or-replicate n i None None within)
    ∙ ap (λ k. find (stands_at k) xs) (sym (below_at n i within))
    ∙ sym (get_or-map (λ place. find (stands_at place) xs) (below n) i 0 None (omega (arith, within, long))))

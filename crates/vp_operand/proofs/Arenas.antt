-- The sizes and signs of operands, one by one.
use Rattle.std.proofs.Common.{◌≡◌, ◌∙◌, ℕ, zero, suc, ◌+◌, ◌<◌, ◌≤◌, length-take, cond, Option, subst, leb, ◌&&◌, Bool, true, false, List, [], ◌∷◌, ◌++◌, length, map, take, drop, get_or, Some, None, refl, sym, ap, arith}
use Rattle.std.proofs.lemmas.List.{get_or-take, get_or_past, map-append, take_all}
use Rattle.std.proofs.lemmas.Bool.{and_parts}
use Rattle.std.proofs.lemmas.Option.{get_or_from_slice_get, slice_get_within}
use Rattle.std.specs.Prelude.{slice_get, IfSome, MatchOption}
use borrow.Author.Tests.{leb-true}
use Rattle.vp_bits.specs.Vector.{IsWidth}
use Rattle.std.proofs.lemmas.List.Folds.{list_all-append}
use Rattle.std.proofs.lemmas.List.Sums.{fold_more}
use Rattle.std.specs.List.{fold, list_all}
use Rattle.vp_operand.specs.declared.operand.Infix.TheVariants as pair
use Rattle.vp_operand.specs.declared.operand.Operand.{Operand}
use Rattle.vp_operand.specs.declared.operand.Operand.TheVariants as operand
use Rattle.vp_operand.specs.Terms.{Term, size}
use Rattle.vp_operand.proofs.Prefixes as prefix
use Rattle.vp_operand.proofs.Prefixes.{length-made, made_below, made_missing, made_split, made_there, made_whole, past_end, take_made}
use Rattle.vp_operand.specs.Arena.{blank, term_below, term_made, IsSized, fitting, is_width, operand_size, part_in, sizes_in, term_from, terms_of, with_term}

-- what is computed of a part, among what is computed of terms
part_map : {X : Type 0} (f : Term → X) (terms : List Term) (place : ℕ) → get_or (map f terms) place (f blank) ≡ f (part_in terms place)
part_map f [] place = refl
part_map f (t ∷ ts) zero = refl
part_map f (t ∷ ts) (suc place) = part_map f ts place

-- the size of an operand is that of its term
pub size_from : (terms : List Term) (o : Operand) → operand_size (map size terms) o ≡ size (term_from terms o)
size_from terms (operand.Object slot width) = refl
size_from terms (operand.Constant bits s) = refl
size_from terms (operand.BitSelect slot lowest index) = refl
size_from terms (operand.PartSelect slot place width) = refl
size_from terms (operand.Applied o a) = part_map size terms a
size_from terms (operand.Reduced o a) = refl
size_from terms (operand.Paired (pair.Combined o) a b) = rw (part_map size terms a, part_map size terms b) refl
size_from terms (operand.Paired (pair.Shifted o) a b) = part_map size terms a
size_from terms (operand.Paired (pair.Compared o) a b) = refl
size_from terms (operand.Paired (pair.Joined o) a b) = refl
size_from terms (operand.Conditional c a b) = rw (part_map size terms a, part_map size terms b) refl
size_from terms (operand.Concatenated a) = part_map size terms a
size_from terms (operand.Appended list a) = rw (part_map size terms list, part_map size terms a) refl
size_from terms (operand.Replicated count list) = rw (part_map size terms list) refl

-- one more operand, from the left
next_size : (terms : List Term) (o : Operand) → map size terms ++ operand_size (map size terms) o ∷ [] ≡ map size (with_term terms o)
next_size terms o =
    ap (λ n. map size terms ++ n ∷ []) (size_from terms o)
    ∙ sym (map-append size terms (term_from terms o ∷ []))

sizes_more : (os : List Operand) (i : ℕ) (o : Operand) → i < length os → o ≡ get_or os i o → map size (terms_of (take i os)) ++ operand_size (map size (terms_of (take i os))) o ∷ [] ≡ map size (terms_of (take (i + 1) os))
sizes_more os i o h at =
    next_size (terms_of (take i os)) o
    ∙ ap (λ x. map size (with_term (terms_of (take i os)) x)) at
    ∙ sym (ap (map size) (fold_more with_term [] os i o h))

-- ---- sizes that fit

pub not_and : (b : Bool) → (b && false) ≡ false
not_and true = refl
not_and false = refl

-- a size that does not fit stays among those of more operands
stays : (f : Term → ℕ) (terms : List Term) (os : List Operand) → list_all is_width (map f terms) ≡ false → list_all is_width (map f (fold with_term terms os)) ≡ false
stays f terms [] h = h
stays f terms (o ∷ os) h =
    stays f (with_term terms o) os
    (ap (list_all is_width) (map-append f terms (term_from terms o ∷ []))
    ∙ list_all-append is_width (map f terms) (f (term_from terms o) ∷ [])
    ∙ ap (λ b. b && list_all is_width (f (term_from terms o) ∷ [])) h)

-- the terms of all operands, from those of the first on
pub terms_split : (os : List Operand) (k : ℕ) → terms_of os ≡ fold with_term (terms_of (take k os)) (drop k os)
terms_split os k = made_split term_from os k

pub none_fits : (sizes : List ℕ) → list_all is_width sizes ≡ false → fitting sizes ≡ None
none_fits sizes h = rw h refl

pub all_fit : (sizes : List ℕ) → list_all is_width sizes ≡ true → fitting sizes ≡ Some sizes
all_fit sizes h = rw h refl

-- one more size, which does not fit
last_fails : (sizes : List ℕ) (n : ℕ) → is_width n ≡ false → list_all is_width (sizes ++ n ∷ []) ≡ false
last_fails sizes n h =
    list_all-append is_width sizes (n ∷ []) ∙ ap (λ b. list_all is_width sizes && (b && true)) h ∙ not_and (list_all is_width sizes)

-- and one that does
pub last_fits : (sizes : List ℕ) (n : ℕ) → list_all is_width sizes ≡ true → is_width n ≡ true → list_all is_width (sizes ++ n ∷ []) ≡ true
last_fits sizes n h k =
    list_all-append is_width sizes (n ∷ []) ∙ ap (λ b. list_all is_width sizes && (b && true)) k ∙ ap (λ b. b && true) h

pub not_fitted : (b : Bool) (n : ℕ) → None ≡ cond b (Some n) None → b ≡ false
not_fitted true n h = absurd cc
not_fitted false n h = refl

-- a size that fits
pub fitted : (b : Bool) (n m : ℕ) → Some m ≡ cond b (Some n) None → (b ≡ true) × (m ≡ n)
fitted true n m h = (refl, cc)
fitted false n m h = absurd cc

-- an operand whose size does not fit
pub refuses : (os : List Operand) (i : ℕ) (o : Operand) (sizes : List ℕ) (found : Option ℕ) → i < length os → o ≡ get_or os i o → sizes ≡ map size (terms_of (take i os)) → found ≡ cond (is_width (operand_size sizes o)) (Some (operand_size sizes o)) None → found ≡ None → fitting (sizes_in os) ≡ None
unfolding sizes_in
refuses os i o sizes found h at is tested none =
    let n = operand_size sizes o in
    let here = map size (terms_of (take (i + 1) os)) in
    let fails : is_width n ≡ false = not_fitted (is_width n) n (sym none ∙ tested) in
    let more : sizes ++ n ∷ [] ≡ here = ap (λ s. s ++ operand_size s o ∷ []) is ∙ sizes_more os i o h at in
    let bad : list_all is_width here ≡ false = ap (list_all is_width) (sym more) ∙ last_fails sizes n fails in
    none_fits (sizes_in os)
    (ap (λ ts. list_all is_width (map size ts)) (terms_split os (i + 1))
    ∙ stays size (terms_of (take (i + 1) os)) (drop (i + 1) os) bad)

-- the sizes of the first operands, which fit
pub record AreFirst (os : List Operand) (i : ℕ) (sizes : List ℕ) : Type 0 where
  pub are : sizes ≡ map size (terms_of (take i os))
  pub fit : list_all is_width sizes ≡ true

-- and those of one more operand, whose size fits
pub first_more : (os : List Operand) (i : ℕ) (o : Operand) (sizes : List ℕ) (found : Option ℕ) (n : ℕ) → i < length os → o ≡ get_or os i o → AreFirst os i sizes → found ≡ cond (is_width (operand_size sizes o)) (Some (operand_size sizes o)) None → found ≡ Some n → AreFirst os (i + 1) (sizes ++ n ∷ [])
first_more os i o sizes found n h at first tested there =
    let own = fitted (is_width (operand_size sizes o)) (operand_size sizes o) n (sym there ∙ tested) in
    record {
      are =
          ap (λ m. sizes ++ m ∷ []) own.1
          ∙ ap (λ s. s ++ operand_size s o ∷ []) first.are
          ∙ sizes_more os i o h at;
      fit = last_fits sizes n first.fit (ap is_width own.1 ∙ own.0);
    }

-- and those of all operands
pub first_all : (os : List Operand) (i : ℕ) (sizes : List ℕ) → length os ≤ i → AreFirst os i sizes → Some sizes ≡ fitting (sizes_in os)
unfolding sizes_in
first_all os i sizes h first =
    sym (all_fit sizes first.fit)
    ∙ ap fitting (first.are ∙ ap (λ l. map size (terms_of l)) (take_all i os h))

-- ---- terms by place

pub length-terms : (terms : List Term) (os : List Operand) → length (fold with_term terms os) ≡ length terms + length os
length-terms terms os = length-made term_from terms os

pub grows_at : (terms : List Term) (os : List Operand) (n : ℕ) (d : Term) → n < length terms → get_or (fold with_term terms os) n d ≡ get_or terms n d
grows_at terms os n d h = prefix.grows_at term_from terms os n d h

-- the terms of the first operands
pub take_terms : (os : List Operand) (k : ℕ) → k ≤ length os → take k (terms_of os) ≡ terms_of (take k os)
take_terms os k h = take_made term_from os k h

-- the term at a place is made of those before it
pub term_there : (os : List Operand) (k : ℕ) (o : Operand) → k < length os → o ≡ get_or os k o → part_in (terms_of os) k ≡ term_from (take k (terms_of os)) o
term_there os k o h at = made_there term_from os k o blank h at

-- a part past the end
pub part_past : (terms : List Term) (end place : ℕ) → end ≤ place → part_in (take end terms) place ≡ blank
part_past terms end place h = get_or_past (take end terms) place blank (omega (arith, length-take end terms))

pub part_before : (terms : List Term) (end place : ℕ) → place < end → part_in (take end terms) place ≡ part_in terms place
part_before terms end place h = get_or-take end terms place blank h

pub part_missing : (os : List Operand) (end place : ℕ) → length os ≤ place → part_in (take end (terms_of os)) place ≡ blank
part_missing os end place h = made_missing term_from os end place blank h

-- ---- parts by place

pub each_fits : (sizes : List ℕ) (k : ℕ) → list_all is_width sizes ≡ true → is_width (get_or sizes k 1) ≡ true
each_fits [] k h = refl
each_fits (n ∷ ns) zero h = (and_parts (is_width n) (list_all is_width ns) h).0
each_fits (n ∷ ns) (suc k) h = each_fits ns k (and_parts (is_width n) (list_all is_width ns) h).1

pub width_from : (n : ℕ) → is_width n ≡ true → IsWidth n
width_from n h = let p = and_parts (leb 1 n) (leb n 64) h in (leb-true 1 n p.0, leb-true n 64 p.1)

pub size_there : (os : List Operand) (sizes : List ℕ) (place : ℕ) → IsSized os sizes → get_or sizes place 1 ≡ size (part_in (terms_of os) place)
unfolding sizes_in
size_there os sizes place sized =
    ap (λ s. get_or s place 1) sized.are_sizes ∙ part_map size (terms_of os) place

pub size_before : (os : List Operand) (sizes : List ℕ) (end place : ℕ) → IsSized os sizes → place < end → get_or sizes place 1 ≡ size (term_below os end place)
size_before os sizes end place sized h =
    size_there os sizes place sized ∙ ap size (sym (part_before (terms_of os) end place h))

pub size_after : (os : List Operand) (end place : ℕ) → end ≤ place → 1 ≡ size (term_below os end place)
size_after os end place h = ap size (sym (part_past (terms_of os) end place h))

pub size_fits : (os : List Operand) (sizes : List ℕ) (place : ℕ) → IsSized os sizes → IsWidth (get_or sizes place 1)
size_fits os sizes place sized = width_from (get_or sizes place 1) (each_fits sizes place sized.fit)

pub found_term : (os : List Operand) (end place : ℕ) (found : Option Operand) → place < end → found ≡ slice_get os place → MatchOption found (term_below os end place ≡ blank) (λ o. term_below os end place ≡ term_made os place o)
found_term os end place None h at = part_missing os end place (past_end os place at)
found_term os end place (Some o) h at = made_below term_from os end place o blank h (sym at)

pub found_fits : (os : List Operand) (sizes : List ℕ) (place : ℕ) (found : Option Operand) → IsSized os sizes → IfSome found (λ o. Some o ≡ slice_get os place) → IfSome found (λ o. IsWidth (size (term_made os place o)))
found_fits os sizes place None sized at = tt
found_fits os sizes place (Some o) sized at =
    let is : part_in (terms_of os) place ≡ term_made os place o = term_there os place o (slice_get_within os place o (sym at)) (sym (get_or_from_slice_get os place o o (sym at))) in
    subst (λ (n : ℕ). IsWidth n) (size_there os sizes place sized ∙ ap size is) (size_fits os sizes place sized)

-- below the end of all operands stand all of them
pub term_whole : (os : List Operand) (place : ℕ) → term_below os (length os) place ≡ part_in (terms_of os) place
term_whole os place = made_whole term_from os place blank

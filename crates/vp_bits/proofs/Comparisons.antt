-- Laws of tests at some place of vectors, and of reductions.
use Rattle.std.proofs.Common.{◌≡◌, ◌≢◌, ℕ, zero, suc, ◌+◌, ◌*◌, ◌-◌, ◌/◌, ◌%◌, ◌^◌, ◌<◌, ◌||◌, ◌&&◌, nat_eq, not, if◌then◌else◌, Bool, true, false, List, [], ◌∷◌, length, replicate, bit_and, refl, ap, sym, ◌∙◌, arith}
use Rattle.std.specs.List.{list_any}
use Rattle.std.proofs.Math.Dec.{eqb-suc-zero}
use Rattle.std.specs.Int.Bits.{bit_or, bit_xor, or_zero_l}
use Rattle.std.specs.Int.Count.{ones as count_ones, ones_step}
use Rattle.std.proofs.lemmas.Nat.{le_or_l, ones_le_self, pow_pos}
use Rattle.vp_bits.specs.declared.bit.Bit.{Bit}
use Rattle.vp_bits.specs.declared.bit.Bit.TheVariants.{Zero, One, Unknown, HighImpedance}
use Rattle.vp_bits.specs.declared.bits.Bits.TheInside.{Inside}
use Rattle.vp_bits.specs.Vector.{bits_of, bit_from, same_bit, same_bits, IsStored}
use Rattle.vp_bits.specs.Comparing.{is_unknown, has_unknown, is_known_difference, at_some_place, has_known_difference, equal, is_difference_but_z, casez_matches}
use Rattle.vp_bits.specs.Arithmetic.{bit_of_digit, bits_of_number}
use Rattle.vp_bits.specs.Tables.{folded, and_bit, or_bit, xor_bit, and_of_all, or_of_all, xor_of_all}
use Rattle.vp_bits.specs.laws.Words.{half_below, length-bits_of}
use Rattle.vp_bits.proofs.Vectors.{bits_of_known_ones}
use Rattle.vp_bits.proofs.Formulas.{Formula, Aval, Bval, OtherAval, OtherBval, And, Or, Xor, value, value_at, value-below, value-half, value-first_at, at_each_pair, at_each_pair-at}

-- whether a number is not 0
abbrev pub is_above : ℕ → Bool
is_above zero = false
is_above (suc n) = true

pub above : (n : ℕ) → n ≢ 0 → is_above n ≡ true
above zero h = absurd (h refl)
above (suc n) h = refl

pub not_above : (n : ℕ) → n ≡ 0 → is_above n ≡ false
not_above n h = ap is_above h

above_by_parts : (n rest first : ℕ) → n ≡ 2 * rest + first → is_above n ≡ (is_above first || is_above rest)
above_by_parts zero zero zero h = refl
above_by_parts zero (suc rest) zero h = absurd (omega arith)
above_by_parts zero rest (suc first) h = absurd (omega arith)
above_by_parts (suc n) zero zero h = absurd (omega arith)
above_by_parts (suc n) (suc rest) zero h = refl
above_by_parts (suc n) rest (suc first) h = refl

-- a word is not 0 where its first bit or the rest is not
above-halves : (n : ℕ) → is_above n ≡ (is_above (n % 2) || is_above (n / 2))
above-halves n = above_by_parts n (n / 2) (n % 2) (omega arith)

-- whether two truths are one
abbrev pub same_truth : Bool → Bool → Bool
same_truth true b = b
same_truth false true = false
same_truth false false = true

pub same_truth-same : (a b : Bool) → same_truth a b ≡ true → a ≡ b
same_truth-same true true h = refl
same_truth-same true false h = cc
same_truth-same false true h = cc
same_truth-same false false h = refl

-- ---- a test at some place

-- whether a formula is not 0 just where a test passes, at each of the 16 pairs of bits
abbrev pub tells : Formula → (Bit → Bit → Bool) → Bool
tells f test = at_each_pair (λ bit other. same_truth (is_above (value_at f bit other)) (test bit other))

pub some_place : (f : Formula) (test : Bit → Bit → Bool) → tells f test ≡ true → (width a b c d : ℕ) → value f a b c d < 2 ^ width → at_some_place test (bits_of width a b) (bits_of width c d) ≡ is_above (value f a b c d)
some_place f test rows zero a b c d fits = let none : value f a b c d ≡ 0 = omega arith in rw none refl
some_place f test rows (suc width) a b c d fits =
    let rest : value f (a / 2) (b / 2) (c / 2) (d / 2) < 2 ^ width = rw (value-half f a b c d) at (half_below (value f a b c d) width fits) in
    let bit : Bit = bit_from (a % 2) (b % 2) in
    let other : Bit = bit_from (c % 2) (d % 2) in
    let here : is_above (value_at f bit other) ≡ test bit other =
    same_truth-same (is_above (value_at f bit other)) (test bit other) (at_each_pair-at (λ x y. same_truth (is_above (value_at f x y)) (test x y)) rows bit other) in
    rw (above-halves (value f a b c d), value-first_at f a b c d, value-half f a b c d, ← some_place f test rows width (a / 2) (b / 2) (c / 2) (d / 2) rest, here) refl

-- a test of one bit at some place of a vector
pub some_bit : (p : Bit → Bool) (bits others : List Bit) → length bits ≡ length others → list_any p bits ≡ at_some_place (λ bit other. p bit) bits others
some_bit p [] others same = refl
some_bit p (bit ∷ bits) [] same = absurd (omega arith)
some_bit p (bit ∷ bits) (other ∷ others) same =
    let rest : length bits ≡ length others = omega arith in
    ap (λ b. p bit || b) (some_bit p bits others rest)

-- a test that a formula of the vector's own words decides
some_bit_by : (f : Formula) (p : Bit → Bool) → tells f (λ bit other. p bit) ≡ true → (width a b c d : ℕ) → value f a b c d < 2 ^ width → list_any p (bits_of width a b) ≡ is_above (value f a b c d)
some_bit_by f p rows width a b c d fits =
    some_bit p (bits_of width a b) (bits_of width c d) (length-bits_of width a b ∙ sym (length-bits_of width c d))
    ∙ some_place f (λ bit other. p bit) rows width a b c d fits

pub has_unknown_words : (width a b : ℕ) → b < 2 ^ width → has_unknown (bits_of width a b) ≡ is_above b
has_unknown_words width a b fits = some_bit_by Bval is_unknown refl width a b a b fits

above-or : (n m : ℕ) → is_above (bit_or n m) ≡ (is_above n || is_above m)
above-or zero m = ap is_above (or_zero_l m)
above-or (suc n) m = let more : bit_or (suc n) m ≢ 0 = omega (arith, le_or_l (suc n) m) in above (bit_or (suc n) m) more

-- ---- equality

abbrev pub equal_answer : Bool → Bool → Bit
equal_answer differs unknown = (if differs then Zero else (if unknown then Unknown else One))

-- the places where two known bits differ
abbrev pub differences : Formula
differences = Xor (Xor Aval OtherAval) (And (Xor Aval OtherAval) (Or Bval OtherBval))

pub equal_words : (v o : Inside) (left right : List Bit) → bits_of v.width v.aval v.bval ≡ left → bits_of o.width o.aval o.bval ≡ right → IsStored v.width v.aval v.bval → IsStored o.width o.aval o.bval → o.width ≡ v.width → equal left right ≡ equal_answer (is_above (value differences v.aval v.bval o.aval o.bval)) (is_above (bit_or v.bval o.bval)) ∷ []
equal_words v o left right is_left is_right stored_left stored_right same =
    let a : o.aval < 2 ^ v.width = rw (← same) stored_right.aval_fits in
    let b : o.bval < 2 ^ v.width = rw (← same) stored_right.bval_fits in
    let fits : value differences v.aval v.bval o.aval o.bval < 2 ^ v.width = value-below differences v.width v.aval v.bval o.aval o.bval stored_left.aval_fits stored_left.bval_fits a b in
    let is_right_too : bits_of v.width o.aval o.bval ≡ right = ap (λ w. bits_of w o.aval o.bval) (sym same) ∙ is_right in
    let differs : has_known_difference left right ≡ is_above (value differences v.aval v.bval o.aval o.bval) =
    ap (λ bits. has_known_difference bits right) (sym is_left) ∙ ap (has_known_difference (bits_of v.width v.aval v.bval)) (sym is_right_too)
    ∙ some_place differences is_known_difference refl v.width v.aval v.bval o.aval o.bval fits in
    let left_unknown : has_unknown left ≡ is_above v.bval = ap has_unknown (sym is_left) ∙ has_unknown_words v.width v.aval v.bval stored_left.bval_fits in
    let right_unknown : has_unknown right ≡ is_above o.bval = ap has_unknown (sym is_right) ∙ has_unknown_words o.width o.aval o.bval stored_right.bval_fits in
    rw (differs, left_unknown, right_unknown, above-or v.bval o.bval) refl

-- ---- case equality

abbrev pub opposite : Bool → Bool
opposite true = false
opposite false = true

not_opposite : (a : Bool) → not a ≡ opposite a
not_opposite true = refl
not_opposite false = refl

opposite-or : (a b : Bool) → (opposite a && opposite b) ≡ opposite (a || b)
opposite-or true b = refl
opposite-or false b = refl

-- the places where two vectors have other bits
abbrev pub differing : Formula
differing = Or (Xor Aval OtherAval) (Xor Bval OtherBval)

same_bit_at : (bit other : Bit) → same_bit bit other ≡ opposite (is_above (value_at differing bit other))
same_bit_at bit other =
    same_truth-same (same_bit bit other) (opposite (is_above (value_at differing bit other)))
    (at_each_pair-at (λ x y. same_truth (same_bit x y) (opposite (is_above (value_at differing x y)))) refl bit other)

same_bits_words : (width a b c d : ℕ) → value differing a b c d < 2 ^ width → same_bits (bits_of width a b) (bits_of width c d) ≡ opposite (is_above (value differing a b c d))
same_bits_words zero a b c d fits = let none : value differing a b c d ≡ 0 = omega arith in rw none refl
same_bits_words (suc width) a b c d fits =
    let rest : value differing (a / 2) (b / 2) (c / 2) (d / 2) < 2 ^ width = rw (value-half differing a b c d) at (half_below (value differing a b c d) width fits) in
    rw (
      above-halves (value differing a b c d),
      value-first_at differing a b c d,
      value-half differing a b c d,
      same_bit_at (bit_from (a % 2) (b % 2)) (bit_from (c % 2) (d % 2)),
      same_bits_words width (a / 2) (b / 2) (c / 2) (d / 2) rest,
    )
    (opposite-or (is_above (value_at differing (bit_from (a % 2) (b % 2)) (bit_from (c % 2) (d % 2)))) (is_above (value differing (a / 2) (b / 2) (c / 2) (d / 2))))

is_none : (n : ℕ) → opposite (is_above n) ≡ nat_eq n 0
is_none zero = refl
is_none (suc n) = sym (eqb-suc-zero n)

pub same_bits_stored : (v o : Inside) (left right : List Bit) → bits_of v.width v.aval v.bval ≡ left → bits_of o.width o.aval o.bval ≡ right → IsStored v.width v.aval v.bval → IsStored o.width o.aval o.bval → o.width ≡ v.width → same_bits left right ≡ nat_eq (value differing v.aval v.bval o.aval o.bval) 0
same_bits_stored v o left right is_left is_right stored_left stored_right same =
    let a : o.aval < 2 ^ v.width = rw (← same) stored_right.aval_fits in
    let b : o.bval < 2 ^ v.width = rw (← same) stored_right.bval_fits in
    let is_right_too : bits_of v.width o.aval o.bval ≡ right = ap (λ w. bits_of w o.aval o.bval) (sym same) ∙ is_right in
    ap (λ bits. same_bits bits right) (sym is_left) ∙ ap (same_bits (bits_of v.width v.aval v.bval)) (sym is_right_too)
    ∙ same_bits_words v.width v.aval v.bval o.aval o.bval (value-below differing v.width v.aval v.bval o.aval o.bval stored_left.aval_fits stored_left.bval_fits a b)
    ∙ is_none (value differing v.aval v.bval o.aval o.bval)

-- ---- matches where z matches any bit

-- the places where two vectors have other bits, and neither has z
abbrev pub differing_but_z : Formula
differing_but_z = Xor differing (And differing (Or (Xor Bval (And Bval Aval)) (Xor OtherBval (And OtherBval OtherAval))))

pub casez_matches_stored : (v o : Inside) (left right : List Bit) → bits_of v.width v.aval v.bval ≡ left → bits_of o.width o.aval o.bval ≡ right → IsStored v.width v.aval v.bval → IsStored o.width o.aval o.bval → o.width ≡ v.width → casez_matches left right ≡ nat_eq (value differing_but_z v.aval v.bval o.aval o.bval) 0
casez_matches_stored v o left right is_left is_right stored_left stored_right same =
    let a : o.aval < 2 ^ v.width = rw (← same) stored_right.aval_fits in
    let b : o.bval < 2 ^ v.width = rw (← same) stored_right.bval_fits in
    let fits : value differing_but_z v.aval v.bval o.aval o.bval < 2 ^ v.width = value-below differing_but_z v.width v.aval v.bval o.aval o.bval stored_left.aval_fits stored_left.bval_fits a b in
    let is_right_too : bits_of v.width o.aval o.bval ≡ right = ap (λ w. bits_of w o.aval o.bval) (sym same) ∙ is_right in
    ap (λ bits. casez_matches bits right) (sym is_left) ∙ ap (casez_matches (bits_of v.width v.aval v.bval)) (sym is_right_too)
    ∙ ap not (some_place differing_but_z is_difference_but_z refl v.width v.aval v.bval o.aval o.bval fits)
    ∙ not_opposite (is_above (value differing_but_z v.aval v.bval o.aval o.bval))
    ∙ is_none (value differing_but_z v.aval v.bval o.aval o.bval)

-- ---- reductions

abbrev pub is_zero : Bit → Bool
is_zero Zero = true
is_zero One = false
is_zero Unknown = false
is_zero HighImpedance = false

abbrev is_one : Bit → Bool
is_one Zero = false
is_one One = true
is_one Unknown = false
is_one HighImpedance = false

abbrev pub and_answer : Bool → Bool → Bit
and_answer zero_there unknown = (if zero_there then Zero else (if unknown then Unknown else One))

abbrev pub or_answer : Bool → Bool → Bit
or_answer one_there unknown = (if one_there then One else (if unknown then Unknown else Zero))

and_step : (bit : Bit) (z u : Bool) → and_bit bit (and_answer z u) ≡ and_answer (is_zero bit || z) (is_unknown bit || u)
and_step Zero true u = refl
and_step Zero false true = refl
and_step Zero false false = refl
and_step One true u = refl
and_step One false true = refl
and_step One false false = refl
and_step Unknown true u = refl
and_step Unknown false true = refl
and_step Unknown false false = refl
and_step HighImpedance true u = refl
and_step HighImpedance false true = refl
and_step HighImpedance false false = refl

or_step : (bit : Bit) (o u : Bool) → or_bit bit (or_answer o u) ≡ or_answer (is_one bit || o) (is_unknown bit || u)
or_step Zero true u = refl
or_step Zero false true = refl
or_step Zero false false = refl
or_step One true u = refl
or_step One false true = refl
or_step One false false = refl
or_step Unknown true u = refl
or_step Unknown false true = refl
or_step Unknown false false = refl
or_step HighImpedance true u = refl
or_step HighImpedance false true = refl
or_step HighImpedance false false = refl

pub folded_and : (bits : List Bit) → folded and_bit One bits ≡ and_answer (list_any is_zero bits) (has_unknown bits)
folded_and [] = refl
folded_and (bit ∷ bits) = ap (and_bit bit) (folded_and bits) ∙ and_step bit (list_any is_zero bits) (has_unknown bits)

folded_or : (bits : List Bit) → folded or_bit Zero bits ≡ or_answer (list_any is_one bits) (has_unknown bits)
folded_or [] = refl
folded_or (bit ∷ bits) = ap (or_bit bit) (folded_or bits) ∙ or_step bit (list_any is_one bits) (has_unknown bits)

-- the places that are not 1, x or z, beside a word of ones
abbrev zero_places : Formula
zero_places = Xor (Or Aval Bval) OtherAval

zero_row : (bit : Bit) → is_above (value_at zero_places bit One) ≡ is_zero bit
zero_row Zero = refl
zero_row One = refl
zero_row Unknown = refl
zero_row HighImpedance = refl

zero_rows : (bits : List Bit) → at_some_place (λ bit other. is_above (value_at zero_places bit other)) bits (replicate (length bits) One) ≡ list_any is_zero bits
zero_rows [] = refl
zero_rows (bit ∷ bits) = rw (zero_row bit, zero_rows bits) refl

some_zero_words : (width a b : ℕ) → a < 2 ^ width → b < 2 ^ width → list_any is_zero (bits_of width a b) ≡ is_above (bit_xor (bit_or a b) (2 ^ width - 1))
some_zero_words width a b p q =
    let test : Bit → Bit → Bool = λ bit other. is_above (value_at zero_places bit other) in
    let all : 2 ^ width - 1 < 2 ^ width = omega (arith, pow_pos width) in
    let none : 0 < 2 ^ width = pow_pos width in
    sym (zero_rows (bits_of width a b))
    ∙ ap (λ n. at_some_place test (bits_of width a b) (replicate n One)) (length-bits_of width a b)
    ∙ ap (at_some_place test (bits_of width a b)) (sym (bits_of_known_ones width width (omega arith)))
    ∙ some_place zero_places test refl width a b (2 ^ width - 1) 0 (value-below zero_places width a b (2 ^ width - 1) 0 p q all none)

pub and_of_all_words : (v : Inside) (bits : List Bit) → bits_of v.width v.aval v.bval ≡ bits → IsStored v.width v.aval v.bval → and_of_all bits ≡ and_answer (is_above (bit_xor (bit_or v.aval v.bval) (2 ^ v.width - 1))) (is_above v.bval) ∷ []
and_of_all_words v bits is stored =
    ap and_of_all (sym is)
    ∙ rw (folded_and (bits_of v.width v.aval v.bval), some_zero_words v.width v.aval v.bval stored.aval_fits stored.bval_fits, has_unknown_words v.width v.aval v.bval stored.bval_fits) refl

-- the places that are 1
abbrev one_places : Formula
one_places = Xor Aval (And Aval Bval)

pub or_of_all_words : (v : Inside) (bits : List Bit) → bits_of v.width v.aval v.bval ≡ bits → IsStored v.width v.aval v.bval → or_of_all bits ≡ or_answer (is_above (bit_xor v.aval (bit_and v.aval v.bval))) (is_above v.bval) ∷ []
or_of_all_words v bits is stored =
    let fits : value one_places v.aval v.bval v.aval v.bval < 2 ^ v.width = value-below one_places v.width v.aval v.bval v.aval v.bval stored.aval_fits stored.bval_fits stored.aval_fits stored.bval_fits in
    ap or_of_all (sym is)
    ∙ rw (folded_or (bits_of v.width v.aval v.bval), some_bit_by one_places is_one refl v.width v.aval v.bval v.aval v.bval fits, has_unknown_words v.width v.aval v.bval stored.bval_fits) refl

xor_unknown : (bit : Bit) → xor_bit bit Unknown ≡ Unknown
xor_unknown Zero = refl
xor_unknown One = refl
xor_unknown Unknown = refl
xor_unknown HighImpedance = refl

unknown_xor : (bit other : Bit) → is_unknown bit ≡ true → xor_bit bit other ≡ Unknown
unknown_xor Zero other h = cc
unknown_xor One other h = cc
unknown_xor Unknown Zero h = refl
unknown_xor Unknown One h = refl
unknown_xor Unknown Unknown h = refl
unknown_xor Unknown HighImpedance h = refl
unknown_xor HighImpedance Zero h = refl
unknown_xor HighImpedance One h = refl
unknown_xor HighImpedance Unknown h = refl
unknown_xor HighImpedance HighImpedance h = refl

xor_step : (bit rest : Bit) (u : Bool) → (is_unknown bit || u) ≡ true → (u ≡ true → rest ≡ Unknown) → xor_bit bit rest ≡ Unknown
xor_step bit rest true h later = ap (xor_bit bit) (later refl) ∙ xor_unknown bit
xor_step Zero rest false h later = cc
xor_step One rest false h later = cc
xor_step Unknown rest false h later = unknown_xor Unknown rest refl
xor_step HighImpedance rest false h later = unknown_xor HighImpedance rest refl

folded_xor_unknown : (bits : List Bit) → has_unknown bits ≡ true → folded xor_bit Zero bits ≡ Unknown
folded_xor_unknown [] h = cc
folded_xor_unknown (bit ∷ bits) h = xor_step bit (folded xor_bit Zero bits) (has_unknown bits) h (folded_xor_unknown bits)

pub xor_of_all_unknown : (v : Inside) (bits : List Bit) → bits_of v.width v.aval v.bval ≡ bits → IsStored v.width v.aval v.bval → v.bval ≢ 0 → xor_of_all bits ≡ Unknown ∷ []
xor_of_all_unknown v bits is stored unknown =
    ap xor_of_all (sym is)
    ∙ ap (λ bit. bit ∷ []) (folded_xor_unknown (bits_of v.width v.aval v.bval) (has_unknown_words v.width v.aval v.bval stored.bval_fits ∙ above v.bval unknown))

parity_step : (n m : ℕ) → n < 2 → m < 2 → xor_bit (bit_from n 0) (bit_of_digit m) ≡ bit_of_digit ((n + m) % 2)
parity_step zero zero p q = refl
parity_step zero (suc zero) p q = refl
parity_step (suc zero) zero p q = refl
parity_step (suc zero) (suc zero) p q = refl
parity_step n (suc (suc m)) p q = absurd (omega arith)
parity_step (suc (suc n)) m p q = absurd (omega arith)

folded_xor_known : (width a : ℕ) → a < 2 ^ width → folded xor_bit Zero (bits_of width a 0) ≡ bit_of_digit (count_ones a % 2)
folded_xor_known zero a fits =
    let none : count_ones a % 2 ≡ 0 = omega (arith, ones_le_self a) in
    rw none refl
folded_xor_known (suc width) a fits =
    let sum : (a % 2 + count_ones (a / 2) % 2) % 2 ≡ count_ones a % 2 = omega (arith, ones_step a) in
    ap (xor_bit (bit_from (a % 2) 0)) (folded_xor_known width (a / 2) (half_below a width fits))
    ∙ parity_step (a % 2) (count_ones (a / 2) % 2) (omega arith) (omega arith)
    ∙ ap bit_of_digit sum

pub xor_of_all_known : (v : Inside) (bits : List Bit) → bits_of v.width v.aval v.bval ≡ bits → IsStored v.width v.aval v.bval → v.bval ≡ 0 → xor_of_all bits ≡ bits_of_number 1 (count_ones v.aval)
xor_of_all_known v bits is stored known =
    ap xor_of_all (sym is)
    ∙ ap (λ b. xor_of_all (bits_of v.width v.aval b)) known
    ∙ ap (λ bit. bit ∷ []) (folded_xor_known v.width v.aval stored.aval_fits)

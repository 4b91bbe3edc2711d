-- Laws of the bits of words that are shifted, joined, copied, cut out and written into.
use Rattle.std.proofs.Common.{◌≡◌, ℕ, zero, suc, ◌+◌, ◌-◌, ◌*◌, ◌/◌, ◌%◌, ◌^◌, ◌<◌, ◌≤◌, List, ◌∷◌, ◌++◌, length, take, drop, replicate, bit_and, refl, ap, sym, ◌∙◌, arith}
use Rattle.std.specs.Int.Bits.{bit_or, bit_xor, and_zero_r, xor_zero_r, or_zero_r, shifted_half, shifted_even, block_half, block_odd}
use Rattle.std.proofs.lemmas.List.{length-replicate, take-append-le, take-replicate, drop_all}
use Rattle.std.proofs.lemmas.Nat.{shr-shr, shr_below, shl_whole, or_shifted, pow-add, pow_pos, mul-add-lt, pow_below, shl_below}
use Rattle.std.proofs.Math.Pow.{pow_mono}
use Rattle.std.proofs.Math.Nat.{mul-le-mul_right, mul-div_cancel}
use Rattle.vp_bits.specs.declared.bit.Bit.{Bit}
use Rattle.vp_bits.specs.declared.bit.Bit.TheVariants.{Zero}
use Rattle.vp_bits.specs.declared.bits.Bits.TheInside.{Inside}
use Rattle.vp_bits.specs.Vector.{bits_of, bit_from, resized, IsStored}
use Rattle.vp_bits.specs.laws.Words.{length-bits_of, half_below}
use Rattle.vp_bits.specs.Shaping.{shl_by, shr_by, repeated}
use Rattle.vp_bits.proofs.Vectors.{bits_of-low, bits_of-resized, bits_of_zeros, first_of_ones, rest_of_ones}
use Rattle.vp_bits.proofs.Numbers.{mod_by_parts}
use Rattle.vp_bits.proofs.Formulas.{Formula, Aval, Bval, OtherAval, And, Or, Xor, value-below, value-half, value-first}

-- ---- parts of the bits

pub take_bits_of : (width whole aval bval : ℕ) → width ≤ whole → take width (bits_of whole aval bval) ≡ bits_of width aval bval
take_bits_of zero whole aval bval h = refl
take_bits_of (suc width) zero aval bval h = absurd (omega arith)
take_bits_of (suc width) (suc whole) aval bval h =
    let rest : width ≤ whole = omega arith in
    ap (λ bits. bit_from (aval % 2) (bval % 2) ∷ bits) (take_bits_of width whole (aval / 2) (bval / 2) rest)

over_one : (n : ℕ) → n / 2 ^ 0 ≡ n
over_one n = omega arith

times_one : (n : ℕ) → n * 2 ^ 0 ≡ n
times_one n = omega arith

halved_more : (n places : ℕ) → n / 2 / 2 ^ places ≡ n / 2 ^ suc places
halved_more n places =
    let next : 1 + places ≡ suc places = omega arith in
    shr-shr n 1 places ∙ ap (λ k. n / 2 ^ k) next

pub drop_bits_of : (places width aval bval : ℕ) → drop places (bits_of width aval bval) ≡ bits_of (width - places) (aval / 2 ^ places) (bval / 2 ^ places)
drop_bits_of zero width aval bval =
    let all : width - 0 ≡ width = omega arith in
    rw (all, over_one aval, over_one bval) refl
drop_bits_of (suc places) zero aval bval =
    let none : 0 - suc places ≡ 0 = omega arith in
    rw none refl
drop_bits_of (suc places) (suc width) aval bval =
    let rest : suc width - suc places ≡ width - places = omega arith in
    rw (rest, ← halved_more aval places, ← halved_more bval places) (drop_bits_of places width (aval / 2) (bval / 2))

pub select_bits_of : (low width whole aval bval : ℕ) → low + width ≤ whole → bits_of width (aval / 2 ^ low % 2 ^ width) (bval / 2 ^ low % 2 ^ width) ≡ take width (drop low (bits_of whole aval bval))
select_bits_of low width whole aval bval inside =
    let rest : width ≤ whole - low = omega arith in
    bits_of-low width (aval / 2 ^ low) (bval / 2 ^ low)
    ∙ sym (take_bits_of width (whole - low) (aval / 2 ^ low) (bval / 2 ^ low) rest)
    ∙ ap (take width) (sym (drop_bits_of low whole aval bval))

-- ---- shifts

shl_bits_of : (places width whole aval bval : ℕ) → width ≤ whole → bits_of width (aval * 2 ^ places) (bval * 2 ^ places) ≡ take width (replicate places Zero ++ bits_of whole aval bval)
shl_bits_of zero width whole aval bval h =
    rw (times_one aval, times_one bval) (sym (take_bits_of width whole aval bval h))
shl_bits_of (suc places) zero whole aval bval h = refl
shl_bits_of (suc places) (suc width) whole aval bval h =
    let rest : width ≤ whole = omega arith in
    rw (shifted_even aval places, shifted_even bval places, shifted_half aval places, shifted_half bval places)
    (ap (λ bits. Zero ∷ bits) (shl_bits_of places width whole aval bval rest))

-- the words that a shift in 64 bits leaves have the lowest bits of those of the whole shift
pub bits_of-wrapped : (width aval bval : ℕ) → width ≤ 64 → bits_of width (aval % 2 ^ 64 % 2 ^ width) (bval % 2 ^ 64 % 2 ^ width) ≡ bits_of width aval bval
bits_of-wrapped width aval bval within =
    let rest : (64 - width) + width ≡ 64 = omega arith in
    let less = λ (n : ℕ). ap (λ k. n % 2 ^ k % 2 ^ width) (sym rest) ∙ mod_by_parts width (64 - width) n in
    ap (λ a. bits_of width a (bval % 2 ^ 64 % 2 ^ width)) (less aval)
    ∙ ap (bits_of width (aval % 2 ^ width)) (less bval)
    ∙ bits_of-low width aval bval

pub shl_words : (places width aval bval : ℕ) → width ≤ 64 → bits_of width (aval * 2 ^ places % 2 ^ 64 % 2 ^ width) (bval * 2 ^ places % 2 ^ 64 % 2 ^ width) ≡ shl_by places (bits_of width aval bval)
shl_words places width aval bval within =
    let all : width ≤ width = omega arith in
    bits_of-wrapped width (aval * 2 ^ places) (bval * 2 ^ places) within ∙ shl_bits_of places width width aval bval all
    ∙ ap (λ n. take n (replicate places Zero ++ bits_of width aval bval)) (sym (length-bits_of width aval bval))

pub shl_over : (places : ℕ) (bits : List Bit) → length bits ≤ places → replicate (length bits) Zero ≡ shl_by places bits
shl_over places bits over =
    let within : length bits ≤ length (replicate places Zero) = rw (length-replicate places Zero) over in
    sym (take-append-le (length bits) (replicate places Zero) bits within ∙ take-replicate (length bits) places Zero over)

pub shr_words : (places width aval bval : ℕ) → places < width → aval < 2 ^ width → bval < 2 ^ width → bits_of width (aval / 2 ^ places) (bval / 2 ^ places) ≡ shr_by places (bits_of width aval bval)
shr_words places width aval bval within p q =
    let parts : (width - places) + places ≡ width = omega arith in
    let a : aval < 2 ^ ((width - places) + places) = rw parts p in
    let b : bval < 2 ^ ((width - places) + places) = rw parts q in
    bits_of-resized width (width - places) (aval / 2 ^ places) (bval / 2 ^ places) (shr_below aval (width - places) places a) (shr_below bval (width - places) places b)
    ∙ ap (resized width) (sym (drop_bits_of places width aval bval))
    ∙ ap (λ n. resized n (drop places (bits_of width aval bval))) (sym (length-bits_of width aval bval))

pub shr_over : (places : ℕ) (bits : List Bit) → length bits ≤ places → replicate (length bits) Zero ≡ shr_by places bits
shr_over places bits over =
    let none : 0 < 2 ^ 0 = pow_pos 0 in
    sym (bits_of_zeros (length bits)) ∙ bits_of-resized (length bits) 0 0 0 none none
    ∙ ap (resized (length bits)) (sym (drop_all places bits over))

-- ---- joined words

pub bits_of_joined : (low high c d a b : ℕ) → c < 2 ^ low → d < 2 ^ low → bits_of (high + low) (a * 2 ^ low + c) (b * 2 ^ low + d) ≡ bits_of low c d ++ bits_of high a b
bits_of_joined zero high c d a b p q =
    let no_c : a * 2 ^ 0 + c ≡ a = omega arith in
    let no_d : b * 2 ^ 0 + d ≡ b = omega arith in
    let all : high + 0 ≡ high = omega arith in
    rw (no_c, no_d, all) refl
bits_of_joined (suc low) high c d a b p q =
    let more : high + suc low ≡ suc (high + low) = omega arith in
    rw (more, block_odd a low c, block_odd b low d, block_half a low c, block_half b low d)
    (ap (λ bits. bit_from (c % 2) (d % 2) ∷ bits) (bits_of_joined low high (c / 2) (d / 2) a b (half_below c low p) (half_below d low q)))

-- two words joined by a shift in 64 bits
pub joined_word : (high low a c : ℕ) → high + low ≤ 64 → a < 2 ^ high → c < 2 ^ low → bit_or (a * 2 ^ low % 2 ^ 64) c ≡ a * 2 ^ low + c
joined_word high low a c within p q = rw (shl_whole a high low 64 p within) (or_shifted a low c q)

pub joined_below : (high low a c : ℕ) → a < 2 ^ high → c < 2 ^ low → a * 2 ^ low + c < 2 ^ (high + low)
joined_below high low a c p q = omega (arith, mul-add-lt a (2 ^ low) c (2 ^ high) p q, pow-add 2 high low)

-- what is joined of two stored vectors
pub joined_stored : (v o : Inside) → IsStored v.width v.aval v.bval → IsStored o.width o.aval o.bval → v.width + o.width ≤ 64 → IsStored (v.width + o.width) (bit_or (v.aval * 2 ^ o.width % 2 ^ 64) o.aval) (bit_or (v.bval * 2 ^ o.width % 2 ^ 64) o.bval)
joined_stored v o high low within =
    record {
      has_width = (omega arith, within);
      aval_fits = rw (joined_word v.width o.width v.aval o.aval within high.aval_fits low.aval_fits) (joined_below v.width o.width v.aval o.aval high.aval_fits low.aval_fits);
      bval_fits = rw (joined_word v.width o.width v.bval o.bval within high.bval_fits low.bval_fits) (joined_below v.width o.width v.bval o.bval high.bval_fits low.bval_fits);
    }

pub joined_words : (v o : Inside) → IsStored v.width v.aval v.bval → IsStored o.width o.aval o.bval → v.width + o.width ≤ 64 → bits_of (v.width + o.width) (bit_or (v.aval * 2 ^ o.width % 2 ^ 64) o.aval) (bit_or (v.bval * 2 ^ o.width % 2 ^ 64) o.bval) ≡ bits_of o.width o.aval o.bval ++ bits_of v.width v.aval v.bval
joined_words v o high low within =
    rw (joined_word v.width o.width v.aval o.aval within high.aval_fits low.aval_fits, joined_word v.width o.width v.bval o.bval within high.bval_fits low.bval_fits)
    (bits_of_joined o.width v.width o.aval o.bval v.aval v.bval low.aval_fits low.bval_fits)

-- ---- copied words

-- a one in the lowest place of each of so many copies
abbrev copies : ℕ → ℕ → ℕ
copies width zero = 0
copies width (suc count) = copies width count * 2 ^ width + 1

one_more : (width count : ℕ) → width * suc count ≡ width * count + width
one_more width count = omega arith

next_copy : (c m r : ℕ) → c * m ≡ r → (c * (m + 1) + 1) * m ≡ r * (m + 1) + m
next_copy c m r e = omega (arith, ap (λ x. x * m) e, e)

copies_times : (width count : ℕ) → copies width count * (2 ^ width - 1) ≡ 2 ^ (width * count) - 1
copies_times width zero =
    let none : width * 0 ≡ 0 = omega arith in
    rw none (omega arith)
copies_times width (suc count) =
    let above : 0 < 2 ^ width = pow_pos width in
    let above_too : 0 < 2 ^ (width * count) = pow_pos (width * count) in
    let more : (2 ^ width - 1) + 1 ≡ 2 ^ width = omega arith in
    let step : (copies width count * 2 ^ width + 1) * (2 ^ width - 1) ≡ (2 ^ (width * count) - 1) * 2 ^ width + (2 ^ width - 1) =
    rw more at (next_copy (copies width count) (2 ^ width - 1) (2 ^ (width * count) - 1) (copies_times width count)) in
    let power : 2 ^ (width * suc count) ≡ 2 ^ (width * count) * 2 ^ width = ap (λ k. 2 ^ k) (one_more width count) ∙ pow-add 2 (width * count) width in
    let whole : 2 ^ (width * count) ≡ (2 ^ (width * count) - 1) + 1 = omega arith in
    let times : 2 ^ (width * count) * 2 ^ width ≡ ((2 ^ (width * count) - 1) + 1) * 2 ^ width = ap (λ n. n * 2 ^ width) whole in
    step ∙ omega arith

-- the words of ones of the whole and of one copy give the ones of the copies
pub copies_by_ones : (width count : ℕ) → 0 < width → (2 ^ (width * count) - 1) / (2 ^ width - 1) ≡ copies width count
copies_by_ones width count above =
    let two : 0 < 2 ^ width - 1 = omega (arith, pow_below 0 width above) in
    ap (λ n. n / (2 ^ width - 1)) (sym (copies_times width count)) ∙ mul-div_cancel (copies width count) two

copied_more : (a c p : ℕ) → a * (c * p + 1) ≡ a * c * p + a
copied_more a c p = omega arith

copied_bits : (width count a b : ℕ) → a < 2 ^ width → b < 2 ^ width → bits_of (width * count) (a * copies width count) (b * copies width count) ≡ repeated count (bits_of width a b)
copied_bits width zero a b p q =
    let none : width * 0 ≡ 0 = omega arith in
    rw none refl
copied_bits width (suc count) a b p q =
    rw (one_more width count, copied_more a (copies width count) (2 ^ width), copied_more b (copies width count) (2 ^ width))
    (bits_of_joined width (width * count) a b (a * copies width count) (b * copies width count) p q
    ∙ ap (λ bits. bits_of width a b ++ bits) (copied_bits width count a b p q))

pub copied_words : (width count a b : ℕ) → 0 < width → a < 2 ^ width → b < 2 ^ width → bits_of (width * count) (a * ((2 ^ (width * count) - 1) / (2 ^ width - 1))) (b * ((2 ^ (width * count) - 1) / (2 ^ width - 1))) ≡ repeated count (bits_of width a b)
copied_words width count a b above p q = rw (copies_by_ones width count above) (copied_bits width count a b p q)

pub copied_below : (width count a : ℕ) → 0 < width → a < 2 ^ width → a * ((2 ^ (width * count) - 1) / (2 ^ width - 1)) < 2 ^ (width * count)
copied_below width count a above p =
    let most : a ≤ 2 ^ width - 1 = omega arith in
    let whole : 0 < 2 ^ (width * count) = pow_pos (width * count) in
    rw (copies_by_ones width count above)
    (omega (arith, mul-le-mul_right (copies width count) most, copies_times width count))

-- ---- words written into

abbrev insertion : Formula
insertion = Or (Xor Aval (And Aval Bval)) OtherAval

-- a word with another in place of some of its bits
abbrev pub inserted : ℕ → ℕ → ℕ → ℕ
inserted word places part = bit_or (bit_xor word (bit_and word places)) part

inserted-half : (word places part : ℕ) → inserted word places part / 2 ≡ inserted (word / 2) (places / 2) (part / 2)
inserted-half word places part = value-half insertion word places part 0

inserted-first : (word places part : ℕ) → inserted word places part % 2 ≡ inserted (word % 2) (places % 2) (part % 2)
inserted-first word places part = value-first insertion word places part 0

pub inserted_none : (word : ℕ) → inserted word 0 0 ≡ word
inserted_none word = rw (and_zero_r word, xor_zero_r word, or_zero_r word) refl

inserted_one : (n m : ℕ) → n < 2 → m < 2 → inserted n 1 m ≡ m
inserted_one zero zero p q = refl
inserted_one zero (suc zero) p q = refl
inserted_one (suc zero) zero p q = refl
inserted_one (suc zero) (suc zero) p q = refl
inserted_one n (suc (suc m)) p q = absurd (omega arith)
inserted_one (suc (suc n)) m p q = absurd (omega arith)

inserted_low : (part width a b c d : ℕ) → c < 2 ^ part → d < 2 ^ part → part ≤ width → bits_of width (inserted a (2 ^ part - 1) c) (inserted b (2 ^ part - 1) d) ≡ bits_of part c d ++ drop part (bits_of width a b)
inserted_low zero width a b c d p q inside =
    let no_c : c ≡ 0 = omega arith in
    let no_d : d ≡ 0 = omega arith in
    rw (no_c, no_d, inserted_none a, inserted_none b) refl
inserted_low (suc part) zero a b c d p q inside = absurd (omega arith)
inserted_low (suc part) (suc width) a b c d p q inside =
    let rest : part ≤ width = omega arith in
    rw (
      inserted-first a (2 ^ suc part - 1) c,
      inserted-first b (2 ^ suc part - 1) d,
      inserted-half a (2 ^ suc part - 1) c,
      inserted-half b (2 ^ suc part - 1) d,
      first_of_ones part,
      rest_of_ones part,
      inserted_one (a % 2) (c % 2) (omega arith) (omega arith),
      inserted_one (b % 2) (d % 2) (omega arith) (omega arith),
    )
    (ap (λ bits. bit_from (c % 2) (d % 2) ∷ bits) (inserted_low part width (a / 2) (b / 2) (c / 2) (d / 2) (half_below c part p) (half_below d part q) rest))

inserted_bits : (low part width a b c d : ℕ) → c < 2 ^ part → d < 2 ^ part → low + part ≤ width → bits_of width (inserted a ((2 ^ part - 1) * 2 ^ low) (c * 2 ^ low)) (inserted b ((2 ^ part - 1) * 2 ^ low) (d * 2 ^ low)) ≡ take low (bits_of width a b) ++ bits_of part c d ++ drop (low + part) (bits_of width a b)
inserted_bits zero part width a b c d p q inside =
    let end : 0 + part ≡ part = omega arith in
    let within : part ≤ width = omega arith in
    rw (times_one (2 ^ part - 1), times_one c, times_one d, end) (inserted_low part width a b c d p q within)
inserted_bits (suc low) part zero a b c d p q inside = absurd (omega arith)
inserted_bits (suc low) part (suc width) a b c d p q inside =
    let rest : low + part ≤ width = omega arith in
    let end : suc low + part ≡ suc (low + part) = omega arith in
    rw (
      inserted-first a ((2 ^ part - 1) * 2 ^ suc low) (c * 2 ^ suc low),
      inserted-first b ((2 ^ part - 1) * 2 ^ suc low) (d * 2 ^ suc low),
      inserted-half a ((2 ^ part - 1) * 2 ^ suc low) (c * 2 ^ suc low),
      inserted-half b ((2 ^ part - 1) * 2 ^ suc low) (d * 2 ^ suc low),
      shifted_even (2 ^ part - 1) low,
      shifted_even c low,
      shifted_even d low,
      shifted_half (2 ^ part - 1) low,
      shifted_half c low,
      shifted_half d low,
      inserted_none (a % 2),
      inserted_none (b % 2),
      end,
    )
    (ap (λ bits. bit_from (a % 2) (b % 2) ∷ bits) (inserted_bits low part width (a / 2) (b / 2) c d p q rest))

ones_below : (width : ℕ) → 2 ^ width - 1 < 2 ^ width
ones_below width = omega (arith, pow_pos width)

-- the words of a vector with a stored part written into
pub inserted_words : (low : ℕ) (v o : Inside) → IsStored v.width v.aval v.bval → IsStored o.width o.aval o.bval → low + o.width ≤ v.width → bits_of v.width (inserted v.aval ((2 ^ o.width - 1) * 2 ^ low % 2 ^ 64) (o.aval * 2 ^ low % 2 ^ 64)) (inserted v.bval ((2 ^ o.width - 1) * 2 ^ low % 2 ^ 64) (o.bval * 2 ^ low % 2 ^ 64)) ≡ take low (bits_of v.width v.aval v.bval) ++ bits_of o.width o.aval o.bval ++ drop (low + o.width) (bits_of v.width v.aval v.bval)
inserted_words low v o whole part inside =
    let room : o.width + low ≤ 64 = omega (arith, whole.has_width.1) in
    rw (
      shl_whole (2 ^ o.width - 1) o.width low 64 (ones_below o.width) room,
      shl_whole o.aval o.width low 64 part.aval_fits room,
      shl_whole o.bval o.width low 64 part.bval_fits room,
    )
    (inserted_bits low o.width v.width v.aval v.bval o.aval o.bval part.aval_fits part.bval_fits inside)

inserted_below : (width word places part : ℕ) → part < 2 ^ width → places < 2 ^ width → word < 2 ^ width → inserted word places part < 2 ^ width
inserted_below width word places part p q r =
    let none : 0 < 2 ^ width = pow_pos width in
    value-below insertion width word places part 0 r q p none

-- a shifted word of a part stays below the whole's width
moved_below : (low part width word : ℕ) → word < 2 ^ part → low + part ≤ width → width ≤ 64 → word * 2 ^ low % 2 ^ 64 < 2 ^ width
moved_below low part width word p inside within =
    let room : part + low ≤ 64 = omega arith in
    let order : part + low ≤ width = omega arith in
    let more : 2 ^ (part + low) ≤ 2 ^ width = pow_mono order in
    rw (shl_whole word part low 64 p room) (omega (arith, shl_below word part low p, more))

pub inserted_stored : (low : ℕ) (v o : Inside) → IsStored v.width v.aval v.bval → IsStored o.width o.aval o.bval → low + o.width ≤ v.width → IsStored v.width (inserted v.aval ((2 ^ o.width - 1) * 2 ^ low % 2 ^ 64) (o.aval * 2 ^ low % 2 ^ 64)) (inserted v.bval ((2 ^ o.width - 1) * 2 ^ low % 2 ^ 64) (o.bval * 2 ^ low % 2 ^ 64))
inserted_stored low v o whole part inside =
    let places : (2 ^ o.width - 1) * 2 ^ low % 2 ^ 64 < 2 ^ v.width = moved_below low o.width v.width (2 ^ o.width - 1) (ones_below o.width) inside whole.has_width.1 in
    record {
      has_width = whole.has_width;
      aval_fits = inserted_below v.width v.aval ((2 ^ o.width - 1) * 2 ^ low % 2 ^ 64) (o.aval * 2 ^ low % 2 ^ 64) (moved_below low o.width v.width o.aval part.aval_fits inside whole.has_width.1) places whole.aval_fits;
      bval_fits = inserted_below v.width v.bval ((2 ^ o.width - 1) * 2 ^ low % 2 ^ 64) (o.bval * 2 ^ low % 2 ^ 64) (moved_below low o.width v.width o.bval part.bval_fits inside whole.has_width.1) places whole.bval_fits;
    }

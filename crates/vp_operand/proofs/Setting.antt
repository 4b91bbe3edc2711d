-- What is set of a vector: all of it, or the bit at an index.
use Rattle.std.proofs.Common.{◌≡◌, ◌∙◌, ℕ, ◌+◌, ◌-◌, ◌≤◌, ◌&&◌, Bool, true, false, cond, leb, ltb, List, ◌++◌, Option, Some, None, drop, length, replicate, take, refl, ap, append-nil, arith}
use Rattle.std.proofs.lemmas.Bool.{and_parts, le-leb}
use Rattle.std.proofs.lemmas.List.{take_all}
use Rattle.std.proofs.Math.Seq.{drop-length}
use borrow.Author.Tests.{leb-true, ltb-true}
use Rattle.vp_bits.specs.declared.bit.Bit.{Bit}
use Rattle.vp_bits.specs.declared.bit.Bit.TheVariants.{Zero}
use Rattle.vp_bits.specs.Vector.{resized}
use Rattle.vp_bits.specs.Shaping.{with_selected}
use Rattle.vp_operand.specs.Terms.{has_index, index_place, set_in, with_part_at}

-- what an assignment to the bit at an index leaves of a vector; the vector itself where the index is unknown or out of range
-- (IEEE Std 1364-2005, 5.2.1)
abbrev pub with_bit_at : List Bit → (lowest : ℕ) → Option ℕ → List Bit → List Bit
with_bit_at bits lowest None part = bits
with_bit_at bits lowest (Some index) part = cond (has_index bits lowest index) (with_selected bits (index - lowest) (resized 1 part)) bits

-- a value that has the width already
same_width : (n : ℕ) (bits : List Bit) → length bits ≡ n → resized n bits ≡ bits
same_width n bits h =
    ap (λ (m : ℕ). take n bits ++ replicate m Zero) (let e : n - length bits ≡ 0 = omega arith in e)
    ∙ append-nil (take n bits)
    ∙ take_all n bits (omega arith)

-- a part that lies inside
inside : (bits : List Bit) (place width : ℕ) (part : List Bit) → 1 ≤ width → place + width ≤ length bits → with_part_at bits place width part ≡ with_selected bits place (resized width part)
inside bits place width part h k =
    ap (λ (b : Bool). cond (b && leb (place + width) (length bits)) (with_selected bits place (resized width part)) bits) (le-leb 1 width h)
    ∙ ap (λ (b : Bool). cond b (with_selected bits place (resized width part)) bits) (le-leb (place + width) (length bits) k)

-- the whole of an object
pub whole : (bits : List Bit) (part : List Bit) → 1 ≤ length bits → length part ≡ length bits → set_in bits (Some 0) part ≡ part
whole bits part h k =
    inside bits 0 (length part) part (omega arith) (omega arith)
    ∙ ap (λ (p : List Bit). with_selected bits 0 p) (same_width (length part) part refl)
    ∙ ap (λ (n : ℕ). part ++ drop n bits) (let e : 0 + length part ≡ length bits = omega arith in e)
    ∙ ap (λ (l : List Bit). part ++ l) (drop-length bits)
    ∙ append-nil part

-- one bit, where the index is one of the vector's
one_bit : (bits : List Bit) (lowest index : ℕ) (part : List Bit) → length part ≡ 1 → (has : Bool) → has_index bits lowest index ≡ has → set_in bits (cond has (Some (index - lowest)) None) part ≡ cond has (with_selected bits (index - lowest) (resized 1 part)) bits
one_bit bits lowest index part h false is = refl
one_bit bits lowest index part h true is =
    let both = and_parts (leb lowest index) (ltb index (lowest + length bits)) is in
    let low = leb-true lowest index both.0 in
    let high = ltb-true index (lowest + length bits) both.1 in
    inside bits (index - lowest) (length part) part (omega arith) (omega arith)
    ∙ ap (λ (n : ℕ). with_selected bits (index - lowest) (resized n part)) h

pub at_index : (bits : List Bit) (lowest : ℕ) (index : Option ℕ) (part : List Bit) → length part ≡ 1 → set_in bits (index_place bits lowest index) part ≡ with_bit_at bits lowest index part
at_index bits lowest None part h = refl
at_index bits lowest (Some index) part h = one_bit bits lowest index part h (has_index bits lowest index) refl

-- Laws of the values of expressions.
use Rattle.std.proofs.Common.{◌≡◌, ◌∙◌, ℕ, zero, suc, ◌-◌, List, [], ◌∷◌, ◌++◌, Option, Some, None, length, replicate, take, refl, ap, length-append, length-take, arith}
use Rattle.std.proofs.lemmas.List.{length-map, length-replicate}
use Rattle.vp_bits.specs.declared.bit.Bit.{Bit}
use Rattle.vp_bits.specs.declared.bit.Bit.TheVariants.{Zero, One, Unknown, HighImpedance}
use Rattle.vp_bits.specs.Vector.{resized}
use Rattle.vp_bits.specs.Tables.{bitwise, negated, not_bit}
use Rattle.vp_bits.specs.Arithmetic.{bits_of_number, bits_or_unknown, computed, number_of, with_numbers}
use Rattle.vp_bits.specs.Shaping.{shl_by, shr_by, shifted}
use Rattle.vp_operand.specs.declared.operand.Unary.{Unary}
use Rattle.vp_operand.specs.declared.operand.Unary.TheVariants as unary
use Rattle.vp_operand.specs.declared.operand.Binary.{Binary}
use Rattle.vp_operand.specs.declared.operand.Binary.TheVariants as binary
use Rattle.vp_operand.specs.declared.operand.Shift.{Shift}
use Rattle.vp_operand.specs.declared.operand.Shift.TheVariants as shift
use Rattle.vp_operand.specs.Terms.{Term, Object, Constant, BitSelect, PartSelect, Applied, Reduced, Combined, Shifted, Compared, Joined, Conditional, Concatenated, Appended, Replicated, value, applied, chosen, combined, shifted_by}

-- a vector has the width that it was given
pub length-resized : (n : ℕ) (bits : List Bit) → length (resized n bits) ≡ n
length-resized n bits =
    omega (arith, length-append (take n bits) (replicate (n - length bits) Zero), length-take n bits, length-replicate (n - length bits) Zero)

-- ---- lengths of what operators give

pub length-bitwise : (table : Bit → Bit → Bit) (n : ℕ) (a b : List Bit) → length a ≡ n → length b ≡ n → length (bitwise table a b) ≡ n
length-bitwise table n [] [] h k = h
length-bitwise table n [] (y ∷ ys) h k = h
length-bitwise table n (x ∷ xs) [] h k = absurd (omega arith)
length-bitwise table n (x ∷ xs) (y ∷ ys) h k =
    let e = length-bitwise table (n - 1) xs ys (omega arith) (omega arith) in omega arith

pub length-bits_of_number : (width number : ℕ) → length (bits_of_number width number) ≡ width
length-bits_of_number zero number = refl
length-bits_of_number (suc width) number = ap suc (length-bits_of_number width _)

length-bits_or_unknown : (width : ℕ) (number : Option ℕ) → length (bits_or_unknown width number) ≡ width
length-bits_or_unknown width None = length-replicate width Unknown
length-bits_or_unknown width (Some number) = length-bits_of_number width number

length-computed : (operation : ℕ → ℕ → ℕ) (a b : List Bit) → length (computed operation a b) ≡ length a
length-computed operation a b = length-bits_or_unknown (length a) (with_numbers operation a b)

length-negated : (a : List Bit) → length (negated a) ≡ length a
length-negated a = length-map a not_bit

pub length-applied : (o : Unary) (n : ℕ) (a : List Bit) → length a ≡ n → length (applied o a) ≡ n
length-applied unary.Plus n a h = h
length-applied unary.Minus n a h = length-computed _ (replicate (length a) Zero) a ∙ length-replicate (length a) Zero ∙ h
length-applied unary.Negation n a h = length-negated a ∙ h

pub length-combined : (o : Binary) (n : ℕ) (a b : List Bit) → length a ≡ n → length b ≡ n → length (combined o a b) ≡ n
length-combined binary.Add n a b h k = length-computed _ a b ∙ h
length-combined binary.Subtract n a b h k = length-computed _ a b ∙ h
length-combined binary.Multiply n a b h k = length-computed _ a b ∙ h
length-combined binary.And n a b h k = length-bitwise _ n a b h k
length-combined binary.Or n a b h k = length-bitwise _ n a b h k
length-combined binary.Xor n a b h k = length-bitwise _ n a b h k
length-combined binary.Xnor n a b h k = length-negated _ ∙ length-bitwise _ n a b h k

length-shl_by : (places : ℕ) (a : List Bit) → length (shl_by places a) ≡ length a
length-shl_by places a =
    omega (arith, length-take (length a) (replicate places Zero ++ a), length-append (replicate places Zero) a)

length-shifted : (shift : ℕ → List Bit → List Bit) → ((places : ℕ) (a : List Bit) → length (shift places a) ≡ length a) → (a : List Bit) (amount : Option ℕ) → length (shifted shift a amount) ≡ length a
length-shifted shift same a None = length-replicate (length a) Unknown
length-shifted shift same a (Some places) = same places a

length-shifted_by : (o : Shift) (n : ℕ) (a b : List Bit) → length a ≡ n → length (shifted_by o a b) ≡ n
length-shifted_by shift.Left n a b h = length-shifted shl_by length-shl_by a (number_of b) ∙ h
length-shifted_by shift.Right n a b h = length-shifted shr_by (λ places c. length-resized (length c) _) a (number_of b) ∙ h

length-chosen : (c : Bit) (n : ℕ) (a b : List Bit) → length a ≡ n → length b ≡ n → length (chosen c a b) ≡ n
length-chosen One n a b h k = h
length-chosen Zero n a b h k = k
length-chosen Unknown n a b h k = length-bitwise _ n a b h k
length-chosen HighImpedance n a b h k = length-bitwise _ n a b h k

-- the value of a term in a context has the context's size
pub length-value : (at : ℕ → List Bit) (n : ℕ) (t : Term) → length (value at n t) ≡ n
length-value at n (Object slot width) = length-resized n _
length-value at n (Constant bits s) = length-resized n _
length-value at n (BitSelect slot lowest i) = length-resized n _
length-value at n (PartSelect slot place width) = length-resized n _
length-value at n (Applied o a) = length-applied o n _ (length-value at n a)
length-value at n (Reduced o a) = length-resized n _
length-value at n (Combined o a b) = length-combined o n _ _ (length-value at n a) (length-value at n b)
length-value at n (Shifted o a b) = length-shifted_by o n _ _ (length-value at n a)
length-value at n (Compared o a b) = length-resized n _
length-value at n (Joined o a b) = length-resized n _
length-value at n (Conditional c a b) =
    length-chosen _ n _ _ (length-value at n a) (length-value at n b)
length-value at n (Concatenated a) = length-resized n _
length-value at n (Appended list a) = length-resized n _
length-value at n (Replicated count list) = length-resized n _

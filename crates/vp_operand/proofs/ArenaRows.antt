-- Expressions in a list, at rows that are worked out by hand.
use Rattle.std.proofs.Common.{◌≡◌, true, false, List, [], ◌∷◌, refl}
use Rattle.vp_bits.specs.declared.bit.Bit.TheVariants.{Zero, One, Unknown}
use Rattle.vp_operand.specs.declared.operand.Operand.{Operand}
use Rattle.vp_operand.specs.declared.operand.Operand.TheVariants as operand
use Rattle.vp_operand.specs.declared.operand.Binary.TheVariants as binary
use Rattle.vp_operand.specs.declared.operand.Infix.TheVariants as pair
use Rattle.vp_operand.specs.declared.operand.Unary.TheVariants as unary
use Rattle.vp_operand.specs.Arena.{signs_in, sizes_in, value_at}

-- {4'b1100 + 4'b0101, the object of slot 1, which has 2 bits}, and an expression whose part does not stand before it
abbrev operands : List Operand
operands =
    operand.Constant (Zero ∷ Zero ∷ One ∷ One ∷ []) false
    ∷ operand.Constant (One ∷ Zero ∷ One ∷ Zero ∷ []) true
    ∷ operand.Paired (pair.Combined binary.Add) 0 1
    ∷ operand.Object (record { 0 = 1 }) 2
    ∷ operand.Concatenated 2
    ∷ operand.Appended 4 3
    ∷ operand.Applied unary.Plus 6
    ∷ []

sizes : sizes_in operands ≡ 4 ∷ 4 ∷ 4 ∷ 2 ∷ 4 ∷ 6 ∷ 1 ∷ []
unfolding sizes_in
sizes = refl

signs : signs_in operands ≡ false ∷ true ∷ false ∷ false ∷ false ∷ false ∷ false ∷ []
signs = refl

sum_in_5_bits : value_at operands [] 2 5 ≡ One ∷ Zero ∷ Zero ∷ Zero ∷ One ∷ []
sum_in_5_bits = refl

braces : value_at operands ((Unknown ∷ []) ∷ (Zero ∷ One ∷ []) ∷ []) 5 7 ≡ Zero ∷ One ∷ One ∷ Zero ∷ Zero ∷ Zero ∷ Zero ∷ []
braces = refl

part_not_before : value_at operands [] 6 2 ≡ Unknown ∷ Zero ∷ []
part_not_before = refl

after_the_end : value_at operands [] 7 1 ≡ Unknown ∷ []
after_the_end = refl

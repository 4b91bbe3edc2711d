-- Operators: their punctuators, and how tightly they bind.
use Rattle.std.specs.Prelude.{ℕ, nat_le, List, [], ◌∷◌, Option, Some, None, if◌then◌else◌}
use Rattle.vp_lex.specs.declared.token.Punctuator.{Punctuator}
use Rattle.vp_lex.specs.declared.token.Punctuator.TheVariants as punctuator
use Rattle.vp_source.specs.declared.operator.BinaryOperator.{BinaryOperator}
use Rattle.vp_source.specs.declared.operator.BinaryOperator.TheVariants as binary
use Rattle.vp_source.specs.declared.operator.UnaryOperator.{UnaryOperator}
use Rattle.vp_source.specs.declared.operator.UnaryOperator.TheVariants as unary
use Rattle.vp_source.specs.declared.symbol.Symbol.{Symbol}
use Rattle.vp_source.specs.declared.symbol.SymbolKind.{SymbolKind}
use Rattle.vp_source.specs.declared.symbol.SymbolKind.TheVariants as symbol

-- the punctuator of an operator of one operand (5.1)
abbrev pub unary_sign : UnaryOperator → Punctuator
unary_sign unary.Plus = punctuator.Plus
unary_sign unary.Minus = punctuator.Minus
unary_sign unary.LogicalNegation = punctuator.LogicalNegation
unary_sign unary.Negation = punctuator.Negation
unary_sign unary.ReductionAnd = punctuator.And
unary_sign unary.ReductionNand = punctuator.ReductionNand
unary_sign unary.ReductionOr = punctuator.Or
unary_sign unary.ReductionNor = punctuator.ReductionNor
unary_sign unary.ReductionXor = punctuator.Xor
unary_sign unary.ReductionXnor = punctuator.ReductionXnor

-- the operator of one operand that a punctuator is (5.1)
abbrev pub unary_of : Punctuator → Option UnaryOperator
unary_of punctuator.Plus = Some unary.Plus
unary_of punctuator.Minus = Some unary.Minus
unary_of punctuator.LogicalNegation = Some unary.LogicalNegation
unary_of punctuator.Negation = Some unary.Negation
unary_of punctuator.And = Some unary.ReductionAnd
unary_of punctuator.ReductionNand = Some unary.ReductionNand
unary_of punctuator.Or = Some unary.ReductionOr
unary_of punctuator.ReductionNor = Some unary.ReductionNor
unary_of punctuator.Xor = Some unary.ReductionXor
unary_of punctuator.ReductionXnor = Some unary.ReductionXnor
unary_of _ = None

-- the punctuator of an operator of two operands (5.1)
abbrev pub binary_sign : BinaryOperator → Punctuator
binary_sign binary.Multiply = punctuator.Asterisk
binary_sign binary.Add = punctuator.Plus
binary_sign binary.Subtract = punctuator.Minus
binary_sign binary.ShiftLeft = punctuator.ShiftLeft
binary_sign binary.ShiftRight = punctuator.ShiftRight
binary_sign binary.Less = punctuator.LessThan
binary_sign binary.LessOrEqual = punctuator.LessOrEqual
binary_sign binary.Greater = punctuator.GreaterThan
binary_sign binary.GreaterOrEqual = punctuator.GreaterOrEqual
binary_sign binary.Equal = punctuator.LogicalEquality
binary_sign binary.Unequal = punctuator.LogicalInequality
binary_sign binary.CaseEqual = punctuator.CaseEquality
binary_sign binary.CaseUnequal = punctuator.CaseInequality
binary_sign binary.And = punctuator.And
binary_sign binary.Xor = punctuator.Xor
binary_sign binary.Xnor = punctuator.ReductionXnor
binary_sign binary.Or = punctuator.Or
binary_sign binary.LogicalAnd = punctuator.LogicalAnd
binary_sign binary.LogicalOr = punctuator.LogicalOr

-- the operator of two operands that a punctuator is (5.1)
abbrev pub binary_of : Punctuator → Option BinaryOperator
binary_of punctuator.Asterisk = Some binary.Multiply
binary_of punctuator.Plus = Some binary.Add
binary_of punctuator.Minus = Some binary.Subtract
binary_of punctuator.ShiftLeft = Some binary.ShiftLeft
binary_of punctuator.ShiftRight = Some binary.ShiftRight
binary_of punctuator.LessThan = Some binary.Less
binary_of punctuator.LessOrEqual = Some binary.LessOrEqual
binary_of punctuator.GreaterThan = Some binary.Greater
binary_of punctuator.GreaterOrEqual = Some binary.GreaterOrEqual
binary_of punctuator.LogicalEquality = Some binary.Equal
binary_of punctuator.LogicalInequality = Some binary.Unequal
binary_of punctuator.CaseEquality = Some binary.CaseEqual
binary_of punctuator.CaseInequality = Some binary.CaseUnequal
binary_of punctuator.And = Some binary.And
binary_of punctuator.Xor = Some binary.Xor
binary_of punctuator.ReductionXnor = Some binary.Xnor
binary_of punctuator.Or = Some binary.Or
binary_of punctuator.LogicalAnd = Some binary.LogicalAnd
binary_of punctuator.LogicalOr = Some binary.LogicalOr
binary_of _ = None

-- how tightly an operator binds: the conditional operator has 0, and an operator of one operand 11 (table 5-4)
abbrev pub level : BinaryOperator → ℕ
level binary.Multiply = 10
level binary.Add = 9
level binary.Subtract = 9
level binary.ShiftLeft = 8
level binary.ShiftRight = 8
level binary.Less = 7
level binary.LessOrEqual = 7
level binary.Greater = 7
level binary.GreaterOrEqual = 7
level binary.Equal = 6
level binary.Unequal = 6
level binary.CaseEqual = 6
level binary.CaseUnequal = 6
level binary.And = 5
level binary.Xor = 4
level binary.Xnor = 4
level binary.Or = 3
level binary.LogicalAnd = 2
level binary.LogicalOr = 1

-- the operator of two operands that a symbol of a kind is (5.1)
abbrev pub operator_of : SymbolKind → Option BinaryOperator
operator_of (symbol.Punctuator p) = binary_of p
operator_of _ = None

-- an operator, if it binds at least so tightly
abbrev pub tight : ℕ → Option BinaryOperator → Option BinaryOperator
tight least None = None
tight least (Some o) = if nat_le least (level o) then Some o else None

-- the operator that is next, if it binds at least so tightly
abbrev pub binds : ℕ → List Symbol → Option BinaryOperator
binds least [] = None
binds least (s ∷ ts) = tight least (operator_of s.kind)

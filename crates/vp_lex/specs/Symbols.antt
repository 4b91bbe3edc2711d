-- The operators and the punctuators, by their symbols.
use Rattle.std.specs.Prelude.{ℕ, Bool, List, [], ◌∷◌, Option, None, codes, is_some}
use Rattle.vp_lex.specs.declared.token.Punctuator.{Punctuator}
use Rattle.vp_lex.specs.declared.token.Punctuator.TheVariants as symbol
use Rattle.vp_lex.specs.Tables.{looked_up}

-- the symbols, each with what it is (IEEE Std 1364-2005, 5.1 and annex A)
abbrev pub symbols : List (List ℕ × Punctuator)
symbols =
    (codes "<<<", symbol.ArithmeticShiftLeft) ∷ (codes ">>>", symbol.ArithmeticShiftRight)
    ∷ (codes "===", symbol.CaseEquality) ∷ (codes "!==", symbol.CaseInequality)
    ∷ (codes "**", symbol.Power)
    ∷ (codes "<<", symbol.ShiftLeft) ∷ (codes ">>", symbol.ShiftRight)
    ∷ (codes "<=", symbol.LessOrEqual) ∷ (codes ">=", symbol.GreaterOrEqual)
    ∷ (codes "==", symbol.LogicalEquality) ∷ (codes "!=", symbol.LogicalInequality)
    ∷ (codes "&&", symbol.LogicalAnd) ∷ (codes "||", symbol.LogicalOr)
    ∷ (codes "~&", symbol.ReductionNand) ∷ (codes "~|", symbol.ReductionNor)
    ∷ (codes "~^", symbol.ReductionXnor) ∷ (codes "^~", symbol.ReductionXnor)
    ∷ (codes "->", symbol.EventTrigger)
    ∷ (codes "+", symbol.Plus) ∷ (codes "-", symbol.Minus)
    ∷ (codes "*", symbol.Asterisk) ∷ (codes "/", symbol.Divide) ∷ (codes "%", symbol.Modulus)
    ∷ (codes "&", symbol.And) ∷ (codes "|", symbol.Or) ∷ (codes "^", symbol.Xor)
    ∷ (codes "~", symbol.Negation) ∷ (codes "!", symbol.LogicalNegation)
    ∷ (codes "?", symbol.Conditional)
    ∷ (codes "<", symbol.LessThan) ∷ (codes ">", symbol.GreaterThan) ∷ (codes "=", symbol.Equals)
    ∷ (codes "(", symbol.LeftParenthesis) ∷ (codes ")", symbol.RightParenthesis)
    ∷ (codes "[", symbol.LeftBracket) ∷ (codes "]", symbol.RightBracket)
    ∷ (codes "{", symbol.LeftBrace) ∷ (codes "}", symbol.RightBrace)
    ∷ (codes ",", symbol.Comma) ∷ (codes ";", symbol.Semicolon) ∷ (codes ":", symbol.Colon)
    ∷ (codes ".", symbol.Period) ∷ (codes "#", symbol.Hash) ∷ (codes "@", symbol.At)
    ∷ []

-- the operator or the punctuator that a byte string is, if it is a symbol
abbrev pub symbol_of : List ℕ → Option Punctuator
symbol_of bytes = looked_up symbols bytes None

-- the byte string is a symbol
abbrev pub is_symbol : List ℕ → Bool
is_symbol bytes = is_some (symbol_of bytes)

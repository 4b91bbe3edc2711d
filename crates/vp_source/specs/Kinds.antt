-- The kinds of symbols, distinguished, and a symbol of a kind at a place.
use Rattle.std.specs.Prelude.{ℕ, Bool, ◌&&◌, ◌==◌}
use Rattle.vp_lex.specs.declared.keyword.Keyword.{Keyword}
use Rattle.vp_lex.specs.declared.keyword.Keyword.TheVariants as keyword
use Rattle.vp_lex.specs.declared.token.Punctuator.{Punctuator}
use Rattle.vp_lex.specs.declared.token.Punctuator.TheVariants as punctuator
use Rattle.vp_source.specs.declared.symbol.Symbol.{Symbol}
use Rattle.vp_source.specs.declared.symbol.SymbolKind.{SymbolKind}
use Rattle.vp_source.specs.declared.symbol.SymbolKind.TheVariants as symbol

-- a number for each keyword (annex B)
abbrev pub keyword_number : Keyword → ℕ
keyword_number keyword.Module = 0
keyword_number keyword.Endmodule = 1
keyword_number keyword.Input = 2
keyword_number keyword.Output = 3
keyword_number keyword.Wire = 4
keyword_number keyword.Reg = 5
keyword_number keyword.Localparam = 6
keyword_number keyword.Assign = 7
keyword_number keyword.Initial = 8
keyword_number keyword.Always = 9
keyword_number keyword.Begin = 10
keyword_number keyword.End = 11
keyword_number keyword.If = 12
keyword_number keyword.Else = 13
keyword_number keyword.Case = 14
keyword_number keyword.Casez = 15
keyword_number keyword.Endcase = 16
keyword_number keyword.Default = 17
keyword_number keyword.While = 18
keyword_number keyword.For = 19
keyword_number keyword.Forever = 20
keyword_number keyword.Wait = 21
keyword_number keyword.Posedge = 22
keyword_number keyword.Negedge = 23
keyword_number keyword.Or = 24
keyword_number keyword.Casex = 25
keyword_number keyword.LeftOut = 26

-- a number for each punctuator (5.1 and annex A)
abbrev pub punctuator_number : Punctuator → ℕ
punctuator_number punctuator.ArithmeticShiftLeft = 0
punctuator_number punctuator.ArithmeticShiftRight = 1
punctuator_number punctuator.CaseEquality = 2
punctuator_number punctuator.CaseInequality = 3
punctuator_number punctuator.Power = 4
punctuator_number punctuator.ShiftLeft = 5
punctuator_number punctuator.ShiftRight = 6
punctuator_number punctuator.LessOrEqual = 7
punctuator_number punctuator.GreaterOrEqual = 8
punctuator_number punctuator.LogicalEquality = 9
punctuator_number punctuator.LogicalInequality = 10
punctuator_number punctuator.LogicalAnd = 11
punctuator_number punctuator.LogicalOr = 12
punctuator_number punctuator.ReductionNand = 13
punctuator_number punctuator.ReductionNor = 14
punctuator_number punctuator.ReductionXnor = 15
punctuator_number punctuator.EventTrigger = 16
punctuator_number punctuator.Plus = 17
punctuator_number punctuator.Minus = 18
punctuator_number punctuator.Asterisk = 19
punctuator_number punctuator.Divide = 20
punctuator_number punctuator.Modulus = 21
punctuator_number punctuator.And = 22
punctuator_number punctuator.Or = 23
punctuator_number punctuator.Xor = 24
punctuator_number punctuator.Negation = 25
punctuator_number punctuator.LogicalNegation = 26
punctuator_number punctuator.Conditional = 27
punctuator_number punctuator.LessThan = 28
punctuator_number punctuator.GreaterThan = 29
punctuator_number punctuator.Equals = 30
punctuator_number punctuator.LeftParenthesis = 31
punctuator_number punctuator.RightParenthesis = 32
punctuator_number punctuator.LeftBracket = 33
punctuator_number punctuator.RightBracket = 34
punctuator_number punctuator.LeftBrace = 35
punctuator_number punctuator.RightBrace = 36
punctuator_number punctuator.Comma = 37
punctuator_number punctuator.Semicolon = 38
punctuator_number punctuator.Colon = 39
punctuator_number punctuator.Period = 40
punctuator_number punctuator.Hash = 41
punctuator_number punctuator.At = 42

-- a number for each sort of kind
abbrev pub sort_number : SymbolKind → ℕ
sort_number symbol.Name = 0
sort_number (symbol.Number n) = 1
sort_number symbol.Base = 2
sort_number symbol.String = 3
sort_number (symbol.Keyword k) = 4
sort_number (symbol.Punctuator p) = 5
sort_number symbol.SystemName = 6
sort_number symbol.OtherBase = 7
sort_number symbol.ShortBase = 8
sort_number symbol.Finish = 9

-- what a kind says beside its sort
abbrev pub kind_value : SymbolKind → ℕ
kind_value (symbol.Number n) = n
kind_value (symbol.Keyword k) = keyword_number k
kind_value (symbol.Punctuator p) = punctuator_number p
kind_value _ = 0

-- two kinds are the same
abbrev pub same_kind : SymbolKind → SymbolKind → Bool
same_kind a b = (sort_number a == sort_number b) && (kind_value a == kind_value b)

-- a symbol of a kind at a place
abbrev pub symbol_at : SymbolKind → ℕ → Symbol
symbol_at kind place = record { kind = kind; place = place }

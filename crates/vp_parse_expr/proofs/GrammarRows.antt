-- Reading expressions, computed on examples. Each row is an equation that holds by computation.
use Rattle.std.proofs.Common.{◌≡◌, ℕ, zero, suc, ◌+◌, List, [], ◌∷◌, Result, Ok, Err, refl}
use Rattle.vp_lex.specs.declared.token.Punctuator.{Punctuator}
use Rattle.vp_lex.specs.declared.token.Punctuator.TheVariants as punctuator
use Rattle.vp_source.specs.declared.operator.BinaryOperator.TheVariants as binary
use Rattle.vp_source.specs.declared.operator.UnaryOperator.TheVariants as unary
use Rattle.vp_source.specs.declared.symbol.Symbol.{Symbol}
use Rattle.vp_source.specs.declared.symbol.SymbolKind.{SymbolKind}
use Rattle.vp_source.specs.declared.symbol.SymbolKind.TheVariants as symbol
use Rattle.vp_source.specs.Kinds.{symbol_at}
use Rattle.vp_parse_expr.specs.Stopping.{Stop, Unexpected, TooDeep, terminal}
use Rattle.vp_source.specs.ExprGrammar.{Expr, Name, Sized, Based, Number, Group, Unary, Binary, Conditional, Concatenation, Replication, Whole, Bit, Part, First, More}
use Rattle.vp_parse_expr.specs.Reading.{bound_by, bound_at, range_at, sized_at, number_at, bit_at, part_select_at, select_at, name_at, group_at, unary_at, part_at, further_part_at, further_parts_at, parts_at, concatenation_at, replication_at, braces_at, operand_by, operand_at, binary_at, more_at, conditional_at, choice_at, chain_at, expr_at}

-- ---- symbols

-- kinds, each at its place from this one on
abbrev placed : ℕ → List SymbolKind → List Symbol
placed n [] = []
placed n (k ∷ ks) = symbol_at k n ∷ placed (n + 1) ks

abbrev name : SymbolKind
name = symbol.Name

-- the kind of a punctuator
abbrev sign : Punctuator → SymbolKind
sign p = symbol.Punctuator p

abbrev number : ℕ → SymbolKind
number n = symbol.Number n

-- a name alone, at a place
abbrev at : ℕ → Expr
at place = Name place Whole

-- what is read from symbols of these kinds, placed from 0 on, within a limit
unfoldable read_kinds : ℕ → List SymbolKind → Result (Expr × List Symbol) Stop
unfolding terminal bound_by bound_at range_at sized_at number_at bit_at part_select_at select_at name_at group_at unary_at part_at further_part_at further_parts_at parts_at concatenation_at replication_at braces_at operand_by operand_at binary_at more_at conditional_at choice_at chain_at expr_at
read_kinds limit kinds = expr_at limit 0 (placed 0 kinds)

-- ---- precedence (IEEE Std 1364-2005, 5.1.2)

-- a + b * c
row_multiply : read_kinds 64 (name ∷ sign punctuator.Plus ∷ name ∷ sign punctuator.Asterisk ∷ name ∷ []) ≡ Ok (Binary binary.Add (at 0) 1 (Binary binary.Multiply (at 2) 3 (at 4)), [])
unfolding read_kinds
row_multiply = refl

-- a - b - c
row_left : read_kinds 64 (name ∷ sign punctuator.Minus ∷ name ∷ sign punctuator.Minus ∷ name ∷ []) ≡ Ok (Binary binary.Subtract (Binary binary.Subtract (at 0) 1 (at 2)) 3 (at 4), [])
unfolding read_kinds
row_left = refl

-- a << b + c < d
row_shift : read_kinds 64 (name ∷ sign punctuator.ShiftLeft ∷ name ∷ sign punctuator.Plus ∷ name ∷ sign punctuator.LessThan ∷ name ∷ [])
    ≡ Ok (Binary binary.Less (Binary binary.ShiftLeft (at 0) 1 (Binary binary.Add (at 2) 3 (at 4))) 5 (at 6), [])
unfolding read_kinds
row_shift = refl

-- a || b && c | d ^ e & f == g <= h
row_levels : read_kinds 64 (name ∷ sign punctuator.LogicalOr ∷ name ∷ sign punctuator.LogicalAnd ∷ name ∷ sign punctuator.Or ∷ name ∷ sign punctuator.Xor ∷ name ∷ sign punctuator.And ∷ name ∷ sign punctuator.LogicalEquality ∷ name ∷ sign punctuator.LessOrEqual ∷ name ∷ [])
    ≡ Ok (Binary binary.LogicalOr (at 0) 1 (Binary binary.LogicalAnd (at 2) 3 (Binary binary.Or (at 4) 5 (Binary binary.Xor (at 6) 7 (Binary binary.And (at 8) 9 (Binary binary.Equal (at 10) 11 (Binary binary.LessOrEqual (at 12) 13 (at 14))))))), [])
unfolding read_kinds
row_levels = refl

-- -a * ~^b ~^ c
row_unary : read_kinds 64 (sign punctuator.Minus ∷ name ∷ sign punctuator.Asterisk ∷ sign punctuator.ReductionXnor ∷ name ∷ sign punctuator.ReductionXnor ∷ name ∷ [])
    ≡ Ok (Binary binary.Xnor (Binary binary.Multiply (Unary unary.Minus 0 (at 1)) 2 (Unary unary.ReductionXnor 3 (at 4))) 5 (at 6), [])
unfolding read_kinds
row_unary = refl

-- a ? b : c ? d : e
row_choice : read_kinds 64 (name ∷ sign punctuator.Conditional ∷ name ∷ sign punctuator.Colon ∷ name ∷ sign punctuator.Conditional ∷ name ∷ sign punctuator.Colon ∷ name ∷ [])
    ≡ Ok (Conditional (at 0) 1 (at 2) 3 (Conditional (at 4) 5 (at 6) 7 (at 8)), [])
unfolding read_kinds
row_choice = refl

-- (a + b) * 2
row_group : read_kinds 64 (sign punctuator.LeftParenthesis ∷ name ∷ sign punctuator.Plus ∷ name ∷ sign punctuator.RightParenthesis ∷ sign punctuator.Asterisk ∷ number 2 ∷ [])
    ≡ Ok (Binary binary.Multiply (Group 0 (Binary binary.Add (at 1) 2 (at 3)) 4) 5 (Number 6 2), [])
unfolding read_kinds
row_group = refl

-- ---- literals (IEEE Std 1364-2005, 3.5.1)

-- 4'b1x + 'd7
row_literals : read_kinds 64 (number 4 ∷ symbol.Base ∷ sign punctuator.Plus ∷ symbol.ShortBase ∷ []) ≡ Ok (Binary binary.Add (Sized 0 4 symbol.Base 1) 2 (Based 3), [])
unfolding read_kinds
row_literals = refl

-- a base part with x, z or ? has a size
row_no_size : read_kinds 64 (symbol.Base ∷ []) ≡ Err (Unexpected 1)
unfolding read_kinds
row_no_size = refl

-- 0'b1
row_size_zero : read_kinds 64 (number 0 ∷ symbol.ShortBase ∷ []) ≡ Err (Unexpected 2)
unfolding read_kinds
row_size_zero = refl

-- 65535'b1
row_size : read_kinds 64 (number 65535 ∷ symbol.ShortBase ∷ []) ≡ Ok (Sized 0 65535 symbol.ShortBase 1, [])
unfolding read_kinds
row_size = refl

-- 65536'b1
row_size_over : read_kinds 64 (number 65536 ∷ symbol.ShortBase ∷ []) ≡ Err (Unexpected 2)
unfolding read_kinds
row_size_over = refl

-- 4'sb1
row_signed : read_kinds 64 (number 4 ∷ symbol.OtherBase ∷ []) ≡ Err (Unexpected 2)
unfolding read_kinds
row_signed = refl

-- 2147483647
row_number : read_kinds 64 (number 2147483647 ∷ []) ≡ Ok (Number 0 2147483647, [])
unfolding read_kinds
row_number = refl

-- 2147483648
row_number_over : read_kinds 64 (number 2147483648 ∷ []) ≡ Err (Unexpected 1)
unfolding read_kinds
row_number_over = refl

-- ---- selections (IEEE Std 1364-2005, 5.2.1)

-- a[i + 1]
row_bit : read_kinds 64 (name ∷ sign punctuator.LeftBracket ∷ name ∷ sign punctuator.Plus ∷ number 1 ∷ sign punctuator.RightBracket ∷ [])
    ≡ Ok (Name 0 (Bit 1 (Binary binary.Add (at 2) 3 (Number 4 1)) 5), [])
unfolding read_kinds
row_bit = refl

-- a[7:4]
row_part : read_kinds 64 (name ∷ sign punctuator.LeftBracket ∷ number 7 ∷ sign punctuator.Colon ∷ number 4 ∷ sign punctuator.RightBracket ∷ [])
    ≡ Ok (Name 0 (Part (record { opening = 1; msb_place = 2; msb = 7; colon = 3; lsb_place = 4; lsb = 4; closing = 5 })), [])
unfolding read_kinds
row_part = refl

-- a[4:7]
row_ascending : read_kinds 64 (name ∷ sign punctuator.LeftBracket ∷ number 4 ∷ sign punctuator.Colon ∷ number 7 ∷ sign punctuator.RightBracket ∷ []) ≡ Err (Unexpected 2)
unfolding read_kinds
row_ascending = refl

-- a[65536:0]
row_bound_over : read_kinds 64 (name ∷ sign punctuator.LeftBracket ∷ number 65536 ∷ sign punctuator.Colon ∷ number 0 ∷ sign punctuator.RightBracket ∷ []) ≡ Err (Unexpected 4)
unfolding read_kinds
row_bound_over = refl

-- a[1 +: 2]
row_indexed : read_kinds 64 (name ∷ sign punctuator.LeftBracket ∷ number 1 ∷ sign punctuator.Plus ∷ sign punctuator.Colon ∷ number 2 ∷ sign punctuator.RightBracket ∷ []) ≡ Err (Unexpected 3)
unfolding read_kinds
row_indexed = refl

-- ---- braces (IEEE Std 1364-2005, 5.1.14)

-- {a, 4'b1, b}
row_concatenation : read_kinds 64 (sign punctuator.LeftBrace ∷ name ∷ sign punctuator.Comma ∷ number 4 ∷ symbol.ShortBase ∷ sign punctuator.Comma ∷ name ∷ sign punctuator.RightBrace ∷ [])
    ≡ Ok (Concatenation 0 (More (More (First (at 1)) 2 (Sized 3 4 symbol.ShortBase 4)) 5 (at 6)) 7, [])
unfolding read_kinds
row_concatenation = refl

-- {2{a}}
row_replication : read_kinds 64 (sign punctuator.LeftBrace ∷ number 2 ∷ sign punctuator.LeftBrace ∷ name ∷ sign punctuator.RightBrace ∷ sign punctuator.RightBrace ∷ [])
    ≡ Ok (Replication 0 1 2 2 (First (at 3)) 4 5, [])
unfolding read_kinds
row_replication = refl

-- {1}
row_bare : read_kinds 64 (sign punctuator.LeftBrace ∷ number 1 ∷ sign punctuator.RightBrace ∷ []) ≡ Err (Unexpected 2)
unfolding read_kinds
row_bare = refl

-- {a, 'd1}
row_bare_base : read_kinds 64 (sign punctuator.LeftBrace ∷ name ∷ sign punctuator.Comma ∷ symbol.ShortBase ∷ sign punctuator.RightBrace ∷ []) ≡ Err (Unexpected 2)
unfolding read_kinds
row_bare_base = refl

-- {(1), -1}
row_not_bare : read_kinds 64 (sign punctuator.LeftBrace ∷ sign punctuator.LeftParenthesis ∷ number 1 ∷ sign punctuator.RightParenthesis ∷ sign punctuator.Comma ∷ sign punctuator.Minus ∷ number 1 ∷ sign punctuator.RightBrace ∷ [])
    ≡ Ok (Concatenation 0 (More (First (Group 1 (Number 2 1) 3)) 4 (Unary unary.Minus 5 (Number 6 1))) 7, [])
unfolding read_kinds
row_not_bare = refl

-- ---- depth

-- so many terms `1` joined by +, after the first
abbrev terms : ℕ → List SymbolKind
terms zero = []
terms (suc n) = sign punctuator.Plus ∷ number 1 ∷ terms n

-- the sum of so many more terms, each after a left operand, from the place of its operator on
abbrev sum_of : ℕ → Expr → ℕ → Expr
sum_of zero left place = left
sum_of (suc n) left place = sum_of n (Binary binary.Add left place (Number (place + 1) 1)) (place + 2)

-- 64 terms
row_terms : read_kinds 64 (number 1 ∷ terms 63) ≡ Ok (sum_of 63 (Number 0 1) 1, [])
unfolding read_kinds
row_terms = refl

-- 65 terms: refused at the last +
row_terms_over : read_kinds 64 (number 1 ∷ terms 64) ≡ Err (TooDeep 2)
unfolding read_kinds
row_terms_over = refl

-- ((a)) within 2: refused at the inner parenthesis
row_groups : read_kinds 2 (sign punctuator.LeftParenthesis ∷ sign punctuator.LeftParenthesis ∷ name ∷ sign punctuator.RightParenthesis ∷ sign punctuator.RightParenthesis ∷ []) ≡ Err (TooDeep 4)
unfolding read_kinds
row_groups = refl

-- a[b] within 1: refused at the bracket
row_index_deep : read_kinds 1 (name ∷ sign punctuator.LeftBracket ∷ name ∷ sign punctuator.RightBracket ∷ []) ≡ Err (TooDeep 3)
unfolding read_kinds
row_index_deep = refl

-- {2{a}} within 2: what stands in the inner braces is one deeper than the whole
row_replication_fits : read_kinds 2 (sign punctuator.LeftBrace ∷ number 2 ∷ sign punctuator.LeftBrace ∷ name ∷ sign punctuator.RightBrace ∷ sign punctuator.RightBrace ∷ [])
    ≡ Ok (Replication 0 1 2 2 (First (at 3)) 4 5, [])
unfolding read_kinds
row_replication_fits = refl

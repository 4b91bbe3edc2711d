-- Reading expressions from left to right: the derivation that symbols spell, or where it stops.
use Rattle.std.specs.Prelude.{ℕ, zero, suc, ◌+◌, ◌-◌, ◌==◌, ◌&&◌, nat_le, nat_lt, Bool, true, false, if◌then◌else◌, List, [], ◌∷◌, length, Option, Some, None, Result, Ok, Err}
use Rattle.vp_lex.specs.declared.token.Punctuator.TheVariants as punctuator
use Rattle.vp_source.specs.declared.operator.BinaryOperator.{BinaryOperator}
use Rattle.vp_source.specs.declared.operator.UnaryOperator.{UnaryOperator}
use Rattle.vp_source.specs.declared.symbol.Symbol.{Symbol}
use Rattle.vp_source.specs.declared.symbol.SymbolKind.{SymbolKind}
use Rattle.vp_source.specs.declared.symbol.SymbolKind.TheVariants as symbol
use Rattle.vp_source.specs.declared.symbol.TheConstants.{NUMBER_LIMIT}
use Rattle.vp_source.specs.Operators.{unary_of, level, binds}
use Rattle.vp_parse_expr.specs.Stopping.{Stop, Unexpected, TooDeep, ◌>>=◌, Reader, refused, is_next, terminal}
use Rattle.vp_source.specs.ExprGrammar.{Range, Expr, Name, Sized, Based, Number, Group, Unary, Binary, Conditional, Concatenation, Replication, Selection, Whole, Bit, Part, Parts, First, More, is_sized_base, expr_depth}

-- ---- what is ahead

-- a symbol of a kind is a number
abbrev pub is_number : SymbolKind → Bool
is_number (symbol.Number n) = true
is_number _ = false

-- a symbol of a kind is a base part
abbrev pub is_base : SymbolKind → Bool
is_base symbol.ShortBase = true
is_base symbol.Base = true
is_base symbol.OtherBase = true
is_base _ = false

-- a symbol of a kind may be a literal without a size, or a number
abbrev pub is_alone : SymbolKind → Bool
is_alone symbol.ShortBase = true
is_alone (symbol.Number n) = true
is_alone _ = false

-- a base part is next, so that the number before it is a size (3.5.1)
abbrev pub is_base_next : List Symbol → Bool
is_base_next [] = false
is_base_next (s ∷ ts) = is_base s.kind

-- a number, and then a symbol of this kind
abbrev pub is_number_before : SymbolKind → List Symbol → Bool
is_number_before kind [] = false
is_number_before kind (s ∷ ts) = is_number s.kind && is_next kind ts

-- after a bracket a part is selected: a number and a colon are next (5.2.1)
abbrev pub is_part : List Symbol → Bool
is_part [] = false
is_part (s ∷ ts) = is_number_before (symbol.Punctuator punctuator.Colon) ts

-- between these and those left after them stands one symbol, a literal without a size or a number
abbrev pub is_bare : (ts rest : List Symbol) → Bool
is_bare [] rest = false
is_bare (s ∷ ts) rest = is_alone s.kind && (length ts == length rest)

-- ---- ranges

-- a bound of a range that is at most so great, and its place, from after the symbol before it (4.3.1)
unfoldable pub bound_by : (greatest : ℕ) → SymbolKind → ℕ → List Symbol → Result (ℕ × ℕ × List Symbol) Stop
bound_by greatest (symbol.Number value) place ts =
    if nat_le value greatest then Ok (value, place, ts) else Err (Unexpected (length ts + 1))
bound_by greatest _ place ts = Err (Unexpected (length ts + 1))

-- a number that is at most so great: its value, its place and what is left (4.3.1)
unfoldable pub bound_at : (greatest : ℕ) → List Symbol → Result (ℕ × ℕ × List Symbol) Stop
bound_at greatest [] = refused []
bound_at greatest (s ∷ ts) = bound_by greatest s.kind s.place ts

-- a range, which does not ascend and whose bounds are at most 65,535 (4.3.1; profile)
unfoldable pub range_at : Reader Range
range_at ts = do
  opening ← terminal (symbol.Punctuator punctuator.LeftBracket) ts
  msb ← bound_at 65535 opening.1
  colon ← terminal (symbol.Punctuator punctuator.Colon) msb.2
  lsb ← bound_at msb.0 colon.1
  closing ← terminal (symbol.Punctuator punctuator.RightBracket) lsb.2
  Ok (
    record {
      opening = opening.0;
      msb_place = msb.1;
      msb = msb.0;
      colon = colon.0;
      lsb_place = lsb.1;
      lsb = lsb.0;
      closing = closing.0;
    },
    closing.1,
  )

-- ---- literals

-- a size has 1 to 65,535 bits, and a symbol of this kind may stand after it (3.5.1, profile)
abbrev pub is_size_of : ℕ → SymbolKind → Bool
is_size_of size kind = is_sized_base kind && (nat_le 1 size && nat_le size 65535)

-- a literal with a size, from after its size (3.5.1)
unfoldable pub sized_at : (size place : ℕ) → Reader Expr
sized_at size place [] = Err (Unexpected 1)
sized_at size place (s ∷ ts) =
    if is_size_of size s.kind then Ok (Sized place size s.kind s.place, ts) else Err (Unexpected (length ts + 2))

-- a literal with a size, or a number, from after its first symbol (3.5.1, profile)
unfoldable pub number_at : (value place : ℕ) → Reader Expr
number_at value place ts =
    if is_base_next ts
    then sized_at value place ts
    else (if nat_lt value NUMBER_LIMIT then Ok (Number place value, ts) else Err (Unexpected (length ts + 1)))

-- a literal with a size, by its first symbol's kind and place (3.5.1)
unfoldable pub literal_by : SymbolKind → ℕ → Reader Expr
literal_by (symbol.Number size) place ts = if is_base_next ts then sized_at size place ts else Err (Unexpected (length ts + 1))
literal_by _ place ts = Err (Unexpected (length ts + 1))

-- a literal with a size (3.5.1)
unfoldable pub literal_at : Reader Expr
literal_at [] = refused []
literal_at (s ∷ ts) = literal_by s.kind s.place ts

-- ---- selections

-- a bit of a named object, with the reader of its index (5.2.1)
unfoldable pub bit_at : Reader Expr → Reader Selection
bit_at index ts = do
  opening ← terminal (symbol.Punctuator punctuator.LeftBracket) ts
  value ← index opening.1
  closing ← terminal (symbol.Punctuator punctuator.RightBracket) value.1
  Ok (Bit opening.0 value.0 closing.0, closing.1)

-- a part of a named object (5.2.1)
unfoldable pub part_select_at : Reader Selection
part_select_at ts = do
  range ← range_at ts
  Ok (Part range.0, range.1)

-- what is selected of a named object, with the reader of an index (5.2.1)
unfoldable pub select_at : Reader Expr → Reader Selection
select_at index ts =
    if is_next (symbol.Punctuator punctuator.LeftBracket) ts
    then (if is_part ts then part_select_at ts else bit_at index ts)
    else Ok (Whole, ts)

-- ---- primaries

-- a name and what is selected of it, from after the name (5.2.1)
unfoldable pub name_at : (ℕ → Reader Expr) → ℕ → Reader Expr
name_at next place ts = do
  selection ← select_at (next 0) ts
  Ok (Name place selection.0, selection.1)

-- an expression in parentheses, from after the first (5.1.2)
unfoldable pub group_at : (ℕ → Reader Expr) → ℕ → Reader Expr
group_at next opening ts = do
  value ← next 0 ts
  closing ← terminal (symbol.Punctuator punctuator.RightParenthesis) value.1
  Ok (Group opening value.0 closing.0, closing.1)

-- an operator, if there is one, and its only operand, from after the operator (5.1)
unfoldable pub unary_at : (ℕ → Reader Expr) → Option UnaryOperator → ℕ → Reader Expr
unary_at next None place ts = Err (Unexpected (length ts + 1))
unary_at next (Some o) place ts = next 11 ts >>= λ e. Ok (Unary o place e.0, e.1)

-- an expression in braces, which has a size (5.1.14)
unfoldable pub part_at : (ℕ → Reader Expr) → Reader Expr
part_at next ts = next 0 ts >>= λ e. if is_bare ts e.1 then refused ts else Ok e

-- one more expression in braces, with the comma before it (5.1.14)
unfoldable pub further_part_at : (ℕ → Reader Expr) → Parts → Reader Parts
further_part_at next l ts = do
  comma ← terminal (symbol.Punctuator punctuator.Comma) ts
  part ← part_at next comma.1
  Ok (More l comma.0 part.0, part.1)

-- the further expressions in braces; a number bounds how many (5.1.14)
unfoldable pub further_parts_at : (ℕ → Reader Expr) → ℕ → Parts → Reader Parts
further_parts_at next zero l ts = Ok (l, ts)
further_parts_at next (suc m) l ts =
    if is_next (symbol.Punctuator punctuator.Comma) ts
    then (further_part_at next l ts >>= λ p. further_parts_at next m p.0 p.1)
    else Ok (l, ts)

-- the expressions in braces, from the first on (5.1.14)
unfoldable pub parts_at : (ℕ → Reader Expr) → Reader Parts
parts_at next ts = part_at next ts >>= λ e. further_parts_at next (length e.1) (First e.0) e.1

-- a concatenation, from after its brace (5.1.14)
unfoldable pub concatenation_at : (ℕ → Reader Expr) → ℕ → Reader Expr
concatenation_at next opening ts = do
  parts ← parts_at next ts
  closing ← terminal (symbol.Punctuator punctuator.RightBrace) parts.1
  Ok (Concatenation opening parts.0 closing.0, closing.1)

-- a replication, from after its brace (5.1.14)
unfoldable pub replication_at : (ℕ → Reader Expr) → ℕ → Reader Expr
replication_at next opening ts = do
  count ← bound_at (NUMBER_LIMIT - 1) ts
  inner ← terminal (symbol.Punctuator punctuator.LeftBrace) count.2
  parts ← parts_at next inner.1
  inner_closing ← terminal (symbol.Punctuator punctuator.RightBrace) parts.1
  closing ← terminal (symbol.Punctuator punctuator.RightBrace) inner_closing.1
  Ok (Replication opening count.1 count.0 inner.0 parts.0 inner_closing.0 closing.0, closing.1)

-- a concatenation or a replication, from after its brace (5.1.14)
unfoldable pub braces_at : (ℕ → Reader Expr) → ℕ → Reader Expr
braces_at next opening ts =
    if is_number_before (symbol.Punctuator punctuator.LeftBrace) ts then replication_at next opening ts else concatenation_at next opening ts

-- an operand, from after its first symbol, by that symbol's kind and place (5.1, 5.2)
unfoldable pub operand_by : (ℕ → Reader Expr) → SymbolKind → ℕ → Reader Expr
operand_by next symbol.Name place ts = name_at next place ts
operand_by next (symbol.Number value) place ts = number_at value place ts
operand_by next symbol.ShortBase place ts = Ok (Based place, ts)
operand_by next (symbol.Punctuator punctuator.LeftParenthesis) place ts = group_at next place ts
operand_by next (symbol.Punctuator punctuator.LeftBrace) place ts = braces_at next place ts
operand_by next (symbol.Punctuator sign) place ts = unary_at next (unary_of sign) place ts
operand_by next _ place ts = Err (Unexpected (length ts + 1))

-- an operand: a primary, or an operator and its only operand (5.1, 5.2)
unfoldable pub operand_at : (ℕ → Reader Expr) → Reader Expr
operand_at next [] = refused []
operand_at next (s ∷ ts) = operand_by next s.kind s.place ts

-- ---- operators of two operands, and ?:

-- what an operator gives, if there is one
abbrev pub on_operator : {A : Type 0} → Option BinaryOperator → (BinaryOperator → A) → A → A
on_operator None f otherwise = otherwise
on_operator (Some o) f otherwise = f o

-- an operator and its right operand after the left one, which nests at most so deep (5.1)
unfoldable pub binary_at : (ℕ → Reader Expr) → (limit : ℕ) → BinaryOperator → Expr → Reader Expr
binary_at next limit o left [] = refused []
binary_at next limit o left (s ∷ ts) =
    if nat_le (expr_depth left) limit
    then (next (level o + 1) ts >>= λ e. Ok (Binary o left s.place e.0, e.1))
    else Err (TooDeep (length ts + 1))

-- the operators that bind at least so tightly, with their right operands; a number bounds how many (5.1.2)
unfoldable pub more_at : (ℕ → Reader Expr) → (limit turns least : ℕ) → Expr → Reader Expr
more_at next limit zero least left ts = Ok (left, ts)
more_at next limit (suc m) least left ts =
    on_operator (binds least ts) (λ o. binary_at next limit o left ts >>= λ e. more_at next limit m least e.0 e.1) (Ok (left, ts))

-- ?: and its arms after its condition, which nests at most so deep (5.1.13)
unfoldable pub conditional_at : (ℕ → Reader Expr) → (limit : ℕ) → Expr → Reader Expr
conditional_at next limit condition ts =
    if nat_le (expr_depth condition) limit
    then (terminal (symbol.Punctuator punctuator.Conditional) ts >>= λ q. next 0 q.1 >>= λ a.
    terminal (symbol.Punctuator punctuator.Colon) a.1 >>= λ c. next 0 c.1 >>= λ b. Ok (Conditional condition q.0 a.0 c.0 b.0, b.1))
    else Err (TooDeep (length ts))

-- ?: binds at this level, and is next (5.1.13)
abbrev pub is_choice : ℕ → List Symbol → Bool
is_choice least ts = (least == 0) && is_next (symbol.Punctuator punctuator.Conditional) ts

-- ?: and its arms, if it binds at this level and is next (5.1.13)
unfoldable pub choice_at : (ℕ → Reader Expr) → (limit least : ℕ) → Expr → Reader Expr
choice_at next limit least condition ts =
    if is_choice least ts then conditional_at next limit condition ts else Ok (condition, ts)

-- an operand, the operators after it, and ?: after them (5.1.2)
unfoldable pub chain_at : (ℕ → Reader Expr) → (limit least : ℕ) → Reader Expr
chain_at next limit least ts = do
  first ← operand_at next ts
  left ← more_at next limit (length first.1) least first.0 first.1
  choice_at next limit least left.0 left.1

-- an expression that nests at most so deep, and whose operators bind at least so tightly (5.1.2; profile)
unfoldable pub expr_at : (limit least : ℕ) → Reader Expr
expr_at zero least ts = Err (TooDeep (length ts + 1))
expr_at (suc d) least ts = chain_at (expr_at d) d least ts

-- what is selected of a named object, by an index that nests at most so deep (5.2.1; profile)
abbrev pub selection_at : (limit : ℕ) → Reader Selection
selection_at limit ts = select_at (expr_at limit 0) ts

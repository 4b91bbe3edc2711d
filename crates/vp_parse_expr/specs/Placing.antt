-- Reading expressions straight into a flat list: what each function of the code gives.
use Rattle.std.specs.Prelude.{ℕ, zero, suc, ◌+◌, ◌-◌, max, nat_le, nat_lt, List, [], ◌∷◌, ◌++◌, length, Option, Some, None, Result, Ok, Err, if◌then◌else◌}
use Rattle.vp_lex.specs.declared.token.Punctuator.TheVariants as punctuator
use Rattle.vp_source.specs.declared.expression.Expression as node
use Rattle.vp_source.specs.declared.expression.Expression.TheVariants as node_of
use Rattle.vp_source.specs.declared.expression.Range as range
use Rattle.vp_source.specs.declared.expression.Selection as selection
use Rattle.vp_source.specs.declared.expression.Selection.TheVariants as selection_of
use Rattle.vp_source.specs.declared.operator.BinaryOperator.{BinaryOperator}
use Rattle.vp_source.specs.declared.operator.UnaryOperator.{UnaryOperator}
use Rattle.vp_source.specs.declared.symbol.Symbol.{Symbol}
use Rattle.vp_source.specs.declared.symbol.SymbolKind.{SymbolKind}
use Rattle.vp_source.specs.declared.symbol.SymbolKind.TheVariants as symbol
use Rattle.vp_source.specs.declared.symbol.TheConstants.{NUMBER_LIMIT}
use Rattle.vp_source.specs.Operators.{unary_of, level, binds}
use Rattle.vp_parse_expr.specs.Stopping.{Stop, Unexpected, TooDeep, ◌>>=◌, refused, is_next, terminal, following}
use Rattle.vp_parse_expr.specs.Reading.{is_base_next, is_number_before, is_part, is_bare, is_size_of, on_operator, is_choice}

-- ---- what is read into a list

-- the place of what is read, how deep it nests, the list with it, and the symbols that are left
abbrev pub Made : Type 0
Made = ℕ × ℕ × List node.Expression × List Symbol

-- reads into a list, from these symbols
abbrev pub Placer : Type 0
Placer = List node.Expression → List Symbol → Result Made Stop

-- one more part that nests so deep, and the symbols that are left
abbrev pub made : node.Expression → (depth : ℕ) → List node.Expression → List Symbol → Made
made n depth nodes ts = (length nodes, depth, nodes ++ n ∷ [], ts)

-- what is selected, how deep its index nests, the list with that, and the symbols that are left
abbrev pub MadeSelection : Type 0
MadeSelection = selection.Selection × ℕ × List node.Expression × List Symbol

-- reads a selection into a list, from these symbols
abbrev pub Selector : Type 0
Selector = List node.Expression → List Symbol → Result MadeSelection Stop

-- ---- ranges and literals

-- a number that is at most so great, by the kind of its symbol and from after it (4.3.1)
unfoldable pub bound_by_into : (greatest : ℕ) → SymbolKind → List Symbol → Result (ℕ × List Symbol) Stop
bound_by_into greatest (symbol.Number value) ts = if nat_le value greatest then Ok (value, ts) else Err (Unexpected (length ts + 1))
bound_by_into greatest _ ts = Err (Unexpected (length ts + 1))

-- a number that is at most so great (4.3.1)
unfoldable pub bound_into : (greatest : ℕ) → List Symbol → Result (ℕ × List Symbol) Stop
bound_into greatest [] = refused []
bound_into greatest (s ∷ ts) = bound_by_into greatest s.kind ts

-- a range (4.3.1)
unfoldable pub range_into : List Symbol → Result (range.Range × List Symbol) Stop
range_into ts = do
  rest ← following (symbol.Punctuator punctuator.LeftBracket) ts
  msb ← bound_into 65535 rest
  rest ← following (symbol.Punctuator punctuator.Colon) msb.1
  lsb ← bound_into msb.0 rest
  rest ← following (symbol.Punctuator punctuator.RightBracket) lsb.1
  Ok (record { msb = msb.0; lsb = lsb.0 }, rest)

-- a literal with a size, from after its size (3.5.1)
unfoldable pub sized_into : (size place : ℕ) → Placer
sized_into size place nodes [] = Err (Unexpected 1)
sized_into size place nodes (s ∷ ts) =
    if is_size_of size s.kind then Ok (made (node_of.Literal place size s.place) 1 nodes ts) else Err (Unexpected (length ts + 2))

-- a literal with a size, or a number, from after its first symbol (3.5.1)
unfoldable pub number_into : (value place : ℕ) → Placer
number_into value place nodes ts =
    if is_base_next ts
    then sized_into value place nodes ts
    else (if nat_lt value NUMBER_LIMIT then Ok (made (node_of.Number place value) 1 nodes ts) else Err (Unexpected (length ts + 1)))

-- a literal with a size, by its first symbol's kind and place (3.5.1)
unfoldable pub literal_by_into : SymbolKind → ℕ → Placer
literal_by_into (symbol.Number size) place nodes ts =
    if is_base_next ts then sized_into size place nodes ts else Err (Unexpected (length ts + 1))
literal_by_into _ place nodes ts = Err (Unexpected (length ts + 1))

-- a literal with a size (3.5.1)
unfoldable pub literal_into : Placer
literal_into nodes [] = refused []
literal_into nodes (s ∷ ts) = literal_by_into s.kind s.place nodes ts

-- a literal without a size, from after it (3.5.1)
unfoldable pub based_into : (digits : ℕ) → Placer
based_into digits nodes ts = Ok (made (node_of.Based digits) 1 nodes ts)

-- ---- selections

-- a bit of a named object, with the reader of its index (5.2.1)
unfoldable pub bit_into : Placer → Selector
bit_into index nodes ts = do
  rest ← following (symbol.Punctuator punctuator.LeftBracket) ts
  value ← index nodes rest
  rest ← following (symbol.Punctuator punctuator.RightBracket) value.3
  Ok (selection_of.Bit value.0, value.1, value.2, rest)

-- a part of a named object (5.2.1)
unfoldable pub part_select_into : Selector
part_select_into nodes ts = do
  range ← range_into ts
  Ok (selection_of.Part range.0, 0, nodes, range.1)

-- what is selected of a named object, with the reader of an index (5.2.1)
unfoldable pub select_into : Placer → Selector
select_into index nodes ts =
    if is_next (symbol.Punctuator punctuator.LeftBracket) ts
    then (if is_part ts then part_select_into nodes ts else bit_into index nodes ts)
    else Ok (selection_of.Whole, 0, nodes, ts)

-- ---- primaries

-- a name and what is selected of it, from after the name (5.2.1)
unfoldable pub name_into : (ℕ → Placer) → ℕ → Placer
name_into next place nodes ts = do
  selected ← select_into (next 0) nodes ts
  Ok (made (node_of.Name place selected.0) (selected.1 + 1) selected.2 selected.3)

-- an expression in parentheses, from after the first (5.1.2)
unfoldable pub group_into : (ℕ → Placer) → Placer
group_into next nodes ts = do
  value ← next 0 nodes ts
  rest ← following (symbol.Punctuator punctuator.RightParenthesis) value.3
  Ok (value.0, value.1 + 1, value.2, rest)

-- an operator, if there is one, and its only operand, from after the operator (5.1)
unfoldable pub unary_into : (ℕ → Placer) → Option UnaryOperator → ℕ → Placer
unary_into next None place nodes ts = Err (Unexpected (length ts + 1))
unary_into next (Some o) place nodes ts = next 11 nodes ts >>= λ e. Ok (made (node_of.Unary o place e.0) (e.1 + 1) e.2 e.3)

-- an expression in braces, which has a size (5.1.14)
unfoldable pub part_into : (ℕ → Placer) → Placer
part_into next nodes ts = next 0 nodes ts >>= λ e. if is_bare ts e.3 then refused ts else Ok e

-- one more expression in braces, with the comma before it (5.1.14)
unfoldable pub further_part_into : (ℕ → Placer) → (opening list depth : ℕ) → Placer
further_part_into next opening list depth nodes ts = do
  rest ← following (symbol.Punctuator punctuator.Comma) ts
  part ← part_into next nodes rest
  Ok (made (node_of.Appended opening list part.0) (max depth part.1) part.2 part.3)

-- the further expressions in braces; a number bounds how many (5.1.14)
unfoldable pub further_parts_into : (ℕ → Placer) → (turns opening list depth : ℕ) → Placer
further_parts_into next zero opening list depth nodes ts = Ok (list, depth, nodes, ts)
further_parts_into next (suc m) opening list depth nodes ts =
    if is_next (symbol.Punctuator punctuator.Comma) ts
    then (further_part_into next opening list depth nodes ts >>= λ p. further_parts_into next m opening p.0 p.1 p.2 p.3)
    else Ok (list, depth, nodes, ts)

-- the first expression in braces (5.1.14)
unfoldable pub first_part_into : (ℕ → Placer) → (opening : ℕ) → Placer
first_part_into next opening nodes ts = do
  part ← part_into next nodes ts
  Ok (made (node_of.Concatenation opening part.0) part.1 part.2 part.3)

-- the expressions in braces, from the first on (5.1.14)
unfoldable pub parts_into : (ℕ → Placer) → (opening : ℕ) → Placer
parts_into next opening nodes ts =
    first_part_into next opening nodes ts >>= λ p. further_parts_into next (length p.3) opening p.0 p.1 p.2 p.3

-- a concatenation, from after its brace (5.1.14)
unfoldable pub concatenation_into : (ℕ → Placer) → (opening : ℕ) → Placer
concatenation_into next opening nodes ts = do
  parts ← parts_into next opening nodes ts
  rest ← following (symbol.Punctuator punctuator.RightBrace) parts.3
  Ok (parts.0, parts.1 + 1, parts.2, rest)

-- a replication, from after its brace (5.1.14)
unfoldable pub replication_into : (ℕ → Placer) → (opening : ℕ) → Placer
replication_into next opening nodes ts = do
  count ← bound_into (NUMBER_LIMIT - 1) ts
  inner ← terminal (symbol.Punctuator punctuator.LeftBrace) count.1
  list ← concatenation_into next inner.0 nodes inner.1
  rest ← following (symbol.Punctuator punctuator.RightBrace) list.3
  Ok (made (node_of.Replication opening count.0 list.0) list.1 list.2 rest)

-- a concatenation or a replication, from after its brace (5.1.14)
unfoldable pub braces_into : (ℕ → Placer) → (opening : ℕ) → Placer
braces_into next opening nodes ts =
    if is_number_before (symbol.Punctuator punctuator.LeftBrace) ts
    then replication_into next opening nodes ts
    else concatenation_into next opening nodes ts

-- an operand, from after its first symbol, by that symbol's kind and place (5.1, 5.2)
unfoldable pub operand_by_into : (ℕ → Placer) → SymbolKind → ℕ → Placer
operand_by_into next symbol.Name place nodes ts = name_into next place nodes ts
operand_by_into next (symbol.Number value) place nodes ts = number_into value place nodes ts
operand_by_into next symbol.ShortBase place nodes ts = based_into place nodes ts
operand_by_into next (symbol.Punctuator punctuator.LeftParenthesis) place nodes ts = group_into next nodes ts
operand_by_into next (symbol.Punctuator punctuator.LeftBrace) place nodes ts = braces_into next place nodes ts
operand_by_into next (symbol.Punctuator sign) place nodes ts = unary_into next (unary_of sign) place nodes ts
operand_by_into next _ place nodes ts = Err (Unexpected (length ts + 1))

-- an operand: a primary, or an operator and its only operand (5.1, 5.2)
unfoldable pub operand_into : (ℕ → Placer) → Placer
operand_into next nodes [] = refused []
operand_into next nodes (s ∷ ts) = operand_by_into next s.kind s.place nodes ts

-- ---- operators of two operands, and ?:

-- an operator and its right operand after the left one, which nests at most so deep (5.1)
unfoldable pub binary_into : (ℕ → Placer) → (limit : ℕ) → BinaryOperator → (left depth : ℕ) → Placer
binary_into next limit o left depth nodes [] = refused []
binary_into next limit o left depth nodes (s ∷ ts) =
    if nat_le depth limit
    then (next (level o + 1) nodes ts >>= λ e. Ok (made (node_of.Binary o s.place left e.0) (max depth e.1 + 1) e.2 e.3))
    else Err (TooDeep (length ts + 1))

-- the operators that bind at least so tightly, with their right operands; a number bounds how many (5.1.2)
unfoldable pub more_into : (ℕ → Placer) → (limit turns least left depth : ℕ) → Placer
more_into next limit zero least left depth nodes ts = Ok (left, depth, nodes, ts)
more_into next limit (suc m) least left depth nodes ts =
    on_operator (binds least ts)
    (λ o. binary_into next limit o left depth nodes ts >>= λ e. more_into next limit m least e.0 e.1 e.2 e.3)
    (Ok (left, depth, nodes, ts))

-- ?: and its arms after its condition, which nests at most so deep (5.1.13)
unfoldable pub conditional_into : (ℕ → Placer) → (limit condition depth : ℕ) → Placer
conditional_into next limit condition depth nodes ts =
    if nat_le depth limit
    then (following (symbol.Punctuator punctuator.Conditional) ts >>= λ r. next 0 nodes r >>= λ a.
    following (symbol.Punctuator punctuator.Colon) a.3 >>= λ r. next 0 a.2 r >>= λ b.
    Ok (made (node_of.Conditional condition a.0 b.0) (max depth (max a.1 b.1) + 1) b.2 b.3))
    else Err (TooDeep (length ts))

-- ?: and its arms, if it binds at this level and is next (5.1.13)
unfoldable pub choice_into : (ℕ → Placer) → (limit least condition depth : ℕ) → Placer
choice_into next limit least condition depth nodes ts =
    if is_choice least ts then conditional_into next limit condition depth nodes ts else Ok (condition, depth, nodes, ts)

-- an operand, the operators after it, and ?: after them (5.1.2)
unfoldable pub chain_into : (ℕ → Placer) → (limit least : ℕ) → Placer
chain_into next limit least nodes ts = do
  first ← operand_into next nodes ts
  left ← more_into next limit (length first.3) least first.0 first.1 first.2 first.3
  choice_into next limit least left.0 left.1 left.2 left.3

-- an expression that nests at most so deep, and whose operators bind at least so tightly (5.1.2; profile)
unfoldable pub expr_into : (limit least : ℕ) → Placer
expr_into zero least nodes ts = Err (TooDeep (length ts + 1))
expr_into (suc d) least nodes ts = chain_into (expr_into d) d least nodes ts

-- what is selected of a named object, by an index that nests at most so deep (5.2.1; profile)
abbrev pub selection_into : (limit : ℕ) → Selector
selection_into limit nodes ts = select_into (expr_into limit 0) nodes ts

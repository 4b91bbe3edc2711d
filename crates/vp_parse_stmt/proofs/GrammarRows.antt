-- Reading statements, computed on examples. Each row is an equation that holds by computation.
use Rattle.std.proofs.Common.{◌≡◌, ℕ, ◌+◌, List, [], ◌∷◌, Result, Ok, Err, refl}
use Rattle.std.specs.Prelude.{false, true, Some, None}
use Rattle.vp_lex.specs.declared.keyword.Keyword.{Keyword}
use Rattle.vp_lex.specs.declared.keyword.Keyword.TheVariants as keyword
use Rattle.vp_lex.specs.declared.token.Punctuator.{Punctuator}
use Rattle.vp_lex.specs.declared.token.Punctuator.TheVariants as punctuator
use Rattle.vp_source.specs.declared.symbol.Symbol.{Symbol}
use Rattle.vp_source.specs.declared.symbol.SymbolKind.{SymbolKind}
use Rattle.vp_source.specs.declared.symbol.SymbolKind.TheVariants as symbol
use Rattle.vp_source.specs.Kinds.{symbol_at}
use Rattle.vp_parse_expr.specs.Stopping.{Stop, Unexpected, TooDeep, terminal}
use Rattle.vp_source.specs.ExprGrammar.{Expr, Name, Based, Whole}
use Rattle.vp_parse_expr.specs.Reading.{bound_by, bound_at, range_at, sized_at, number_at, literal_by, literal_at, bit_at, part_select_at, select_at, name_at, group_at, unary_at, part_at, further_part_at, further_parts_at, parts_at, concatenation_at, replication_at, braces_at, operand_by, operand_at, binary_at, more_at, conditional_at, choice_at, chain_at, expr_at}
use Rattle.vp_source.specs.declared.expression.Selection.TheVariants as selection_of
use Rattle.vp_source.specs.declared.statement.Choice as choice
use Rattle.vp_source.specs.declared.statement.Statement.TheVariants as statement_of
use Rattle.vp_source.specs.StmtGrammar as grammar
use Rattle.vp_source.specs.StmtLayout.{Lists, no_parts, put_stmt}
use Rattle.vp_parse_stmt.specs.Reading.{stmts_at, amount_by, amount_at, grouped_delay_at, delay_at, later_at, hold_at, blocking_at, assign_at, nonblocking_at, set_at, assignment_at, block_at, edged_at, term_at, separator_by, separator_at, joined_at, further_terms_at, terms_at, terms_event_at, star_event_at, event_by, event_at, awaited_at, delayed_at, condition_at, guarded_at, wait_at, while_at, forever_at, second_at, else_at, if_at, named_blocking_at, heading_at, for_at, given_at, argument_at, finish_at, further_label_at, further_labels_at, labels_at, labels_item_at, colon_at, default_item_at, item_at, further_items_at, items_at, case_at, stmt_by, form_at, stmt_at}

-- kinds, each at its place from this one on
abbrev placed : ℕ → List SymbolKind → List Symbol
placed n [] = []
placed n (k ∷ ks) = symbol_at k n ∷ placed (n + 1) ks

abbrev name : SymbolKind
name = symbol.Name

-- the kind of a punctuator
abbrev sign : Punctuator → SymbolKind
sign p = symbol.Punctuator p

-- the kind of a keyword
abbrev word : Keyword → SymbolKind
word k = symbol.Keyword k

-- a name alone, at a place
abbrev at : ℕ → Expr
at place = Name place Whole

abbrev opening : SymbolKind
opening = sign punctuator.LeftParenthesis

abbrev closing : SymbolKind
closing = sign punctuator.RightParenthesis

abbrev semicolon : SymbolKind
semicolon = sign punctuator.Semicolon

-- what is read from symbols of these kinds, placed from 0 on, as a statement that nests at most 3 deep
unfoldable read_kinds : List SymbolKind → Result (grammar.Stmt × List Symbol) Stop
unfolding terminal bound_by bound_at range_at sized_at number_at literal_by literal_at bit_at part_select_at select_at name_at group_at unary_at part_at further_part_at further_parts_at parts_at concatenation_at replication_at braces_at operand_by operand_at binary_at more_at conditional_at choice_at chain_at expr_at stmts_at amount_by amount_at grouped_delay_at delay_at later_at hold_at blocking_at assign_at nonblocking_at set_at assignment_at block_at edged_at term_at separator_by separator_at joined_at further_terms_at terms_at terms_event_at star_event_at event_by event_at awaited_at delayed_at condition_at guarded_at wait_at while_at forever_at second_at else_at if_at named_blocking_at heading_at for_at given_at argument_at finish_at further_label_at further_labels_at labels_at labels_item_at colon_at default_item_at item_at further_items_at items_at case_at stmt_by form_at stmt_at
read_kinds kinds = stmt_at 4 3 (placed 0 kinds)

-- an else belongs to the nearest if (9.4)
nearest_if : read_kinds (word keyword.If ∷ opening ∷ name ∷ closing ∷ word keyword.If ∷ opening ∷ name ∷ closing ∷ semicolon ∷ word keyword.Else ∷ semicolon ∷ [])
    ≡ Ok (grammar.When 0 1 (at 2) 3 (grammar.Choose 4 5 (at 6) 7 (grammar.Null 8) 9 (grammar.Null 10)), [])
unfolding read_kinds
nearest_if = refl

-- a number and then a literal without a size after a nonblocking assignment's # (9.2.2)
held_back : read_kinds (name ∷ sign punctuator.LessOrEqual ∷ sign punctuator.Hash ∷ symbol.Number 0 ∷ symbol.ShortBase ∷ semicolon ∷ [])
    ≡ Ok (grammar.Nonblocking 0 Whole 1 (grammar.Later 2 (grammar.Plain 0 3)) (Based 4) 5, [])
unfolding read_kinds
held_back = refl

-- a number in parentheses after a # (9.7.1)
grouped_delay : read_kinds (sign punctuator.Hash ∷ opening ∷ symbol.Number 5 ∷ closing ∷ semicolon ∷ []) ≡ Ok (grammar.Delayed 0 (grammar.Grouped 1 5 2 3) (grammar.Null 4), [])
unfolding read_kinds
grouped_delay = refl

-- a name after a # (profile)
named_delay : read_kinds (sign punctuator.Hash ∷ name ∷ semicolon ∷ []) ≡ Err (Unexpected 2)
unfolding read_kinds
named_delay = refl

-- or and commas between the terms of an event (9.7.4)
three_terms : read_kinds (sign punctuator.At ∷ opening ∷ word keyword.Posedge ∷ name ∷ word keyword.Or ∷ name ∷ sign punctuator.Comma ∷ word keyword.Negedge ∷ name ∷ closing ∷ semicolon ∷ [])
    ≡ Ok (grammar.Awaited 0 (grammar.Terms 1 (grammar.Further (grammar.Edged grammar.Posedge 2 3) grammar.Or 4 (grammar.Further (grammar.Level 5) grammar.Comma 6 (grammar.Single (grammar.Edged grammar.Negedge 7 8)))) 9) (grammar.Null 10), [])
unfolding read_kinds
three_terms = refl

-- any change, in parentheses (9.7.5)
any_change : read_kinds (sign punctuator.At ∷ opening ∷ sign punctuator.Asterisk ∷ closing ∷ semicolon ∷ []) ≡ Ok (grammar.Awaited 0 (grammar.AnyGrouped 1 2 3) (grammar.Null 4), [])
unfolding read_kinds
any_change = refl

-- a for (9.6)
whole_for : read_kinds (word keyword.For ∷ opening ∷ name ∷ sign punctuator.Equals ∷ name ∷ semicolon ∷ name ∷ semicolon ∷ name ∷ sign punctuator.Equals ∷ name ∷ closing ∷ semicolon ∷ [])
    ≡ Ok (grammar.For 0 1 2 Whole 3 (at 4) 5 (at 6) 7 8 Whole 9 (at 10) 11 (grammar.Null 12), [])
unfolding read_kinds
whole_for = refl

-- two labels, and a default without a colon (9.5)
whole_case : read_kinds (word keyword.Casez ∷ opening ∷ name ∷ closing ∷ name ∷ sign punctuator.Comma ∷ name ∷ sign punctuator.Colon ∷ semicolon ∷ word keyword.Default ∷ semicolon ∷ word keyword.Endcase ∷ [])
    ≡ Ok (grammar.Case grammar.Wild 0 1 (at 2) 3 (grammar.More (grammar.Labels (grammar.Also (at 4) 5 (grammar.Only (at 6))) 7 (grammar.Null 8)) (grammar.Last (grammar.Default 9 grammar.Unmarked (grammar.Null 10)))) 11, [])
unfolding read_kinds
whole_case = refl

-- a second default is reported at its keyword (9.5)
second_default : read_kinds (word keyword.Case ∷ opening ∷ name ∷ closing ∷ word keyword.Default ∷ semicolon ∷ word keyword.Default ∷ semicolon ∷ word keyword.Endcase ∷ []) ≡ Err (Unexpected 3)
unfolding read_kinds
second_default = refl

-- a case without items (9.5)
no_items : read_kinds (word keyword.Case ∷ opening ∷ name ∷ closing ∷ word keyword.Endcase ∷ []) ≡ Err (Unexpected 1)
unfolding read_kinds
no_items = refl

-- the end of a simulation (17.4.1)
ended : read_kinds (symbol.Finish ∷ opening ∷ symbol.Number 1 ∷ closing ∷ semicolon ∷ []) ≡ Ok (grammar.Finish 0 (grammar.Given 1 1 2 3) 4, [])
unfolding read_kinds
ended = refl

-- a fourth statement within others (profile)
too_deep : read_kinds (word keyword.Forever ∷ word keyword.Forever ∷ word keyword.Forever ∷ semicolon ∷ []) ≡ Err (TooDeep 1)
unfolding read_kinds
too_deep = refl

-- the loop of a for after its step and its body, and the whole after the loop
loop_before_whole : (put_stmt (grammar.For 0 1 2 Whole 3 (at 4) 5 (at 6) 7 8 Whole 9 (at 10) 11 (grammar.Null 12)) no_parts).1.statements
    ≡ statement_of.Assign 2 selection_of.Whole 0 ∷ statement_of.Assign 8 selection_of.Whole 2 ∷ statement_of.Null ∷ statement_of.While 1 2 (Some 1) ∷ statement_of.For 0 3 ∷ []
loop_before_whole = refl

-- a choice for a label, by its place
abbrev by_label : (label body : ℕ) → choice.Choice
by_label label body = record { label = Some label; body = body }

-- a choice for anything else
abbrev otherwise : (body : ℕ) → choice.Choice
otherwise body = record { label = None; body = body }

-- a default, and then an item with two labels
abbrev two_items : grammar.Items
two_items = grammar.More (grammar.Default 4 grammar.Unmarked (grammar.Null 5)) (grammar.Last (grammar.Labels (grammar.Also (at 6) 7 (grammar.Only (at 8))) 9 (grammar.Null 10)))

-- a choice for anything else, and one for each label, in the order of the text
choices_in_order : (put_stmt (grammar.Case grammar.Wild 0 1 (at 2) 3 two_items 11) no_parts).1.choices ≡ otherwise 0 ∷ by_label 1 1 ∷ by_label 2 1 ∷ []
choices_in_order = refl

-- a case after the statements of its items, with all its choices
case_after_items : (put_stmt (grammar.Case grammar.Wild 0 1 (at 2) 3 two_items 11) no_parts).1.statements
    ≡ statement_of.Null ∷ statement_of.Null ∷ statement_of.Case true 0 (record { first = 0; end = 3 }) ∷ []
case_after_items = refl

-- a case in the first of two items of another, where two choices lie before
abbrev nested : Lists
nested = (put_stmt (grammar.Case grammar.Exact 0 1 (at 2) 3 (grammar.More (grammar.Labels (grammar.Only (at 4)) 5 (grammar.Case grammar.Exact 6 7 (at 8) 9 (grammar.Last (grammar.Labels (grammar.Only (at 10)) 11 (grammar.Null 12))) 13)) (grammar.Last (grammar.Default 14 grammar.Unmarked (grammar.Null 15)))) 16) (record no_parts { choices = otherwise 7 ∷ otherwise 8 ∷ [] })).1

-- the inner case's choice lies before those of the outer one
inner_choices_first : nested.choices ≡ otherwise 7 ∷ otherwise 8 ∷ by_label 3 0 ∷ by_label 1 1 ∷ otherwise 2 ∷ []
inner_choices_first = refl

-- each case spans its own choices
own_choices_spanned : nested.statements
    ≡ statement_of.Null ∷ statement_of.Case false 2 (record { first = 2; end = 3 }) ∷ statement_of.Null ∷ statement_of.Case false 0 (record { first = 3; end = 5 }) ∷ []
own_choices_spanned = refl

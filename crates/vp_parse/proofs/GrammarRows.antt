-- Reading, computed on examples. Each row is an equation that holds by computation.
use Rattle.std.proofs.Common.{◌≡◌, ℕ, zero, suc, ◌+◌, ◌-◌, List, [], ◌∷◌, ◌++◌, Some, None, Result, Ok, Err, refl}
use Rattle.vp_lex.specs.declared.keyword.Keyword.TheVariants as keyword
use Rattle.vp_lex.specs.declared.token.Punctuator.TheVariants as punctuator
use Rattle.vp_source.specs.declared.symbol.Symbol.{Symbol}
use Rattle.vp_source.specs.declared.symbol.SymbolKind.{SymbolKind}
use Rattle.vp_source.specs.declared.symbol.SymbolKind.TheVariants as symbol
use Rattle.vp_source.specs.Kinds.{symbol_at}
use Rattle.vp_source.specs.ExprGrammar.{Name, Sized, Whole, Part}
use Rattle.vp_parse_expr.specs.Stopping.{Stop, Unexpected, TooDeep, terminal}
use Rattle.vp_parse_expr.specs.Reading.{bound_by, bound_at, range_at, sized_at, number_at, bit_at, part_select_at, select_at, name_at, group_at, unary_at, part_at, further_part_at, further_parts_at, parts_at, concatenation_at, replication_at, braces_at, operand_by, operand_at, binary_at, more_at, conditional_at, choice_at, chain_at, expr_at, literal_by, literal_at}
use Rattle.vp_source.specs.StmtGrammar as statement
use Rattle.vp_source.specs.StmtGrammar.{Stmt, Assign, Block, Empty, Then}
use Rattle.vp_source.specs.Grammar.{Ordered, Named, Unconnected, Connected, Nets, Regs, LocalParameters, Instances, Plain, Valued, Instance, Item, Declares, Initial, Always, Input, Declared, Bare, NoHeader, Ports, Derivation}
use Rattle.vp_parse_stmt.specs.Reading.{stmts_at, amount_by, amount_at, grouped_delay_at, delay_at, later_at, hold_at, blocking_at, assign_at, nonblocking_at, set_at, assignment_at, block_at, edged_at, term_at, separator_by, separator_at, joined_at, further_terms_at, terms_at, terms_event_at, star_event_at, event_by, event_at, awaited_at, condition_at, guarded_at, second_at, else_at, if_at, stmt_by, form_at, stmt_at}
use Rattle.vp_parse.specs.Reading.{further_at, width_at, value_at, ordered_at, named_at, connection_at, connected_at, connections_at, valued_at, net_at, instance_at, declarator_by, declarator_at, declarators_at, ranged_at, procedure_at, item_by, item_at, items_at, wire_at, output_at, direction_by, direction_at, declared_at, port_at, ports_at, listed_at, parentheses_at, header_at, module_at, modules_at, source_at, read}

-- ---- symbols

-- kinds, each at its place from this one on
abbrev placed : ℕ → List SymbolKind → List Symbol
placed n [] = []
placed n (k ∷ ks) = symbol_at k n ∷ placed (n + 1) ks

-- the kinds of `module` NAME `;`
abbrev head : List SymbolKind
head = symbol.Keyword keyword.Module ∷ symbol.Name ∷ symbol.Punctuator punctuator.Semicolon ∷ []

abbrev reg : SymbolKind
reg = symbol.Keyword keyword.Reg

abbrev initial : SymbolKind
initial = symbol.Keyword keyword.Initial

abbrev always : SymbolKind
always = symbol.Keyword keyword.Always

abbrev if_word : SymbolKind
if_word = symbol.Keyword keyword.If

abbrev else_word : SymbolKind
else_word = symbol.Keyword keyword.Else

abbrev begin : SymbolKind
begin = symbol.Keyword keyword.Begin

abbrev end : SymbolKind
end = symbol.Keyword keyword.End

abbrev endmodule : SymbolKind
endmodule = symbol.Keyword keyword.Endmodule

abbrev equals : SymbolKind
equals = symbol.Punctuator punctuator.Equals

abbrev comma : SymbolKind
comma = symbol.Punctuator punctuator.Comma

abbrev left : SymbolKind
left = symbol.Punctuator punctuator.LeftBracket

abbrev right : SymbolKind
right = symbol.Punctuator punctuator.RightBracket

abbrev colon : SymbolKind
colon = symbol.Punctuator punctuator.Colon

abbrev semicolon : SymbolKind
semicolon = symbol.Punctuator punctuator.Semicolon

-- what is read from symbols of these kinds, placed from 0 on
unfoldable read_kinds : List SymbolKind → Result Derivation Stop
unfolding terminal bound_by bound_at range_at sized_at number_at bit_at part_select_at select_at name_at group_at unary_at part_at further_part_at further_parts_at parts_at concatenation_at replication_at braces_at operand_by operand_at binary_at more_at conditional_at choice_at chain_at expr_at literal_by literal_at stmts_at amount_by amount_at grouped_delay_at delay_at later_at hold_at blocking_at assign_at nonblocking_at set_at assignment_at block_at edged_at term_at separator_by separator_at joined_at further_terms_at terms_at terms_event_at star_event_at event_by event_at awaited_at condition_at guarded_at second_at else_at if_at stmt_by form_at stmt_at further_at width_at value_at ordered_at named_at connection_at connected_at connections_at valued_at net_at instance_at declarator_by declarator_at declarators_at ranged_at procedure_at item_by item_at items_at wire_at output_at direction_by direction_at declared_at port_at ports_at listed_at parentheses_at header_at module_at modules_at source_at
read_kinds kinds = read (placed 0 kinds)

-- so many kinds of one sort
abbrev times : ℕ → SymbolKind → List SymbolKind
times zero k = []
times (suc n) k = k ∷ times n k

-- so many blocks within each other, and a = b; in the innermost
abbrev nested : ℕ → List SymbolKind
nested n = head ++ initial ∷ times n begin ++ symbol.Name ∷ equals ∷ symbol.Name ∷ semicolon ∷ times n end ++ endmodule ∷ []

-- ---- what is read

-- no symbols
row_nothing : read_kinds [] ≡ Ok []
unfolding read_kinds
row_nothing = refl

-- module m; endmodule
row_module : read_kinds (head ++ endmodule ∷ []) ≡ Ok (record { keyword = 0; name = 1; header = NoHeader; semicolon = 2; items = []; endmodule = 3 } ∷ [])
unfolding read_kinds
row_module = refl

-- module m; reg a, b; initial begin a = 1'b1; end endmodule
row_items : read_kinds (head ++ reg ∷ symbol.Name ∷ comma ∷ symbol.Name ∷ semicolon ∷ initial ∷ begin ∷ symbol.Name ∷ equals ∷ symbol.Number 1 ∷ symbol.Base ∷ semicolon ∷ end ∷ endmodule ∷ [])
    ≡ Ok (record {
      keyword = 0;
      name = 1;
      header = NoHeader;
      semicolon = 2;
      items = Declares (Regs 3 None) (Plain 4) (record { comma = 5; part = Plain 6 } ∷ []) 7 ∷ Initial 8 (Block 9 (Then (Assign 10 Whole 11 (Sized 12 1 symbol.Base 13) 14) Empty) 15) ∷ [];
      endmodule = 16;
    } ∷ [])
unfolding read_kinds
row_items = refl

-- module m; initial a = b; endmodule
row_name : read_kinds (head ++ initial ∷ symbol.Name ∷ equals ∷ symbol.Name ∷ semicolon ∷ endmodule ∷ [])
    ≡ Ok (record { keyword = 0; name = 1; header = NoHeader; semicolon = 2; items = Initial 3 (Assign 4 Whole 5 (Name 6 Whole) 7) ∷ []; endmodule = 8 } ∷ [])
unfolding read_kinds
row_name = refl

-- so many blocks within each other, from the place of the outermost begin to that of its end
abbrev blocks : (n first last : ℕ) → Stmt
blocks zero first last = Assign first Whole (first + 1) (Name (first + 2) Whole) (first + 3)
blocks (suc n) first last = Block first (Then (blocks n (first + 1) (last - 1)) Empty) last

-- 63 blocks: the statement within them has depth 64
row_deep : read_kinds (nested 63) ≡ Ok (record { keyword = 0; name = 1; header = NoHeader; semicolon = 2; items = Initial 3 (blocks 63 4 133) ∷ []; endmodule = 134 } ∷ [])
unfolding read_kinds
row_deep = refl

-- module m; reg [7:0] a; initial a[3:0] = b; endmodule
row_range : read_kinds (head ++ reg ∷ left ∷ symbol.Number 7 ∷ colon ∷ symbol.Number 0 ∷ right ∷ symbol.Name ∷ semicolon ∷ initial ∷ symbol.Name ∷ left ∷ symbol.Number 3 ∷ colon ∷ symbol.Number 0 ∷ right ∷ equals ∷ symbol.Name ∷ semicolon ∷ endmodule ∷ [])
    ≡ Ok (record {
      keyword = 0;
      name = 1;
      header = NoHeader;
      semicolon = 2;
      items =
          Declares (Regs 3 (Some (record { opening = 4; msb_place = 5; msb = 7; colon = 6; lsb_place = 7; lsb = 0; closing = 8 }))) (Plain 9) [] 10
          ∷ Initial 11 (Assign 12 (Part (record { opening = 13; msb_place = 14; msb = 3; colon = 15; lsb_place = 16; lsb = 0; closing = 17 })) 18 (Name 19 Whole) 20)
          ∷ [];
      endmodule = 21;
    } ∷ [])
unfolding read_kinds
row_range = refl

-- module m; endmodule module n; endmodule
row_second : read_kinds (head ++ endmodule ∷ head ++ endmodule ∷ [])
    ≡ Ok (record { keyword = 0; name = 1; header = NoHeader; semicolon = 2; items = []; endmodule = 3 }
    ∷ record { keyword = 4; name = 5; header = NoHeader; semicolon = 6; items = []; endmodule = 7 } ∷ [])
unfolding read_kinds
row_second = refl

abbrev opening : SymbolKind
opening = symbol.Punctuator punctuator.LeftParenthesis

abbrev closing : SymbolKind
closing = symbol.Punctuator punctuator.RightParenthesis

-- a module with this item alone
abbrev only_item : Item → (endmodule : ℕ) → Derivation
only_item i last = record { keyword = 0; name = 1; header = NoHeader; semicolon = 2; items = i ∷ []; endmodule = last } ∷ []

-- module m(input a, b); endmodule
row_ports : read_kinds (symbol.Keyword keyword.Module ∷ symbol.Name ∷ opening ∷ symbol.Keyword keyword.Input ∷ symbol.Name ∷ comma ∷ symbol.Name ∷ closing ∷ semicolon ∷ endmodule ∷ [])
    ≡ Ok (record {
      keyword = 0;
      name = 1;
      header = Ports 2 (Some (record { first = Declared (Input 3 None) None 4; further = record { comma = 5; part = Bare 6 } ∷ [] })) 7;
      semicolon = 8;
      items = [];
      endmodule = 9;
    } ∷ [])
unfolding read_kinds
row_ports = refl

-- module m; wire w = a; endmodule
row_wire : read_kinds (head ++ symbol.Keyword keyword.Wire ∷ symbol.Name ∷ equals ∷ symbol.Name ∷ semicolon ∷ endmodule ∷ [])
    ≡ Ok (only_item (Declares (Nets 3 None) (Valued 4 5 (Name 6 Whole)) [] 7) 8)
unfolding read_kinds
row_wire = refl

-- module m; localparam p = 1'b1; endmodule
row_localparam : read_kinds (head ++ symbol.Keyword keyword.Localparam ∷ symbol.Name ∷ equals ∷ symbol.Number 1 ∷ symbol.Base ∷ semicolon ∷ endmodule ∷ [])
    ≡ Ok (only_item (Declares (LocalParameters 3) (Valued 4 5 (Sized 6 1 symbol.Base 7)) [] 8) 9)
unfolding read_kinds
row_localparam = refl

-- module m; n u(), v(.p(a), .q()), w(, a); endmodule
row_instances : read_kinds (head ++ symbol.Name ∷ symbol.Name ∷ opening ∷ closing ∷ comma
    ∷ symbol.Name ∷ opening ∷ symbol.Punctuator punctuator.Period ∷ symbol.Name ∷ opening ∷ symbol.Name ∷ closing ∷ comma ∷ symbol.Punctuator punctuator.Period ∷ symbol.Name ∷ opening ∷ closing ∷ closing ∷ comma
    ∷ symbol.Name ∷ opening ∷ comma ∷ symbol.Name ∷ closing ∷ semicolon ∷ endmodule ∷ [])
    ≡ Ok (only_item (Declares (Instances 3) (Instance 4 5 Unconnected 6)
    (record { comma = 7; part = Instance 8 9 (Connected (Named 10 11 12 (Some (Name 13 Whole)) 14) (record { comma = 15; part = Named 16 17 18 None 19 } ∷ [])) 20 }
    ∷ record { comma = 21; part = Instance 22 23 (Connected (Ordered None) (record { comma = 24; part = Ordered (Some (Name 25 Whole)) } ∷ [])) 26 } ∷ []) 27) 28)
unfolding read_kinds
row_instances = refl

-- the derivation of `module m ; always @ ( posedge c ) if ( a ) b <= # 2 c ; else ; endmodule`
abbrev pub clocked : Derivation
clocked =
    only_item (Always 3 (statement.Awaited 4 (statement.Terms 5 (statement.Single (statement.Edged statement.Posedge 6 7)) 8)
    (statement.Choose 9 10 (Name 11 Whole) 12
    (statement.Nonblocking 13 Whole 14 (statement.Later 15 (statement.Plain 2 16)) (Name 17 Whole) 18) 19 (statement.Null 20)))) 21

-- module m; always @(posedge c) if (a) b <= #2 c; else ; endmodule
row_always : read_kinds (head ++ always ∷ symbol.Punctuator punctuator.At ∷ opening ∷ symbol.Keyword keyword.Posedge ∷ symbol.Name ∷ closing
    ∷ if_word ∷ opening ∷ symbol.Name ∷ closing ∷ symbol.Name ∷ symbol.Punctuator punctuator.LessOrEqual ∷ symbol.Punctuator punctuator.Hash ∷ symbol.Number 2 ∷ symbol.Name ∷ semicolon
    ∷ else_word ∷ semicolon ∷ endmodule ∷ [])
    ≡ Ok clocked
unfolding read_kinds
row_always = refl

-- module m; always if (a) if (b) ; else ; endmodule: the else belongs to the nearest if (9.4)
row_nearest_if : read_kinds (head ++ always ∷ if_word ∷ opening ∷ symbol.Name ∷ closing ∷ if_word ∷ opening ∷ symbol.Name ∷ closing ∷ semicolon ∷ else_word ∷ semicolon ∷ endmodule ∷ [])
    ≡ Ok (only_item (Always 3 (statement.When 4 5 (Name 6 Whole) 7 (statement.Choose 8 9 (Name 10 Whole) 11 (statement.Null 12) 13 (statement.Null 14)))) 15)
unfolding read_kinds
row_nearest_if = refl

-- ---- what is refused, with the number of symbols left

-- module m(a); endmodule
row_bare_port : read_kinds (symbol.Keyword keyword.Module ∷ symbol.Name ∷ opening ∷ symbol.Name ∷ closing ∷ semicolon ∷ endmodule ∷ []) ≡ Err (Unexpected 4)
unfolding read_kinds
row_bare_port = refl

-- module m; localparam p = 3; endmodule
row_no_sized : read_kinds (head ++ symbol.Keyword keyword.Localparam ∷ symbol.Name ∷ equals ∷ symbol.Number 3 ∷ semicolon ∷ endmodule ∷ []) ≡ Err (Unexpected 3)
unfolding read_kinds
row_no_sized = refl

-- module m; reg r = a; endmodule
row_reg_value : read_kinds (head ++ reg ∷ symbol.Name ∷ equals ∷ symbol.Name ∷ semicolon ∷ endmodule ∷ []) ≡ Err (Unexpected 4)
unfolding read_kinds
row_reg_value = refl

-- module m; n u(a, .p(b)); endmodule
row_mixed : read_kinds (head ++ symbol.Name ∷ symbol.Name ∷ opening ∷ symbol.Name ∷ comma ∷ symbol.Punctuator punctuator.Period ∷ symbol.Name ∷ opening ∷ symbol.Name ∷ closing ∷ closing ∷ semicolon ∷ endmodule ∷ []) ≡ Err (Unexpected 8)
unfolding read_kinds
row_mixed = refl

-- module m; initial a = 'b1; endmodule
row_no_size : read_kinds (head ++ initial ∷ symbol.Name ∷ equals ∷ symbol.Base ∷ semicolon ∷ endmodule ∷ []) ≡ Err (Unexpected 3)
unfolding read_kinds
row_no_size = refl

-- module m; initial a = 0'b1; endmodule
row_size_0 : read_kinds (head ++ initial ∷ symbol.Name ∷ equals ∷ symbol.Number 0 ∷ symbol.Base ∷ semicolon ∷ endmodule ∷ []) ≡ Err (Unexpected 4)
unfolding read_kinds
row_size_0 = refl

-- module m; initial a = 65536'b1; endmodule
row_size_65536 : read_kinds (head ++ initial ∷ symbol.Name ∷ equals ∷ symbol.Number 65536 ∷ symbol.Base ∷ semicolon ∷ endmodule ∷ []) ≡ Err (Unexpected 4)
unfolding read_kinds
row_size_65536 = refl

-- module m; initial a = b endmodule
row_no_semicolon : read_kinds (head ++ initial ∷ symbol.Name ∷ equals ∷ symbol.Name ∷ endmodule ∷ []) ≡ Err (Unexpected 1)
unfolding read_kinds
row_no_semicolon = refl

-- module m; always endmodule
row_no_statement : read_kinds (head ++ always ∷ endmodule ∷ []) ≡ Err (Unexpected 1)
unfolding read_kinds
row_no_statement = refl

-- module m; always ; else ; endmodule
row_else_alone : read_kinds (head ++ always ∷ semicolon ∷ else_word ∷ semicolon ∷ endmodule ∷ []) ≡ Err (Unexpected 3)
unfolding read_kinds
row_else_alone = refl

-- module m; reg a b; endmodule
row_no_comma : read_kinds (head ++ reg ∷ symbol.Name ∷ symbol.Name ∷ semicolon ∷ endmodule ∷ []) ≡ Err (Unexpected 3)
unfolding read_kinds
row_no_comma = refl

-- module m; endmodule ;
row_after : read_kinds (head ++ endmodule ∷ semicolon ∷ []) ≡ Err (Unexpected 1)
unfolding read_kinds
row_after = refl

-- module m;
row_no_endmodule : read_kinds head ≡ Err (Unexpected 0)
unfolding read_kinds
row_no_endmodule = refl

-- module m; initial begin
row_no_end : read_kinds (head ++ initial ∷ begin ∷ []) ≡ Err (Unexpected 0)
unfolding read_kinds
row_no_end = refl

-- 64 blocks: the statement within them has depth 65
row_too_deep : read_kinds (nested 64) ≡ Err (TooDeep 69)
unfolding read_kinds
row_too_deep = refl

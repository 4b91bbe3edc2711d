-- The grammar of statements: derivations, and the symbols that each spells. A derivation holds the places of its terminals.
use Rattle.vp_source.specs.declared.symbol.SymbolKind.{SymbolKind}
use Rattle.std.specs.Prelude.{ℕ, ◌+◌, ◌<◌, max, List, ◌∷◌, ◌≤◌}
use Rattle.vp_lex.specs.declared.keyword.Keyword.TheVariants as keyword
use Rattle.vp_lex.specs.declared.token.Punctuator.TheVariants as punctuator
use Rattle.vp_source.specs.declared.symbol.Symbol.{Symbol}
use Rattle.vp_source.specs.declared.symbol.SymbolKind.TheVariants as symbol
use Rattle.vp_source.specs.declared.symbol.TheConstants.{NUMBER_LIMIT}
use Rattle.vp_source.specs.Kinds.{symbol_at}
use Rattle.vp_source.specs.ExprGrammar.{Expr, Selection, expr_text, selection_text, expr_depth, selection_depth, IsExpr, IsSelection}

-- a delay: a number, or one in parentheses (9.7.1)
pub data Delay : Type 0 where
  Plain : (number place : ℕ) → Delay
  Grouped : (opening number place closing : ℕ) → Delay

-- when a nonblocking assignment takes its value: at once, or after a delay (9.2.2)
pub data Hold : Type 0 where
  Now : Hold
  Later : (hash : ℕ) → Delay → Hold

-- the edge at which a term of an event waits (9.7.2)
pub data Edge : Type 0 where
  Posedge : Edge
  Negedge : Edge

-- a term of an event: a name, of which any change counts, or one after an edge (9.7.2)
pub data Term : Type 0 where
  Level : (name : ℕ) → Term
  Edged : Edge → (edge_place name : ℕ) → Term

-- what stands between terms of an event (9.7.4)
pub data Separator : Type 0 where
  Or : Separator
  Comma : Separator

-- the terms of an event, of which there is one at least (9.7.4)
pub data TermList : Type 0 where
  Single : Term → TermList
  Further : Term → Separator → (separator_place : ℕ) → TermList → TermList

-- an event: any of what a statement reads, without parentheses and with them (9.7.5), a change of a name (9.7.2), or one of terms
-- (9.7.4)
pub data Event : Type 0 where
  Any : (star : ℕ) → Event
  AnyGrouped : (opening star closing : ℕ) → Event
  Change : (name : ℕ) → Event
  Terms : (opening : ℕ) → TermList → (closing : ℕ) → Event

-- how a case compares: exactly, or with z and ? as anything (9.5)
pub data Sort : Type 0 where
  Exact : Sort
  Wild : Sort

-- the labels of an item of a case, of which there is one at least (9.5)
pub data LabelList : Type 0 where
  Only : Expr → LabelList
  Also : Expr → (comma : ℕ) → LabelList → LabelList

-- the colon after a default, if it has one (9.5)
pub data Colon : Type 0 where
  Unmarked : Colon
  Marked : (colon : ℕ) → Colon

-- the argument of the end of a simulation, if it has one (17.4.1)
pub data Argument : Type 0 where
  None : Argument
  Given : (opening number place closing : ℕ) → Argument

mutual
  -- a statement: a blocking assignment to a name, or to a bit or a part of it (9.2.1); a sequential block (9.8.1); none (A.6.4);
  -- a nonblocking assignment (9.2.2); a statement after a delay (9.7.1), or after an event (9.7.2 to 9.7.5);
  -- a wait (9.7.6); a choice without an else, or with one (9.4); a loop (9.6); a case (9.5); the end of a simulation (17.4.1)
  pub data Stmt : Type 0 where
    Assign : (target : ℕ) → Selection → (equals : ℕ) → Expr → (semicolon : ℕ) → Stmt
    Block : (begin : ℕ) → Stmts → (end : ℕ) → Stmt
    Null : (semicolon : ℕ) → Stmt
    Nonblocking : (target : ℕ) → Selection → (arrow : ℕ) → Hold → Expr → (semicolon : ℕ) → Stmt
    Delayed : (hash : ℕ) → Delay → Stmt → Stmt
    Awaited : (at_place : ℕ) → Event → Stmt → Stmt
    Wait : (wait opening : ℕ) → Expr → (closing : ℕ) → Stmt → Stmt
    When : (if_place opening : ℕ) → Expr → (closing : ℕ) → Stmt → Stmt
    Choose : (if_place opening : ℕ) → Expr → (closing : ℕ) → Stmt → (else_place : ℕ) → Stmt → Stmt
    While : (while_place opening : ℕ) → Expr → (closing : ℕ) → Stmt → Stmt
    Forever : (forever : ℕ) → Stmt → Stmt
    For : (for_place opening target : ℕ) → Selection → (equals : ℕ) → Expr → (first_semicolon : ℕ) → Expr
        → (second_semicolon step_target : ℕ) → Selection → (step_equals : ℕ) → Expr → (closing : ℕ) → Stmt → Stmt
    Case : Sort → (case_place opening : ℕ) → Expr → (closing : ℕ) → Items → (endcase : ℕ) → Stmt
    Finish : (finish : ℕ) → Argument → (semicolon : ℕ) → Stmt

  -- the statements of a block, in order (9.8.1)
  pub data Stmts : Type 0 where
    Empty : Stmts
    Then : Stmt → Stmts → Stmts

  -- the items of a case, of which there is one at least (9.5)
  pub data Items : Type 0 where
    Last : Item → Items
    More : Item → Items → Items

  -- an item of a case: the statement for labels, or that for anything else (9.5)
  pub data Item : Type 0 where
    Labels : LabelList → (colon : ℕ) → Stmt → Item
    Default : (default_place : ℕ) → Colon → Stmt → Item

-- the symbols of a delay, and then these (9.7.1)
abbrev pub delay_text : Delay → List Symbol → List Symbol
delay_text (Plain number place) rest = symbol_at (symbol.Number number) place ∷ rest
delay_text (Grouped opening number place closing) rest =
    symbol_at (symbol.Punctuator punctuator.LeftParenthesis) opening ∷ symbol_at (symbol.Number number) place
    ∷ symbol_at (symbol.Punctuator punctuator.RightParenthesis) closing ∷ rest

-- the symbols of a nonblocking assignment's delay, and then these (9.2.2)
abbrev pub hold_text : Hold → List Symbol → List Symbol
hold_text Now rest = rest
hold_text (Later hash delay) rest = symbol_at (symbol.Punctuator punctuator.Hash) hash ∷ delay_text delay rest

-- the symbol of an edge (9.7.2)
abbrev pub edge_kind : Edge → SymbolKind
edge_kind Posedge = symbol.Keyword keyword.Posedge
edge_kind Negedge = symbol.Keyword keyword.Negedge

-- the symbols of a term, and then these (9.7.2)
abbrev pub term_text : Term → List Symbol → List Symbol
term_text (Level name) rest = symbol_at symbol.Name name ∷ rest
term_text (Edged edge edge_place name) rest = symbol_at (edge_kind edge) edge_place ∷ symbol_at symbol.Name name ∷ rest

-- the symbol between terms (9.7.4)
abbrev pub separator_kind : Separator → SymbolKind
separator_kind Or = symbol.Keyword keyword.Or
separator_kind Comma = symbol.Punctuator punctuator.Comma

-- the symbols of terms, and then these (9.7.4)
abbrev pub terms_text : TermList → List Symbol → List Symbol
terms_text (Single t) rest = term_text t rest
terms_text (Further t separator place l) rest = term_text t (symbol_at (separator_kind separator) place ∷ terms_text l rest)

-- the symbols of an event, and then these (9.7.2 to 9.7.5)
abbrev pub event_text : Event → List Symbol → List Symbol
event_text (Any star) rest = symbol_at (symbol.Punctuator punctuator.Asterisk) star ∷ rest
event_text (AnyGrouped opening star closing) rest =
    symbol_at (symbol.Punctuator punctuator.LeftParenthesis) opening ∷ symbol_at (symbol.Punctuator punctuator.Asterisk) star
    ∷ symbol_at (symbol.Punctuator punctuator.RightParenthesis) closing ∷ rest
event_text (Change name) rest = symbol_at symbol.Name name ∷ rest
event_text (Terms opening l closing) rest =
    symbol_at (symbol.Punctuator punctuator.LeftParenthesis) opening
    ∷ terms_text l (symbol_at (symbol.Punctuator punctuator.RightParenthesis) closing ∷ rest)

-- the symbols of an expression in parentheses, and then these (9.4 to 9.7)
abbrev pub condition_text : (opening : ℕ) → Expr → (closing : ℕ) → List Symbol → List Symbol
condition_text opening value closing rest =
    symbol_at (symbol.Punctuator punctuator.LeftParenthesis) opening
    ∷ expr_text value (symbol_at (symbol.Punctuator punctuator.RightParenthesis) closing ∷ rest)

-- the symbols of a target and of what it is to have, and then these (9.2.1)
abbrev pub blocking_text : (target : ℕ) → Selection → (equals : ℕ) → Expr → List Symbol → List Symbol
blocking_text target selection equals value rest =
    symbol_at symbol.Name target
    ∷ selection_text selection (symbol_at (symbol.Punctuator punctuator.Equals) equals ∷ expr_text value rest)

-- the symbols in the parentheses of a for, and then these (9.6)
abbrev pub heading_text : (opening target : ℕ) → Selection → (equals : ℕ) → Expr → (first_semicolon : ℕ) → Expr
    → (second_semicolon step_target : ℕ) → Selection → (step_equals : ℕ) → Expr → (closing : ℕ) → List Symbol → List Symbol
heading_text opening target selection equals value first_semicolon condition second_semicolon step_target step_selection step_equals step closing rest =
    symbol_at (symbol.Punctuator punctuator.LeftParenthesis) opening
    ∷ blocking_text target selection equals value (symbol_at (symbol.Punctuator punctuator.Semicolon) first_semicolon
    ∷ expr_text condition (symbol_at (symbol.Punctuator punctuator.Semicolon) second_semicolon
    ∷ blocking_text step_target step_selection step_equals step (symbol_at (symbol.Punctuator punctuator.RightParenthesis) closing ∷ rest)))

-- the keyword of a case (9.5)
abbrev pub sort_kind : Sort → SymbolKind
sort_kind Exact = symbol.Keyword keyword.Case
sort_kind Wild = symbol.Keyword keyword.Casez

-- the symbols of labels, and then these (9.5)
abbrev pub labels_text : LabelList → List Symbol → List Symbol
labels_text (Only e) rest = expr_text e rest
labels_text (Also e comma l) rest = expr_text e (symbol_at (symbol.Punctuator punctuator.Comma) comma ∷ labels_text l rest)

-- the colon after a default, if it has one, and then these (9.5)
abbrev pub colon_text : Colon → List Symbol → List Symbol
colon_text Unmarked rest = rest
colon_text (Marked colon) rest = symbol_at (symbol.Punctuator punctuator.Colon) colon ∷ rest

-- the symbols of an argument, and then these (17.4.1)
abbrev pub argument_text : Argument → List Symbol → List Symbol
argument_text None rest = rest
argument_text (Given opening number place closing) rest =
    symbol_at (symbol.Punctuator punctuator.LeftParenthesis) opening ∷ symbol_at (symbol.Number number) place
    ∷ symbol_at (symbol.Punctuator punctuator.RightParenthesis) closing ∷ rest

abbrev mutual
  -- a statement's symbols, and then these (A.6.4)
  pub stmt_text : Stmt → List Symbol → List Symbol
  stmt_text (Assign target selection equals value semicolon) rest =
      blocking_text target selection equals value (symbol_at (symbol.Punctuator punctuator.Semicolon) semicolon ∷ rest)
  stmt_text (Block begin body end) rest =
      symbol_at (symbol.Keyword keyword.Begin) begin ∷ stmts_text body (symbol_at (symbol.Keyword keyword.End) end ∷ rest)
  stmt_text (Null semicolon) rest = symbol_at (symbol.Punctuator punctuator.Semicolon) semicolon ∷ rest
  stmt_text (Nonblocking target selection arrow hold value semicolon) rest =
      symbol_at symbol.Name target
      ∷ selection_text selection (symbol_at (symbol.Punctuator punctuator.LessOrEqual) arrow
      ∷ hold_text hold (expr_text value (symbol_at (symbol.Punctuator punctuator.Semicolon) semicolon ∷ rest)))
  stmt_text (Delayed hash delay body) rest =
      symbol_at (symbol.Punctuator punctuator.Hash) hash ∷ delay_text delay (stmt_text body rest)
  stmt_text (Awaited at_place event body) rest =
      symbol_at (symbol.Punctuator punctuator.At) at_place ∷ event_text event (stmt_text body rest)
  stmt_text (Wait wait opening value closing body) rest =
      symbol_at (symbol.Keyword keyword.Wait) wait ∷ condition_text opening value closing (stmt_text body rest)
  stmt_text (When if_place opening value closing first) rest =
      symbol_at (symbol.Keyword keyword.If) if_place ∷ condition_text opening value closing (stmt_text first rest)
  stmt_text (Choose if_place opening value closing first else_place second) rest =
      symbol_at (symbol.Keyword keyword.If) if_place
      ∷ condition_text opening value closing (stmt_text first (symbol_at (symbol.Keyword keyword.Else) else_place ∷ stmt_text second rest))
  stmt_text (While while_place opening value closing body) rest =
      symbol_at (symbol.Keyword keyword.While) while_place ∷ condition_text opening value closing (stmt_text body rest)
  stmt_text (Forever forever body) rest = symbol_at (symbol.Keyword keyword.Forever) forever ∷ stmt_text body rest
  stmt_text (For for_place opening target selection equals value first_semicolon condition second_semicolon step_target step_selection step_equals step closing body) rest =
      symbol_at (symbol.Keyword keyword.For) for_place
      ∷ heading_text opening target selection equals value first_semicolon condition second_semicolon step_target step_selection step_equals step closing (stmt_text body rest)
  stmt_text (Case sort case_place opening value closing items endcase) rest =
      symbol_at (sort_kind sort) case_place
      ∷ condition_text opening value closing (items_text items (symbol_at (symbol.Keyword keyword.Endcase) endcase ∷ rest))
  stmt_text (Finish finish argument semicolon) rest =
      symbol_at symbol.Finish finish ∷ argument_text argument (symbol_at (symbol.Punctuator punctuator.Semicolon) semicolon ∷ rest)

  -- the symbols of an item of a case, and then these (9.5)
  pub item_text : Item → List Symbol → List Symbol
  item_text (Labels l colon s) rest = labels_text l (symbol_at (symbol.Punctuator punctuator.Colon) colon ∷ stmt_text s rest)
  item_text (Default default_place colon s) rest =
      symbol_at (symbol.Keyword keyword.Default) default_place ∷ colon_text colon (stmt_text s rest)

  -- the symbols of the items of a case, and then these (9.5)
  pub items_text : Items → List Symbol → List Symbol
  items_text (Last i) rest = item_text i rest
  items_text (More i l) rest = item_text i (items_text l rest)

  -- the symbols of a block's statements, and then these (9.8.1)
  pub stmts_text : Stmts → List Symbol → List Symbol
  stmts_text Empty rest = rest
  stmts_text (Then s l) rest = stmt_text s (stmts_text l rest)

-- no if stands open at a statement's end, to which an else after it would belong (9.4)
abbrev pub IsClosed : Stmt → Type 0
IsClosed (When if_place opening value closing first) = ⊥
IsClosed (Choose if_place opening value closing first else_place second) = IsClosed second
IsClosed (Delayed hash delay body) = IsClosed body
IsClosed (Awaited at_place event body) = IsClosed body
IsClosed (Wait wait opening value closing body) = IsClosed body
IsClosed (While while_place opening value closing body) = IsClosed body
IsClosed (Forever forever body) = IsClosed body
IsClosed (For for_place opening target selection equals value first_semicolon condition second_semicolon step_target step_selection step_equals step closing body) = IsClosed body
IsClosed _ = Unit {0}

-- how long a delay is (9.7.1)
abbrev pub delay_amount : Delay → ℕ
delay_amount (Plain number place) = number
delay_amount (Grouped opening number place closing) = number

-- a number without a base has 31 bits (profile)
abbrev pub IsDelay : Delay → Type 0
IsDelay delay = delay_amount delay < NUMBER_LIMIT

-- the delay of a nonblocking assignment is one (9.2.2)
abbrev pub IsHold : Hold → Type 0
IsHold Now = Unit {0}
IsHold (Later hash delay) = IsDelay delay

-- an argument is below 2^31 (profile)
abbrev pub IsArgument : Argument → Type 0
IsArgument None = Unit {0}
IsArgument (Given opening number place closing) = number < NUMBER_LIMIT

-- each label of an item of a case is an expression (9.5)
abbrev pub AreLabels : LabelList → Type 0
AreLabels (Only e) = IsExpr e
AreLabels (Also e comma l) = IsExpr e × AreLabels l

-- how many defaults an item of a case is (9.5)
abbrev pub item_defaults : Item → ℕ
item_defaults (Labels l colon s) = 0
item_defaults (Default default_place colon s) = 1

-- how many defaults are among the items of a case (9.5)
abbrev pub items_defaults : Items → ℕ
items_defaults (Last i) = item_defaults i
items_defaults (More i l) = item_defaults i + items_defaults l

abbrev mutual
  -- each expression in a statement is one (5), an else belongs to the nearest if (9.4), and a
  -- case has one default at most (9.5)
  pub IsStmt : Stmt → Type 0
  IsStmt (Assign target selection equals value semicolon) = IsSelection selection × IsExpr value
  IsStmt (Block begin body end) = AreStmts body
  IsStmt (Null semicolon) = Unit {0}
  IsStmt (Nonblocking target selection arrow hold value semicolon) = IsSelection selection × IsHold hold × IsExpr value
  IsStmt (Delayed hash delay body) = IsDelay delay × IsStmt body
  IsStmt (Awaited at_place event body) = IsStmt body
  IsStmt (Wait wait opening value closing body) = IsExpr value × IsStmt body
  IsStmt (When if_place opening value closing first) = IsExpr value × IsStmt first
  IsStmt (Choose if_place opening value closing first else_place second) = IsExpr value × IsStmt first × IsStmt second × IsClosed first
  IsStmt (While while_place opening value closing body) = IsExpr value × IsStmt body
  IsStmt (Forever forever body) = IsStmt body
  IsStmt (For for_place opening target selection equals value first_semicolon condition second_semicolon step_target step_selection step_equals step closing body) =
      IsSelection selection × IsExpr value × IsExpr condition × IsSelection step_selection × IsExpr step × IsStmt body
  IsStmt (Case sort case_place opening value closing items endcase) = IsExpr value × AreItems items × (items_defaults items ≤ 1)
  IsStmt (Finish finish argument semicolon) = IsArgument argument

  -- each expression in an item of a case is one (5)
  pub IsItem : Item → Type 0
  IsItem (Labels l colon s) = AreLabels l × IsStmt s
  IsItem (Default default_place colon s) = IsStmt s

  -- each expression in the items of a case is one (5)
  pub AreItems : Items → Type 0
  AreItems (Last i) = IsItem i
  AreItems (More i l) = IsItem i × AreItems l

  -- each expression in a block's statements is one (5)
  pub AreStmts : Stmts → Type 0
  AreStmts Empty = Unit {0}
  AreStmts (Then s l) = IsStmt s × AreStmts l

abbrev mutual
  -- how deep a statement nests: the whole has 1, and what stands within it one more (profile)
  pub stmt_depth : Stmt → ℕ
  stmt_depth (Assign target selection equals value semicolon) = 1
  stmt_depth (Block begin body end) = stmts_depth body + 1
  stmt_depth (Null semicolon) = 1
  stmt_depth (Nonblocking target selection arrow hold value semicolon) = 1
  stmt_depth (Delayed hash delay body) = stmt_depth body + 1
  stmt_depth (Awaited at_place event body) = stmt_depth body + 1
  stmt_depth (Wait wait opening value closing body) = stmt_depth body + 1
  stmt_depth (When if_place opening value closing first) = stmt_depth first + 1
  stmt_depth (Choose if_place opening value closing first else_place second) = max (stmt_depth first) (stmt_depth second) + 1
  stmt_depth (While while_place opening value closing body) = stmt_depth body + 1
  stmt_depth (Forever forever body) = stmt_depth body + 1
  stmt_depth (For for_place opening target selection equals value first_semicolon condition second_semicolon step_target step_selection step_equals step closing body) = stmt_depth body + 1
  stmt_depth (Case sort case_place opening value closing items endcase) = items_depth items + 1
  stmt_depth (Finish finish argument semicolon) = 1

  -- how deep the statement of an item of a case nests (profile)
  pub item_depth : Item → ℕ
  item_depth (Labels l colon s) = stmt_depth s
  item_depth (Default default_place colon s) = stmt_depth s

  -- how deep the deepest statement of the items of a case nests (profile)
  pub items_depth : Items → ℕ
  items_depth (Last i) = item_depth i
  items_depth (More i l) = max (item_depth i) (items_depth l)

  -- how deep the deepest statement of a block nests (profile)
  pub stmts_depth : Stmts → ℕ
  stmts_depth Empty = 0
  stmts_depth (Then s l) = max (stmt_depth s) (stmts_depth l)

-- how deep a target and what it is to have nest; an index is within the target that it selects from (profile)
abbrev pub blocking_height : Selection → Expr → ℕ
blocking_height selection value = max (selection_depth selection + 1) (expr_depth value)

-- how deep the deepest label nests (profile)
abbrev pub labels_height : LabelList → ℕ
labels_height (Only e) = expr_depth e
labels_height (Also e comma l) = max (expr_depth e) (labels_height l)

abbrev mutual
  -- how deep the deepest expression of a statement nests (profile)
  pub stmt_height : Stmt → ℕ
  stmt_height (Assign target selection equals value semicolon) = blocking_height selection value
  stmt_height (Block begin body end) = stmts_height body
  stmt_height (Null semicolon) = 0
  stmt_height (Nonblocking target selection arrow hold value semicolon) = blocking_height selection value
  stmt_height (Delayed hash delay body) = stmt_height body
  stmt_height (Awaited at_place event body) = stmt_height body
  stmt_height (Wait wait opening value closing body) = max (expr_depth value) (stmt_height body)
  stmt_height (When if_place opening value closing first) = max (expr_depth value) (stmt_height first)
  stmt_height (Choose if_place opening value closing first else_place second) =
      max (expr_depth value) (max (stmt_height first) (stmt_height second))
  stmt_height (While while_place opening value closing body) = max (expr_depth value) (stmt_height body)
  stmt_height (Forever forever body) = stmt_height body
  stmt_height (For for_place opening target selection equals value first_semicolon condition second_semicolon step_target step_selection step_equals step closing body) =
      max (max (blocking_height selection value) (expr_depth condition)) (max (blocking_height step_selection step) (stmt_height body))
  stmt_height (Case sort case_place opening value closing items endcase) = max (expr_depth value) (items_height items)
  stmt_height (Finish finish argument semicolon) = 0

  -- how deep the deepest expression of an item of a case nests (profile)
  pub item_height : Item → ℕ
  item_height (Labels l colon s) = max (labels_height l) (stmt_height s)
  item_height (Default default_place colon s) = stmt_height s

  -- how deep the deepest expression of the items of a case nests (profile)
  pub items_height : Items → ℕ
  items_height (Last i) = item_height i
  items_height (More i l) = max (item_height i) (items_height l)

  -- how deep the deepest expression of a block's statements nests (profile)
  pub stmts_height : Stmts → ℕ
  stmts_height Empty = 0
  stmts_height (Then s l) = max (stmt_height s) (stmts_height l)

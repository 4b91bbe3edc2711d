-- Reading symbols straight into the flat lists of a source: what each function of the code gives.
use Rattle.vp_source.specs.declared.statement.Span as span
use Rattle.vp_source.specs.declared.statement.EventTerm as term
use Rattle.vp_source.specs.declared.statement.Choice as choice
use Rattle.vp_source.specs.declared.statement.Edge.TheVariants as edge_of
use Rattle.vp_source.specs.declared.statement.Edge as edge
use Rattle.std.specs.Prelude.{ℕ, zero, suc, ◌+◌, ◌-◌, nat_lt, List, [], ◌∷◌, ◌++◌, length, Option, Some, None, Result, Ok, Err, if◌then◌else◌, Bool, true, false}
use Rattle.vp_lex.specs.declared.keyword.Keyword.TheVariants as keyword
use Rattle.vp_lex.specs.declared.token.Punctuator.TheVariants as punctuator
use Rattle.vp_source.specs.declared.symbol.Symbol.{Symbol}
use Rattle.vp_source.specs.declared.symbol.SymbolKind.{SymbolKind}
use Rattle.vp_source.specs.declared.symbol.SymbolKind.TheVariants as symbol
use Rattle.vp_source.specs.declared.expression.Selection as selection
use Rattle.vp_source.specs.declared.symbol.TheConstants.{NUMBER_LIMIT}
use Rattle.vp_parse_expr.specs.Stopping.{Stop, Unexpected, TooDeep, ◌>>=◌, refused, is_next, following, terminal}
use Rattle.vp_parse_expr.specs.Placing.{expr_into, selection_into}
use Rattle.vp_parse_stmt.specs.declared.arena.Arena.{Arena}
use Rattle.vp_source.specs.declared.statement.Statement as statement
use Rattle.vp_source.specs.declared.statement.Statement.TheVariants as statement_of
use Rattle.vp_source.specs.StmtLayout.{Lists, with_statement, awaited, choices_of, with_choices}
use Rattle.vp_parse_stmt.specs.Reading.{goes_on, is_else, is_arrow, is_separator, is_default, items_go_on, may_still}

-- the lists of an arena
abbrev pub lists_in : Arena → Lists
lists_in a = record { statements = a.statements.items; expressions = a.expressions.items; terms = a.terms.items; choices = a.choices.items }

-- ---- reading into lists

-- the place of what is read, the lists with it, and the symbols that are left
abbrev pub Made : Type 0
Made = ℕ × Lists × List Symbol

-- reads into lists, from these symbols
abbrev pub Placer : Type 0
Placer = Lists → List Symbol → Result Made Stop

-- one more statement, and the symbols that are left
abbrev pub made_statement : statement.Statement → Lists → List Symbol → Made
made_statement s lists ts = (length lists.statements, record lists { statements = lists.statements ++ s ∷ [] }, ts)

-- an expression that nests at most so deep (5)
unfoldable pub value_into : ℕ → Placer
value_into limit lists ts = expr_into limit 0 lists.expressions ts >>= λ e. Ok (e.0, record lists { expressions = e.2 }, e.3)

-- ---- delays

-- a number without a base, by its symbol's kind (9.7.1; profile)
unfoldable pub amount_by_into : SymbolKind → List Symbol → Result (ℕ × List Symbol) Stop
amount_by_into (symbol.Number number) ts = if nat_lt number NUMBER_LIMIT then Ok (number, ts) else Err (Unexpected (length ts + 1))
amount_by_into _ ts = Err (Unexpected (length ts + 1))

-- a number without a base (9.7.1; profile)
unfoldable pub amount_into : List Symbol → Result (ℕ × List Symbol) Stop
amount_into [] = refused []
amount_into (s ∷ ts) = amount_by_into s.kind ts

-- a number in parentheses (9.7.1)
unfoldable pub grouped_delay_into : List Symbol → Result (ℕ × List Symbol) Stop
grouped_delay_into ts = do
  rest ← following (symbol.Punctuator punctuator.LeftParenthesis) ts
  amount ← amount_into rest
  rest ← following (symbol.Punctuator punctuator.RightParenthesis) amount.1
  Ok (amount.0, rest)

-- a delay, from after its # (9.7.1)
unfoldable pub delay_into : List Symbol → Result (ℕ × List Symbol) Stop
delay_into ts = if is_next (symbol.Punctuator punctuator.LeftParenthesis) ts then grouped_delay_into ts else amount_into ts

-- a # and a delay (9.2.2)
unfoldable pub later_into : List Symbol → Result (Option ℕ × List Symbol) Stop
later_into ts = do
  rest ← following (symbol.Punctuator punctuator.Hash) ts
  delay ← delay_into rest
  Ok (Some delay.0, delay.1)

-- the delay of a nonblocking assignment, if it is next (9.2.2)
unfoldable pub hold_into : List Symbol → Result (Option ℕ × List Symbol) Stop
hold_into ts = if is_next (symbol.Punctuator punctuator.Hash) ts then later_into ts else Ok (None, ts)

-- ---- assignments

-- what a target is to have, from after what is selected of it, by an expression that nests at most so deep (9.2.1)
unfoldable pub blocking_into : (limit target : ℕ) → selection.Selection → Placer
blocking_into limit target selected lists ts = do
  rest ← following (symbol.Punctuator punctuator.Equals) ts
  value ← value_into limit lists rest
  Ok (made_statement (statement_of.Assign target selected value.0) value.1 value.2)

-- a blocking assignment, from after what is selected of its target (9.2.1)
unfoldable pub assign_into : (limit target : ℕ) → selection.Selection → Placer
assign_into limit target selected lists ts = do
  blocking ← blocking_into limit target selected lists ts
  rest ← following (symbol.Punctuator punctuator.Semicolon) blocking.2
  Ok (blocking.0, blocking.1, rest)

-- a nonblocking assignment, from after what is selected of its target, by an expression that nests at most so deep (9.2.2)
unfoldable pub nonblocking_into : (limit target : ℕ) → selection.Selection → Placer
nonblocking_into limit target selected lists ts = do
  rest ← following (symbol.Punctuator punctuator.LessOrEqual) ts
  hold ← hold_into rest
  value ← value_into limit lists hold.1
  rest ← following (symbol.Punctuator punctuator.Semicolon) value.2
  Ok (made_statement (statement_of.Nonblocking target selected value.0 hold.0) value.1 rest)

-- an assignment, from after what is selected of its target (9.2)
unfoldable pub set_into : (limit target : ℕ) → selection.Selection → Placer
set_into limit target selected lists ts = if is_arrow ts then nonblocking_into limit target selected lists ts else assign_into limit target selected lists ts

-- an assignment, from after the name of its target, with expressions that nest at most so deep (9.2)
unfoldable pub assignment_into : (limit target : ℕ) → Placer
assignment_into limit target lists ts = do
  selected ← selection_into (limit - 1) lists.expressions ts
  set_into limit target selected.0 (record lists { expressions = selected.2 }) selected.3

-- ---- blocks

-- the statements of a block, onto the chain at a place; a number bounds how many (9.8.1)
unfoldable pub chain_into : Placer → ℕ → ℕ → Placer
chain_into next zero chain lists ts = Ok (chain, lists, ts)
chain_into next (suc m) chain lists ts =
    if goes_on ts
    then (next lists ts >>= λ s. chain_into next m (length s.1.statements) (record s.1 { statements = s.1.statements ++ statement_of.Then chain s.0 ∷ [] }) s.2)
    else Ok (chain, lists, ts)

-- the statements of a block, from an empty chain on (9.8.1)
unfoldable pub stmts_into : Placer → Placer
stmts_into next lists ts = chain_into next (length ts) (length lists.statements) (record lists { statements = lists.statements ++ statement_of.Empty ∷ [] }) ts

-- a block, from after its begin (9.8.1)
unfoldable pub block_into : Placer → Placer
block_into next lists ts = do
  body ← stmts_into next lists ts
  rest ← following (symbol.Keyword keyword.End) body.2
  Ok (body.0, body.1, rest)

-- ---- events

-- an edge, which is of this kind, and a name (9.7.2)
unfoldable pub edged_into : edge.Edge → SymbolKind → List Symbol → Result (term.EventTerm × List Symbol) Stop
edged_into edge kind ts = do
  rest ← following kind ts
  name ← terminal symbol.Name rest
  Ok (record { edge = edge; name = name.0 }, name.1)

-- a term of an event (9.7.2)
unfoldable pub term_into : List Symbol → Result (term.EventTerm × List Symbol) Stop
term_into ts =
    if is_next (symbol.Keyword keyword.Posedge) ts
    then edged_into edge_of.Posedge (symbol.Keyword keyword.Posedge) ts
    else (if is_next (symbol.Keyword keyword.Negedge) ts then edged_into edge_of.Negedge (symbol.Keyword keyword.Negedge) ts else (terminal symbol.Name ts >>= λ name. Ok (record { edge = edge_of.Any; name = name.0 }, name.1)))

-- what is left after what stands between terms (9.7.4)
unfoldable pub separator_into : List Symbol → Result (List Symbol) Stop
separator_into ts =
    if is_next (symbol.Punctuator punctuator.Comma) ts
    then following (symbol.Punctuator punctuator.Comma) ts
    else following (symbol.Keyword keyword.Or) ts

-- terms, and the symbols that are left
abbrev pub MadeTerms : Type 0
MadeTerms = List term.EventTerm × List Symbol

-- one more term, from what stands before it on (9.7.4)
unfoldable pub joined_into : List term.EventTerm → List Symbol → Result MadeTerms Stop
joined_into terms ts = do
  rest ← separator_into ts
  term ← term_into rest
  Ok (terms ++ term.0 ∷ [], term.1)

-- the terms after a first one; a number bounds how many (9.7.4)
unfoldable pub further_terms_into : ℕ → List term.EventTerm → List Symbol → Result MadeTerms Stop
further_terms_into zero terms ts = Ok (terms, ts)
further_terms_into (suc m) terms ts =
    if is_separator ts then (joined_into terms ts >>= λ j. further_terms_into m j.0 j.1) else Ok (terms, ts)

-- the terms of an event (9.7.4)
unfoldable pub terms_into : List term.EventTerm → List Symbol → Result MadeTerms Stop
terms_into terms ts = do
  first ← term_into ts
  further_terms_into (length first.1) (terms ++ first.0 ∷ []) first.1

-- where the terms of an event lie, the list with them, and the symbols that are left
abbrev pub MadeEvent : Type 0
MadeEvent = Option span.Span × List term.EventTerm × List Symbol

-- terms after others, and where they lie
abbrev pub made_event : List term.EventTerm → List term.EventTerm → List Symbol → MadeEvent
made_event terms after ts = (Some (record { first = length terms; end = length after }), after, ts)

-- terms, from after the parenthesis before them (9.7.4)
unfoldable pub terms_event_into : List term.EventTerm → List Symbol → Result MadeEvent Stop
terms_event_into terms ts = do
  after ← terms_into terms ts
  rest ← following (symbol.Punctuator punctuator.RightParenthesis) after.1
  Ok (made_event terms after.0 rest)

-- a star, from after the parenthesis before it (9.7.5)
unfoldable pub star_event_into : List term.EventTerm → List Symbol → Result MadeEvent Stop
star_event_into terms ts = do
  rest ← following (symbol.Punctuator punctuator.Asterisk) ts
  rest ← following (symbol.Punctuator punctuator.RightParenthesis) rest
  Ok (None, terms, rest)

-- an event, from after its first symbol, by that symbol's kind and place (9.7.2 to 9.7.5)
unfoldable pub event_by_into : SymbolKind → ℕ → List term.EventTerm → List Symbol → Result MadeEvent Stop
event_by_into symbol.Name place terms ts = Ok (made_event terms (terms ++ record { edge = edge_of.Any; name = place } ∷ []) ts)
event_by_into (symbol.Punctuator punctuator.Asterisk) place terms ts = Ok (None, terms, ts)
event_by_into (symbol.Punctuator punctuator.LeftParenthesis) place terms ts =
    if is_next (symbol.Punctuator punctuator.Asterisk) ts then star_event_into terms ts else terms_event_into terms ts
event_by_into _ place terms ts = Err (Unexpected (length ts + 1))

-- an event (9.7.2 to 9.7.5)
unfoldable pub event_into : List term.EventTerm → List Symbol → Result MadeEvent Stop
event_into terms [] = refused []
event_into terms (s ∷ ts) = event_by_into s.kind s.place terms ts

-- ---- statements in others

-- a statement after an event, from after its @ (9.7.2 to 9.7.5)
unfoldable pub awaited_into : Placer → Placer
awaited_into next lists ts = do
  event ← event_into lists.terms ts
  body ← next (record lists { terms = event.1 }) event.2
  Ok (made_statement (awaited event.0 body.0) body.1 body.2)

-- a statement after a delay, from after its # (9.7.1)
unfoldable pub delayed_into : Placer → Placer
delayed_into next lists ts = do
  delay ← delay_into ts
  body ← next lists delay.1
  Ok (made_statement (statement_of.Delay delay.0 body.0) body.1 body.2)

-- an expression in parentheses, which nests at most so deep (9.4 to 9.7)
unfoldable pub condition_into : (limit : ℕ) → Placer
condition_into limit lists ts = do
  rest ← following (symbol.Punctuator punctuator.LeftParenthesis) ts
  value ← value_into limit lists rest
  rest ← following (symbol.Punctuator punctuator.RightParenthesis) value.2
  Ok (value.0, value.1, rest)

-- the places of an expression and of a statement, the lists with them, and the symbols that are left
abbrev pub MadeGuarded : Type 0
MadeGuarded = ℕ × ℕ × Lists × List Symbol

-- an expression in parentheses, and a statement (9.4 to 9.7)
unfoldable pub guarded_into : (limit : ℕ) → Placer → Lists → List Symbol → Result MadeGuarded Stop
guarded_into limit next lists ts = do
  condition ← condition_into limit lists ts
  body ← next condition.1 condition.2
  Ok (condition.0, body.0, body.1, body.2)

-- a wait, from after its keyword (9.7.6)
unfoldable pub wait_into : (limit : ℕ) → Placer → Placer
wait_into limit next lists ts = do
  guarded ← guarded_into limit next lists ts
  Ok (made_statement (statement_of.Wait guarded.0 guarded.1) guarded.2 guarded.3)

-- a while, from after its keyword (9.6)
unfoldable pub while_into : (limit : ℕ) → Placer → Placer
while_into limit next lists ts = do
  guarded ← guarded_into limit next lists ts
  Ok (made_statement (statement_of.While guarded.0 guarded.1 None) guarded.2 guarded.3)

-- a forever, from after its keyword (9.6)
unfoldable pub forever_into : Placer → Placer
forever_into next lists ts = do
  body ← next lists ts
  Ok (made_statement (statement_of.Forever body.0) body.1 body.2)

-- an else and its statement (9.4)
unfoldable pub second_into : Placer → (condition first : ℕ) → Placer
second_into next condition first lists ts = do
  rest ← following (symbol.Keyword keyword.Else) ts
  second ← next lists rest
  Ok (made_statement (statement_of.If condition first (Some second.0)) second.1 second.2)

-- an else, if it is next (9.4)
unfoldable pub else_into : Placer → (condition first : ℕ) → Placer
else_into next condition first lists ts =
    if is_else ts then second_into next condition first lists ts else Ok (made_statement (statement_of.If condition first None) lists ts)

-- an if, from after its keyword (9.4)
unfoldable pub if_into : (limit : ℕ) → Placer → Placer
if_into limit next lists ts = do
  first ← guarded_into limit next lists ts
  else_into next first.0 first.1 first.2 first.3

-- a target and what it is to have, with expressions that nest at most so deep (9.2.1)
unfoldable pub named_blocking_into : (limit : ℕ) → Placer
named_blocking_into limit lists ts = do
  target ← terminal symbol.Name ts
  selected ← selection_into (limit - 1) lists.expressions target.1
  blocking_into limit target.0 selected.0 (record lists { expressions = selected.2 }) selected.3

-- the places of a start, a condition and a step, the lists with them, and the symbols that are left
abbrev pub MadeHeading : Type 0
MadeHeading = ℕ × ℕ × ℕ × Lists × List Symbol

-- what stands in the parentheses of a for, with expressions that nest at most so deep (9.6)
unfoldable pub heading_into : (limit : ℕ) → Lists → List Symbol → Result MadeHeading Stop
heading_into limit lists ts = do
  rest ← following (symbol.Punctuator punctuator.LeftParenthesis) ts
  start ← named_blocking_into limit lists rest
  rest ← following (symbol.Punctuator punctuator.Semicolon) start.2
  condition ← value_into limit start.1 rest
  rest ← following (symbol.Punctuator punctuator.Semicolon) condition.2
  step ← named_blocking_into limit condition.1 rest
  rest ← following (symbol.Punctuator punctuator.RightParenthesis) step.2
  Ok (start.0, condition.0, step.0, step.1, rest)

-- a loop whose turns end with a step, and after it the whole of a start and the loop (9.6)
abbrev pub made_for : (start condition step body : ℕ) → Lists → List Symbol → Made
made_for start condition step body lists ts =
    let w = with_statement (statement_of.While condition body (Some step)) lists in made_statement (statement_of.For start w.0) w.1 ts

-- a for, from after its keyword (9.6)
unfoldable pub for_into : (limit : ℕ) → Placer → Placer
for_into limit next lists ts = do
  heading ← heading_into limit lists ts
  body ← next heading.3 heading.4
  Ok (made_for heading.0 heading.1 heading.2 body.0 body.1 body.2)

-- ---- the end of a simulation

-- what is left after an argument (17.4.1)
unfoldable pub given_into : List Symbol → Result (List Symbol) Stop
given_into ts = do
  rest ← following (symbol.Punctuator punctuator.LeftParenthesis) ts
  number ← amount_into rest
  following (symbol.Punctuator punctuator.RightParenthesis) number.1

-- what is left after an argument, if it is next (17.4.1)
unfoldable pub argument_into : List Symbol → Result (List Symbol) Stop
argument_into ts = if is_next (symbol.Punctuator punctuator.LeftParenthesis) ts then given_into ts else Ok ts

-- the end of a simulation, from after its name (17.4.1)
unfoldable pub finish_into : Placer
finish_into lists ts = do
  rest ← argument_into ts
  rest ← following (symbol.Punctuator punctuator.Semicolon) rest
  Ok (made_statement statement_of.Finish lists rest)

-- ---- cases

-- the places of labels, the lists with them, and the symbols that are left
abbrev pub MadeLabels : Type 0
MadeLabels = List ℕ × Lists × List Symbol

-- a label, from the comma before it on (9.5)
unfoldable pub further_label_into : (limit : ℕ) → List ℕ → Lists → List Symbol → Result MadeLabels Stop
further_label_into limit labels lists ts = do
  rest ← following (symbol.Punctuator punctuator.Comma) ts
  value ← value_into limit lists rest
  Ok (labels ++ value.0 ∷ [], value.1, value.2)

-- the labels after others; a number bounds how many (9.5)
unfoldable pub further_labels_into : (limit : ℕ) → ℕ → List ℕ → Lists → List Symbol → Result MadeLabels Stop
further_labels_into limit zero labels lists ts = Ok (labels, lists, ts)
further_labels_into limit (suc m) labels lists ts =
    if is_next (symbol.Punctuator punctuator.Comma) ts
    then (further_label_into limit labels lists ts >>= λ j. further_labels_into limit m j.0 j.1 j.2)
    else Ok (labels, lists, ts)

-- the labels of an item of a case, which nest at most so deep (9.5)
unfoldable pub labels_into : (limit : ℕ) → Lists → List Symbol → Result MadeLabels Stop
labels_into limit lists ts = do
  first ← value_into limit lists ts
  further_labels_into limit (length first.2) (first.0 ∷ []) first.1 first.2

-- the choices of a case so far, the lists with their parts, and the symbols that are left
abbrev pub MadeItems : Type 0
MadeItems = List choice.Choice × Lists × List Symbol

-- reads items of a case, after choices and into lists
abbrev pub ItemPlacer : Type 0
ItemPlacer = List choice.Choice → Lists → List Symbol → Result MadeItems Stop

-- an item with labels, after other choices (9.5)
unfoldable pub labels_item_into : (limit : ℕ) → Placer → ItemPlacer
labels_item_into limit next choices lists ts = do
  labels ← labels_into limit lists ts
  rest ← following (symbol.Punctuator punctuator.Colon) labels.2
  body ← next labels.1 rest
  Ok (choices ++ choices_of labels.0 body.0, body.1, body.2)

-- what is left after a colon, if it is next (9.5)
unfoldable pub colon_into : List Symbol → Result (List Symbol) Stop
colon_into ts =
    if is_next (symbol.Punctuator punctuator.Colon) ts then following (symbol.Punctuator punctuator.Colon) ts else Ok ts

-- an item for anything else, after other choices (9.5)
unfoldable pub default_item_into : Placer → ItemPlacer
default_item_into next choices lists ts = do
  rest ← following (symbol.Keyword keyword.Default) ts
  rest ← colon_into rest
  body ← next lists rest
  Ok (choices ++ record { label = None; body = body.0 } ∷ [], body.1, body.2)

-- an item of a case, which may be a default or not, after other choices (9.5)
unfoldable pub item_into : (limit : ℕ) → Placer → (may_default : Bool) → ItemPlacer
item_into limit next may_default choices lists ts =
    if is_default ts then (if may_default then default_item_into next choices lists ts else refused ts) else labels_item_into limit next choices lists ts

-- the items of a case after other choices; a number bounds how many (9.5)
unfoldable pub further_items_into : (limit : ℕ) → Placer → ℕ → (may_default : Bool) → ItemPlacer
further_items_into limit next zero may_default choices lists ts = Ok (choices, lists, ts)
further_items_into limit next (suc m) may_default choices lists ts =
    if items_go_on ts
    then (item_into limit next may_default choices lists ts >>= λ j. further_items_into limit next m (may_still may_default ts) j.0 j.1 j.2)
    else Ok (choices, lists, ts)

-- the items of a case, and their choices (9.5)
unfoldable pub items_into : (limit : ℕ) → Placer → Lists → List Symbol → Result MadeItems Stop
items_into limit next lists ts = do
  first ← item_into limit next true [] lists ts
  further_items_into limit next (length first.2) (may_still true ts) first.0 first.1 first.2

-- the choices of a case after the others, and the case by where they lie (9.5)
abbrev pub made_case : (is_wild : Bool) → (selector : ℕ) → List choice.Choice → Lists → List Symbol → Made
made_case is_wild selector choices lists ts =
    let c = with_choices choices lists in made_statement (statement_of.Case is_wild selector c.0) c.1 ts

-- a case, from after its keyword (9.5)
unfoldable pub case_into : (limit : ℕ) → Placer → (is_wild : Bool) → Placer
case_into limit next is_wild lists ts = do
  selector ← condition_into limit lists ts
  items ← items_into limit next selector.1 selector.2
  rest ← following (symbol.Keyword keyword.Endcase) items.2
  Ok (made_case is_wild selector.0 items.0 items.1 rest)

-- a statement, from after its first symbol, by that symbol's kind and place (A.6.4)
unfoldable pub stmt_by_into : ℕ → Placer → SymbolKind → ℕ → Placer
stmt_by_into limit next symbol.Name place lists ts = assignment_into limit place lists ts
stmt_by_into limit next (symbol.Keyword keyword.Begin) place lists ts = block_into next lists ts
stmt_by_into limit next (symbol.Punctuator punctuator.Semicolon) place lists ts = Ok (made_statement statement_of.Null lists ts)
stmt_by_into limit next (symbol.Punctuator punctuator.Hash) place lists ts = delayed_into next lists ts
stmt_by_into limit next (symbol.Punctuator punctuator.At) place lists ts = awaited_into next lists ts
stmt_by_into limit next (symbol.Keyword keyword.Wait) place lists ts = wait_into limit next lists ts
stmt_by_into limit next (symbol.Keyword keyword.If) place lists ts = if_into limit next lists ts
stmt_by_into limit next (symbol.Keyword keyword.While) place lists ts = while_into limit next lists ts
stmt_by_into limit next (symbol.Keyword keyword.Case) place lists ts = case_into limit next false lists ts
stmt_by_into limit next (symbol.Keyword keyword.Casez) place lists ts = case_into limit next true lists ts
stmt_by_into limit next symbol.Finish place lists ts = finish_into lists ts
stmt_by_into limit next (symbol.Keyword keyword.Forever) place lists ts = forever_into next lists ts
stmt_by_into limit next (symbol.Keyword keyword.For) place lists ts = for_into limit next lists ts
stmt_by_into limit next _ place lists ts = Err (Unexpected (length ts + 1))

-- a statement, with expressions that nest at most so deep, and the reader of the statements in it (A.6.4)
unfoldable pub form_into : ℕ → Placer → Placer
form_into limit next lists [] = refused []
form_into limit next lists (s ∷ ts) = stmt_by_into limit next s.kind s.place lists ts

-- a statement with expressions that nest at most so deep, and which nests itself at most so deep (profile)
unfoldable pub stmt_into : (limit depth : ℕ) → Placer
stmt_into limit zero lists ts = Err (TooDeep (length ts))
stmt_into limit (suc d) lists ts = form_into limit (stmt_into limit d) lists ts

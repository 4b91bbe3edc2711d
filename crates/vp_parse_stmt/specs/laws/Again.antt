-- What is spelled by a well-formed derivation is read as that derivation.
use Rattle.vp_lex.specs.declared.keyword.Keyword.{Keyword}
use Rattle.std.proofs.Common.{◌≡◌, ℕ, zero, suc, ◌-◌, ◌≤◌, ◌<◌, List, ◌∷◌, length, true, false, Ok, refl, ap, arith, Bool, []}
use Rattle.std.specs.Prelude.{nat_lt, ◌&&◌, not, ◌+◌}
use Rattle.vp_lex.specs.declared.keyword.Keyword.TheVariants as keyword
use Rattle.vp_lex.specs.declared.token.Punctuator.TheVariants as punctuator
use Rattle.vp_source.specs.declared.symbol.Symbol.{Symbol}
use Rattle.vp_source.specs.declared.symbol.SymbolKind.TheVariants as symbol
use Rattle.vp_source.specs.declared.operator.UnaryOperator.{UnaryOperator}
use Rattle.vp_source.specs.declared.operator.UnaryOperator.TheVariants as unary
use Rattle.vp_source.specs.declared.symbol.TheConstants.{NUMBER_LIMIT}
use Rattle.vp_source.specs.Kinds.{same_kind, symbol_at}
use Rattle.vp_source.specs.Operators.{unary_sign, binary_sign}
use Rattle.vp_source.specs.ExprGrammar.{Expr, Unary, Binary, Conditional, Selection, expr_text, selection_text, expr_depth, IsExpr, IsSelection, Sized}
use Rattle.vp_parse_expr.specs.Stopping.{Reader, is_next, terminal}
use Rattle.vp_parse_expr.specs.Reading.{expr_at}
use Rattle.vp_parse_expr.specs.laws.Takes.{before, expr_longer, selection_longer}
use Rattle.vp_parse_expr.specs.Meaning.{Stops}
use Rattle.vp_parse_expr.specs.laws.Again.{expr_again, selection_again}
use Rattle.vp_source.specs.StmtGrammar.{Delay, Plain, Grouped, Hold, Now, Later, Stmt, Stmts, Assign, Block, Null, Nonblocking, Delayed, Wait, When, Choose, While, Forever, Empty, Then, delay_text, hold_text, IsDelay, IsHold, condition_text, stmt_text, stmts_text, IsStmt, AreStmts, stmt_depth, stmts_depth, stmt_height, stmts_height, For, blocking_text, blocking_height, heading_text, Posedge, Negedge, Term, Level, Edged, term_text, Separator, Or, Comma, separator_kind, TermList, Single, Further, terms_text, Event, Any, AnyGrouped, Change, Terms, event_text, Awaited, Sort, Exact, Wild, sort_kind, LabelList, Only, Also, labels_text, AreLabels, labels_height, Colon, Unmarked, Marked, colon_text, Item, Labels, Default, Items, Last, More, item_text, items_text, IsItem, AreItems, item_defaults, items_defaults, item_depth, items_depth, item_height, items_height, Case, Argument, None, Given, argument_text, IsArgument, Finish}
use Rattle.vp_parse_stmt.specs.Reading.{goes_on, stmts_at, amount_by, amount_at, grouped_delay_at, delay_at, later_at, hold_at, blocking_at, assign_at, nonblocking_at, set_at, assignment_at, block_at, delayed_at, condition_at, guarded_at, wait_at, while_at, forever_at, is_else, second_at, else_at, if_at, stmt_by, form_at, stmt_at, named_blocking_at, heading_at, for_at, edged_at, term_at, is_separator, separator_by, separator_at, joined_at, further_terms_at, terms_at, terms_event_at, star_event_at, event_by, event_at, awaited_at, further_label_at, further_labels_at, labels_at, labels_item_at, colon_at, default_item_at, is_default, item_at, items_go_on, further_items_at, items_at, case_at, given_at, argument_at, finish_at}
use Rattle.vp_parse_stmt.specs.Meaning.{Follows}
use Rattle.vp_parse_stmt.specs.laws.Following.{closed_follows, end_follows}

condition_longer : (opening : ℕ) (value : Expr) (closing : ℕ) (rest : List Symbol) → length rest < length (condition_text opening value closing rest)
condition_longer opening value closing rest = let h = expr_longer value (symbol_at (symbol.Punctuator punctuator.RightParenthesis) closing ∷ rest) in omega arith

delay_longer : (delay : Delay) (rest : List Symbol) → length rest < length (delay_text delay rest)
delay_longer (Plain number place) rest = omega arith
delay_longer (Grouped opening number place closing) rest = omega arith

hold_longer : (hold : Hold) (rest : List Symbol) → length rest ≤ length (hold_text hold rest)
hold_longer Now rest = omega arith
hold_longer (Later hash delay) rest = let h = delay_longer delay rest in omega arith

blocking_longer : (target : ℕ) (selection : Selection) (equals : ℕ) (value : Expr) (rest : List Symbol) → length rest < length (blocking_text target selection equals value rest)
blocking_longer target selection equals value rest =
    let h = expr_longer value rest in
    let k = selection_longer selection (symbol_at (symbol.Punctuator punctuator.Equals) equals ∷ expr_text value rest) in
    omega arith

heading_longer : (opening target : ℕ) (selection : Selection) (equals : ℕ) (value : Expr) (first_semicolon : ℕ) (condition : Expr) (second_semicolon step_target : ℕ) (step_selection : Selection) (step_equals : ℕ) (step : Expr) (closing : ℕ) (rest : List Symbol)
    → length rest < length (heading_text opening target selection equals value first_semicolon condition second_semicolon step_target step_selection step_equals step closing rest)
heading_longer opening target selection equals value first_semicolon condition second_semicolon step_target step_selection step_equals step closing rest =
    let last = symbol_at (symbol.Punctuator punctuator.RightParenthesis) closing ∷ rest in
    let stepped = symbol_at (symbol.Punctuator punctuator.Semicolon) second_semicolon ∷ blocking_text step_target step_selection step_equals step last in
    let tested = symbol_at (symbol.Punctuator punctuator.Semicolon) first_semicolon ∷ expr_text condition stepped in
    let h = blocking_longer step_target step_selection step_equals step last in
    let k = expr_longer condition stepped in
    let l = blocking_longer target selection equals value tested in
    omega arith

term_longer : (t : Term) (rest : List Symbol) → length rest < length (term_text t rest)
term_longer (Level name) rest = omega arith
term_longer (Edged edge edge_place name) rest = omega arith

terms_longer : (l : TermList) (rest : List Symbol) → length rest < length (terms_text l rest)
terms_longer (Single t) rest = term_longer t rest
terms_longer (Further t separator place l) rest =
    let h = terms_longer l rest in let k = term_longer t (symbol_at (separator_kind separator) place ∷ terms_text l rest) in omega arith

event_longer : (e : Event) (rest : List Symbol) → length rest < length (event_text e rest)
event_longer (Any star) rest = omega arith
event_longer (AnyGrouped opening star closing) rest = omega arith
event_longer (Change name) rest = omega arith
event_longer (Terms opening l closing) rest = let h = terms_longer l (symbol_at (symbol.Punctuator punctuator.RightParenthesis) closing ∷ rest) in omega arith

labels_longer : (l : LabelList) (rest : List Symbol) → length rest < length (labels_text l rest)
labels_longer (Only e) rest = expr_longer e rest
labels_longer (Also e comma l) rest =
    let h = labels_longer l rest in let k = expr_longer e (symbol_at (symbol.Punctuator punctuator.Comma) comma ∷ labels_text l rest) in omega arith

colon_longer : (c : Colon) (rest : List Symbol) → length rest ≤ length (colon_text c rest)
colon_longer Unmarked rest = omega arith
colon_longer (Marked colon) rest = omega arith

sort_longer : (sort : Sort) (place : ℕ) (ts : List Symbol) → length ts < length (symbol_at (sort_kind sort) place ∷ ts)
sort_longer sort place ts = omega arith

argument_longer : (argument : Argument) (rest : List Symbol) → length rest ≤ length (argument_text argument rest)
argument_longer None rest = omega arith
argument_longer (Given opening number place closing) rest = omega arith

mutual
  pub stmt_longer : (s : Stmt) (rest : List Symbol) → length rest < length (stmt_text s rest)
  stmt_longer (Assign target selection equals value semicolon) rest =
      let following = symbol_at (symbol.Punctuator punctuator.Semicolon) semicolon ∷ rest in
      let h = expr_longer value following in
      let k = selection_longer selection (symbol_at (symbol.Punctuator punctuator.Equals) equals ∷ expr_text value following) in
      omega arith
  stmt_longer (Block begin body end) rest = let h = stmts_longer body (symbol_at (symbol.Keyword keyword.End) end ∷ rest) in omega arith
  stmt_longer (Null semicolon) rest = omega arith
  stmt_longer (Nonblocking target selection arrow hold value semicolon) rest =
      let following = symbol_at (symbol.Punctuator punctuator.Semicolon) semicolon ∷ rest in
      let h = expr_longer value following in
      let w = hold_longer hold (expr_text value following) in
      let k = selection_longer selection (symbol_at (symbol.Punctuator punctuator.LessOrEqual) arrow ∷ hold_text hold (expr_text value following)) in
      omega arith
  stmt_longer (Delayed hash delay body) rest = let h = delay_longer delay (stmt_text body rest) in let k = stmt_longer body rest in omega arith
  stmt_longer (Awaited at_place event body) rest = let h = event_longer event (stmt_text body rest) in let k = stmt_longer body rest in omega arith
  stmt_longer (Wait wait opening value closing body) rest =
      let h = condition_longer opening value closing (stmt_text body rest) in let k = stmt_longer body rest in omega arith
  stmt_longer (When if_place opening value closing first) rest =
      let h = condition_longer opening value closing (stmt_text first rest) in let k = stmt_longer first rest in omega arith
  stmt_longer (Choose if_place opening value closing first else_place second) rest =
      let following = symbol_at (symbol.Keyword keyword.Else) else_place ∷ stmt_text second rest in
      let h = condition_longer opening value closing (stmt_text first following) in
      let k = stmt_longer first following in
      let l = stmt_longer second rest in
      omega arith
  stmt_longer (While while_place opening value closing body) rest =
      let h = condition_longer opening value closing (stmt_text body rest) in let k = stmt_longer body rest in omega arith
  stmt_longer (Case sort case_place opening value closing items endcase) rest =
      let following = symbol_at (symbol.Keyword keyword.Endcase) endcase ∷ rest in
      let h = condition_longer opening value closing (items_text items following) in
      let k = items_longer items following in
      omega arith
  stmt_longer (Finish finish argument semicolon) rest = let h = argument_longer argument (symbol_at (symbol.Punctuator punctuator.Semicolon) semicolon ∷ rest) in omega arith
  stmt_longer (Forever forever body) rest = let h = stmt_longer body rest in omega arith
  stmt_longer (For for_place opening target selection equals value first_semicolon condition second_semicolon step_target step_selection step_equals step closing body) rest =
      let h = heading_longer opening target selection equals value first_semicolon condition second_semicolon step_target step_selection step_equals step closing (stmt_text body rest) in
      let k = stmt_longer body rest in
      omega arith

  item_longer : (i : Item) (rest : List Symbol) → length rest < length (item_text i rest)
  item_longer (Labels l colon s) rest =
      let h = labels_longer l (symbol_at (symbol.Punctuator punctuator.Colon) colon ∷ stmt_text s rest) in let k = stmt_longer s rest in omega arith
  item_longer (Default default_place colon s) rest = let h = colon_longer colon (stmt_text s rest) in let k = stmt_longer s rest in omega arith

  items_longer : (l : Items) (rest : List Symbol) → length rest < length (items_text l rest)
  items_longer (Last i) rest = item_longer i rest
  items_longer (More i l) rest = let h = item_longer i (items_text l rest) in let k = items_longer l rest in omega arith

  pub stmts_longer : (l : Stmts) (rest : List Symbol) → length rest ≤ length (stmts_text l rest)
  stmts_longer Empty rest = omega arith
  stmts_longer (Then s l) rest = let h = stmt_longer s (stmts_text l rest) in let k = stmts_longer l rest in omega arith

stmt_goes_on : (s : Stmt) (rest : List Symbol) → goes_on (stmt_text s rest) ≡ true
stmt_goes_on (Assign target selection equals value semicolon) rest = refl
stmt_goes_on (Case Exact case_place opening value closing items endcase) rest = refl
stmt_goes_on (Case Wild case_place opening value closing items endcase) rest = refl
stmt_goes_on _ rest = refl

-- a statement does not begin with an else
stmt_no_else : (s : Stmt) (rest : List Symbol) → is_else (stmt_text s rest) ≡ false
stmt_no_else (Assign target selection equals value semicolon) rest = refl
stmt_no_else (Case Exact case_place opening value closing items endcase) rest = refl
stmt_no_else (Case Wild case_place opening value closing items endcase) rest = refl
stmt_no_else _ rest = refl

stmts_no_else : (l : Stmts) (rest : List Symbol) → is_else rest ≡ false → is_else (stmts_text l rest) ≡ false
stmts_no_else Empty rest h = h
stmts_no_else (Then s l) rest h = stmt_no_else s (stmts_text l rest)

stmt_above : (s : Stmt) → 0 < stmt_depth s
stmt_above (Assign target selection equals value semicolon) = omega arith
stmt_above _ = omega arith

abbrev pub CompleteStmt : (limit depth : ℕ) → Reader Stmt → Type 0
CompleteStmt limit d next = (s : Stmt) (rest : List Symbol) → IsStmt s → stmt_height s ≤ limit → stmt_depth s ≤ d → Follows s rest → next (stmt_text s rest) ≡ Ok (s, rest)

-- ---- delays

nat_lt-of : (m n : ℕ) → m < n → nat_lt m n ≡ true
nat_lt-of m n h = grind arith

amount_again : (number place : ℕ) (rest : List Symbol) → number < NUMBER_LIMIT → amount_at (symbol_at (symbol.Number number) place ∷ rest) ≡ Ok ((number, place), rest)
unfolding amount_at amount_by
amount_again number place rest fits = rw (nat_lt-of number NUMBER_LIMIT fits) refl

delay_again : (delay : Delay) (rest : List Symbol) → IsDelay delay → delay_at (delay_text delay rest) ≡ Ok (delay, rest)
unfolding delay_at grouped_delay_at terminal
delay_again (Plain number place) rest is = rw (amount_again number place rest is) refl
delay_again (Grouped opening number place closing) rest is =
    rw (amount_again number place (symbol_at (symbol.Punctuator punctuator.RightParenthesis) closing ∷ rest) is) refl

unary_no_hash : (o : UnaryOperator) → same_kind (symbol.Punctuator punctuator.Hash) (symbol.Punctuator (unary_sign o)) ≡ false
unary_no_hash unary.Plus = refl
unary_no_hash _ = refl

-- an expression does not begin with a #
expr_no_hash : (e : Expr) (rest : List Symbol) → is_next (symbol.Punctuator punctuator.Hash) (expr_text e rest) ≡ false
expr_no_hash (Unary o place e) rest = unary_no_hash o
expr_no_hash (Binary o a place b) rest = expr_no_hash a (before (symbol.Punctuator (binary_sign o)) place (expr_text b rest))
expr_no_hash (Conditional c question a colon b) rest =
    expr_no_hash c (before (symbol.Punctuator punctuator.Conditional) question (expr_text a (before (symbol.Punctuator punctuator.Colon) colon (expr_text b rest))))
expr_no_hash _ rest = refl

hold_again : (hold : Hold) (e : Expr) (rest : List Symbol) → IsHold hold → hold_at (hold_text hold (expr_text e rest)) ≡ Ok (hold, expr_text e rest)
unfolding hold_at later_at terminal
hold_again Now e rest is = rw (expr_no_hash e rest) refl
hold_again (Later hash delay) e rest is = rw (delay_again delay (expr_text e rest) is) refl

-- ---- assignments

-- an expression before a semicolon
valued_again : (limit : ℕ) (value : Expr) (semicolon : ℕ) (rest : List Symbol) → IsExpr value → expr_depth value ≤ limit → expr_at limit 0 (expr_text value (symbol_at (symbol.Punctuator punctuator.Semicolon) semicolon ∷ rest)) ≡ Ok (value, symbol_at (symbol.Punctuator punctuator.Semicolon) semicolon ∷ rest)
valued_again limit value semicolon rest is fits =
    expr_again limit 0 value (symbol_at (symbol.Punctuator punctuator.Semicolon) semicolon ∷ rest) is (omega arith) fits (record { no_operator = refl; no_choice = refl; no_bracket = refl; no_base = refl })

assign_again : (limit target : ℕ) (selection : Selection) (equals : ℕ) (value : Expr) (semicolon : ℕ) (rest : List Symbol) → IsSelection selection → IsExpr value → stmt_height (Assign target selection equals value semicolon) ≤ limit
    → assignment_at limit target (selection_text selection (symbol_at (symbol.Punctuator punctuator.Equals) equals ∷ expr_text value (symbol_at (symbol.Punctuator punctuator.Semicolon) semicolon ∷ rest))) ≡ Ok (Assign target selection equals value semicolon, rest)
unfolding assignment_at set_at assign_at blocking_at terminal
assign_again limit target selection equals value semicolon rest is are fits =
    let h = valued_again limit value semicolon rest are (omega arith) in
    let k = selection_again (limit - 1) selection (symbol_at (symbol.Punctuator punctuator.Equals) equals ∷ expr_text value (symbol_at (symbol.Punctuator punctuator.Semicolon) semicolon ∷ rest)) is (omega arith) refl in
    rw k (rw h refl)

nonblocking_again : (limit target : ℕ) (selection : Selection) (arrow : ℕ) (hold : Hold) (value : Expr) (semicolon : ℕ) (rest : List Symbol) → IsSelection selection → IsHold hold → IsExpr value → stmt_height (Nonblocking target selection arrow hold value semicolon) ≤ limit
    → assignment_at limit target (selection_text selection (symbol_at (symbol.Punctuator punctuator.LessOrEqual) arrow ∷ hold_text hold (expr_text value (symbol_at (symbol.Punctuator punctuator.Semicolon) semicolon ∷ rest)))) ≡ Ok (Nonblocking target selection arrow hold value semicolon, rest)
unfolding assignment_at set_at nonblocking_at terminal
nonblocking_again limit target selection arrow hold value semicolon rest is waits are fits =
    let following = symbol_at (symbol.Punctuator punctuator.Semicolon) semicolon ∷ rest in
    let h = valued_again limit value semicolon rest are (omega arith) in
    let w = hold_again hold value following waits in
    let k = selection_again (limit - 1) selection (symbol_at (symbol.Punctuator punctuator.LessOrEqual) arrow ∷ hold_text hold (expr_text value following)) is (omega arith) refl in
    rw k (rw w (rw h refl))

-- ---- headings

named_blocking_again : (limit target : ℕ) (selection : Selection) (equals : ℕ) (value : Expr) (rest : List Symbol) → IsSelection selection → IsExpr value → blocking_height selection value ≤ limit → Stops 0 rest
    → named_blocking_at limit (blocking_text target selection equals value rest) ≡ Ok (record { target = target; selection = selection; equals = equals; value = value }, rest)
unfolding named_blocking_at blocking_at terminal
named_blocking_again limit target selection equals value rest is are fits stops =
    let h = expr_again limit 0 value rest are (omega arith) (omega arith) stops in
    let k = selection_again (limit - 1) selection (symbol_at (symbol.Punctuator punctuator.Equals) equals ∷ expr_text value rest) is (omega arith) refl in
    rw k (rw h refl)

heading_again : (limit opening target : ℕ) (selection : Selection) (equals : ℕ) (value : Expr) (first_semicolon : ℕ) (condition : Expr) (second_semicolon step_target : ℕ) (step_selection : Selection) (step_equals : ℕ) (step : Expr) (closing : ℕ) (rest : List Symbol)
    → IsSelection selection → IsExpr value → IsExpr condition → IsSelection step_selection → IsExpr step
    → blocking_height selection value ≤ limit → expr_depth condition ≤ limit → blocking_height step_selection step ≤ limit
    → heading_at limit (heading_text opening target selection equals value first_semicolon condition second_semicolon step_target step_selection step_equals step closing rest)
    ≡ Ok (record { opening = opening; start = record { target = target; selection = selection; equals = equals; value = value }; first_semicolon = first_semicolon; condition = condition; second_semicolon = second_semicolon; step = record { target = step_target; selection = step_selection; equals = step_equals; value = step }; closing = closing }, rest)
unfolding heading_at terminal
heading_again limit opening target selection equals value first_semicolon condition second_semicolon step_target step_selection step_equals step closing rest is_target is_start is_condition is_step_target is_step fits_start fits_condition fits_step =
    let last = symbol_at (symbol.Punctuator punctuator.RightParenthesis) closing ∷ rest in
    let stepped = blocking_text step_target step_selection step_equals step last in
    let tested = symbol_at (symbol.Punctuator punctuator.Semicolon) first_semicolon ∷ expr_text condition (symbol_at (symbol.Punctuator punctuator.Semicolon) second_semicolon ∷ stepped) in
    let h = named_blocking_again limit target selection equals value tested is_target is_start fits_start (record { no_operator = refl; no_choice = refl; no_bracket = refl; no_base = refl }) in
    let k = valued_again limit condition second_semicolon stepped is_condition fits_condition in
    let l = named_blocking_again limit step_target step_selection step_equals step last is_step_target is_step fits_step (record { no_operator = refl; no_choice = refl; no_bracket = refl; no_base = refl }) in
    rw h (rw k (rw l refl))

-- ---- events

term_again : (t : Term) (rest : List Symbol) → term_at (term_text t rest) ≡ Ok (t, rest)
unfolding term_at edged_at terminal
term_again (Level name) rest = refl
term_again (Edged Posedge edge_place name) rest = refl
term_again (Edged Negedge edge_place name) rest = refl

joined_again : (separator : Separator) (place : ℕ) (t : Term) (rest : List Symbol) → joined_at (symbol_at (separator_kind separator) place ∷ term_text t rest) ≡ Ok (record { separator = separator; place = place; term = t }, rest)
unfolding joined_at separator_at separator_by terminal
joined_again Or place t rest = rw (term_again t rest) refl
joined_again Comma place t rest = rw (term_again t rest) refl

-- the first of terms
abbrev first_term : TermList → Term
first_term (Single t) = t
first_term (Further t separator place l) = t

-- the symbols after the first of terms, and then these
abbrev further_text : TermList → List Symbol → List Symbol
further_text (Single t) rest = rest
further_text (Further t separator place l) rest = symbol_at (separator_kind separator) place ∷ term_text (first_term l) (further_text l rest)

first_text : (l : TermList) (rest : List Symbol) → terms_text l rest ≡ term_text (first_term l) (further_text l rest)
first_text (Single t) rest = refl
first_text (Further t separator place l) rest = ap (λ (r : List Symbol). term_text t (symbol_at (separator_kind separator) place ∷ r)) (first_text l rest)

separator_next : (separator : Separator) (place : ℕ) (ts : List Symbol) → is_separator (symbol_at (separator_kind separator) place ∷ ts) ≡ true
separator_next Or place ts = refl
separator_next Comma place ts = refl

further_terms_again : (m : ℕ) (l : TermList) (rest : List Symbol) → length (further_text l rest) ≤ m → is_separator rest ≡ false → further_terms_at m (first_term l) (further_text l rest) ≡ Ok (l, rest)
unfolding further_terms_at
further_terms_again zero (Single t) rest enough stops = refl
further_terms_again (suc m) (Single t) rest enough stops = rw stops refl
further_terms_again zero (Further t separator place l) rest enough stops = absurd (omega arith)
further_terms_again (suc m) (Further t separator place l) rest enough stops =
    let longer = term_longer (first_term l) (further_text l rest) in
    let h = joined_again separator place (first_term l) (further_text l rest) in
    let k = further_terms_again m l rest (omega arith) stops in
    rw (separator_next separator place (term_text (first_term l) (further_text l rest))) (rw h (rw k refl))

terms_again : (l : TermList) (rest : List Symbol) → is_separator rest ≡ false → terms_at (terms_text l rest) ≡ Ok (l, rest)
unfolding terms_at
terms_again l rest stops =
    let h = term_again (first_term l) (further_text l rest) in
    let k = further_terms_again (length (further_text l rest)) l rest (omega arith) stops in
    rw (first_text l rest) (rw h k)

term_no_star : (t : Term) (rest : List Symbol) → is_next (symbol.Punctuator punctuator.Asterisk) (term_text t rest) ≡ false
term_no_star (Level name) rest = refl
term_no_star (Edged Posedge edge_place name) rest = refl
term_no_star (Edged Negedge edge_place name) rest = refl

terms_no_star : (l : TermList) (rest : List Symbol) → is_next (symbol.Punctuator punctuator.Asterisk) (terms_text l rest) ≡ false
terms_no_star l rest = rw (first_text l rest) (term_no_star (first_term l) (further_text l rest))

event_again : (e : Event) (rest : List Symbol) → event_at (event_text e rest) ≡ Ok (e, rest)
unfolding event_at event_by star_event_at terms_event_at terminal
event_again (Any star) rest = refl
event_again (AnyGrouped opening star closing) rest = refl
event_again (Change name) rest = refl
event_again (Terms opening l closing) rest =
    let following = symbol_at (symbol.Punctuator punctuator.RightParenthesis) closing ∷ rest in
    let h = terms_again l following refl in
    rw (terms_no_star l following) (rw h refl)

-- ---- the end of a simulation

finish_again : (place : ℕ) (argument : Argument) (semicolon : ℕ) (rest : List Symbol) → IsArgument argument → finish_at place (argument_text argument (symbol_at (symbol.Punctuator punctuator.Semicolon) semicolon ∷ rest)) ≡ Ok (Finish place argument semicolon, rest)
unfolding finish_at argument_at given_at terminal
finish_again place None semicolon rest is = refl
finish_again finish (Given opening number place closing) semicolon rest is =
    let h = amount_again number place (symbol_at (symbol.Punctuator punctuator.RightParenthesis) closing ∷ symbol_at (symbol.Punctuator punctuator.Semicolon) semicolon ∷ rest) is in
    rw h refl

-- ---- conditions

condition_again : (limit opening : ℕ) (value : Expr) (closing : ℕ) (rest : List Symbol) → IsExpr value → expr_depth value ≤ limit → condition_at limit (condition_text opening value closing rest) ≡ Ok (record { opening = opening; value = value; closing = closing }, rest)
unfolding condition_at terminal
condition_again limit opening value closing rest is fits =
    let following = symbol_at (symbol.Punctuator punctuator.RightParenthesis) closing ∷ rest in
    let h = expr_again limit 0 value following is (omega arith) fits (record { no_operator = refl; no_choice = refl; no_bracket = refl; no_base = refl }) in
    rw h refl

-- ---- labels

-- an expression does not begin with a keyword
expr_no_keyword : (k : Keyword) (e : Expr) (rest : List Symbol) → is_next (symbol.Keyword k) (expr_text e rest) ≡ false
expr_no_keyword k (Binary o a place b) rest = expr_no_keyword k a (before (symbol.Punctuator (binary_sign o)) place (expr_text b rest))
expr_no_keyword k (Conditional c question a colon b) rest =
    expr_no_keyword k c (before (symbol.Punctuator punctuator.Conditional) question (expr_text a (before (symbol.Punctuator punctuator.Colon) colon (expr_text b rest))))
expr_no_keyword k (Sized place size kind digits) rest = refl
expr_no_keyword k _ rest = refl

labels_no_keyword : (k : Keyword) (l : LabelList) (rest : List Symbol) → is_next (symbol.Keyword k) (labels_text l rest) ≡ false
labels_no_keyword k (Only e) rest = expr_no_keyword k e rest
labels_no_keyword k (Also e comma l) rest = expr_no_keyword k e (symbol_at (symbol.Punctuator punctuator.Comma) comma ∷ labels_text l rest)

-- the first of labels
abbrev first_label : LabelList → Expr
first_label (Only e) = e
first_label (Also e comma l) = e

-- the symbols after the first of labels, and then these
abbrev further_labels_text : LabelList → List Symbol → List Symbol
further_labels_text (Only e) rest = rest
further_labels_text (Also e comma l) rest = symbol_at (symbol.Punctuator punctuator.Comma) comma ∷ expr_text (first_label l) (further_labels_text l rest)

first_labels_text : (l : LabelList) (rest : List Symbol) → labels_text l rest ≡ expr_text (first_label l) (further_labels_text l rest)
first_labels_text (Only e) rest = refl
first_labels_text (Also e comma l) rest = ap (λ (r : List Symbol). expr_text e (symbol_at (symbol.Punctuator punctuator.Comma) comma ∷ r)) (first_labels_text l rest)

labels_first : (l : LabelList) → AreLabels l → IsExpr (first_label l)
labels_first (Only e) are = are
labels_first (Also e comma l) are = are.0

labels_first_fits : (l : LabelList) → expr_depth (first_label l) ≤ labels_height l
labels_first_fits (Only e) = omega arith
labels_first_fits (Also e comma l) = omega arith

-- labels end before a colon
labels_stop : (l : LabelList) (colon : ℕ) (rest : List Symbol) → Stops 0 (further_labels_text l (symbol_at (symbol.Punctuator punctuator.Colon) colon ∷ rest))
labels_stop (Only e) colon rest = record { no_operator = refl; no_choice = refl; no_bracket = refl; no_base = refl }
labels_stop (Also e comma l) colon rest = record { no_operator = refl; no_choice = refl; no_bracket = refl; no_base = refl }

further_labels_again : (limit m : ℕ) (l : LabelList) (colon : ℕ) (rest : List Symbol) → AreLabels l → labels_height l ≤ limit → length (further_labels_text l (symbol_at (symbol.Punctuator punctuator.Colon) colon ∷ rest)) ≤ m
    → further_labels_at limit m (first_label l) (further_labels_text l (symbol_at (symbol.Punctuator punctuator.Colon) colon ∷ rest)) ≡ Ok (l, symbol_at (symbol.Punctuator punctuator.Colon) colon ∷ rest)
unfolding further_labels_at further_label_at terminal
further_labels_again limit zero (Only e) colon rest are fits enough = refl
further_labels_again limit (suc m) (Only e) colon rest are fits enough = refl
further_labels_again limit zero (Also e comma l) colon rest are fits enough = absurd (omega arith)
further_labels_again limit (suc m) (Also e comma l) colon rest are fits enough =
    let following = symbol_at (symbol.Punctuator punctuator.Colon) colon ∷ rest in
    let longer = expr_longer (first_label l) (further_labels_text l following) in
    let first_fits = labels_first_fits l in
    let h = expr_again limit 0 (first_label l) (further_labels_text l following) (labels_first l are.1) (omega arith) (omega arith) (labels_stop l colon rest) in
    let k = further_labels_again limit m l colon rest are.1 (omega arith) (omega arith) in
    rw h (rw k refl)

labels_again : (limit : ℕ) (l : LabelList) (colon : ℕ) (rest : List Symbol) → AreLabels l → labels_height l ≤ limit → labels_at limit (labels_text l (symbol_at (symbol.Punctuator punctuator.Colon) colon ∷ rest)) ≡ Ok (l, symbol_at (symbol.Punctuator punctuator.Colon) colon ∷ rest)
unfolding labels_at
labels_again limit l colon rest are fits =
    let following = symbol_at (symbol.Punctuator punctuator.Colon) colon ∷ rest in
    let first_fits = labels_first_fits l in
    let h = expr_again limit 0 (first_label l) (further_labels_text l following) (labels_first l are) (omega arith) (omega arith) (labels_stop l colon rest) in
    let k = further_labels_again limit (length (further_labels_text l following)) l colon rest are fits (omega arith) in
    rw (first_labels_text l following) (rw h k)

-- ---- items

stmt_no_colon : (s : Stmt) (rest : List Symbol) → is_next (symbol.Punctuator punctuator.Colon) (stmt_text s rest) ≡ false
stmt_no_colon (Case Exact case_place opening value closing items endcase) rest = refl
stmt_no_colon (Case Wild case_place opening value closing items endcase) rest = refl
stmt_no_colon _ rest = refl

colon_again : (c : Colon) (s : Stmt) (rest : List Symbol) → colon_at (colon_text c (stmt_text s rest)) ≡ Ok (c, stmt_text s rest)
unfolding colon_at terminal
colon_again Unmarked s rest = rw (stmt_no_colon s rest) refl
colon_again (Marked colon) s rest = refl

-- how many defaults may come
abbrev allowed : Bool → ℕ
allowed true = 1
allowed false = 0

-- an item is a default
abbrev is_default_item : Item → Bool
is_default_item (Labels l colon s) = false
is_default_item (Default default_place colon s) = true

item_default : (i : Item) (rest : List Symbol) → is_default (item_text i rest) ≡ is_default_item i
item_default (Labels l colon s) rest = labels_no_keyword keyword.Default l (symbol_at (symbol.Punctuator punctuator.Colon) colon ∷ stmt_text s rest)
item_default (Default default_place colon s) rest = refl

item_no_else : (i : Item) (rest : List Symbol) → is_else (item_text i rest) ≡ false
item_no_else (Labels l colon s) rest = labels_no_keyword keyword.Else l (symbol_at (symbol.Punctuator punctuator.Colon) colon ∷ stmt_text s rest)
item_no_else (Default default_place colon s) rest = refl

item_no_endcase : (i : Item) (rest : List Symbol) → is_next (symbol.Keyword keyword.Endcase) (item_text i rest) ≡ false
item_no_endcase (Labels l colon s) rest = labels_no_keyword keyword.Endcase l (symbol_at (symbol.Punctuator punctuator.Colon) colon ∷ stmt_text s rest)
item_no_endcase (Default default_place colon s) rest = refl

goes_on_by : (ts : List Symbol) → is_next (symbol.Keyword keyword.Endcase) ts ≡ false → 0 < length ts → items_go_on ts ≡ true
goes_on_by [] h lt = absurd (omega arith)
goes_on_by (s ∷ ts) h lt = rw h refl

item_goes_on : (i : Item) (rest : List Symbol) → items_go_on (item_text i rest) ≡ true
item_goes_on i rest = let h = item_longer i rest in goes_on_by (item_text i rest) (item_no_endcase i rest) (omega arith)

-- the first of items
abbrev first_item : Items → Item
first_item (Last i) = i
first_item (More i l) = i

-- the symbols after the first of items, and then these
abbrev further_items_text : Items → List Symbol → List Symbol
further_items_text (Last i) rest = rest
further_items_text (More i l) rest = items_text l rest

first_items_text : (l : Items) (rest : List Symbol) → items_text l rest ≡ item_text (first_item l) (further_items_text l rest)
first_items_text (Last i) rest = refl
first_items_text (More i l) rest = refl

items_no_else : (l : Items) (rest : List Symbol) → is_else (items_text l rest) ≡ false
items_no_else (Last i) rest = item_no_else i rest
items_no_else (More i l) rest = item_no_else i (items_text l rest)

further_no_else : (l : Items) (rest : List Symbol) → is_else rest ≡ false → is_else (further_items_text l rest) ≡ false
further_no_else (Last i) rest ends = ends
further_no_else (More i l) rest ends = items_no_else l rest

items_first : (l : Items) → AreItems l → IsItem (first_item l)
items_first (Last i) are = are
items_first (More i l) are = are.0

items_first_shallow : (l : Items) → item_height (first_item l) ≤ items_height l
items_first_shallow (Last i) = omega arith
items_first_shallow (More i l) = omega arith

items_first_fits : (l : Items) → item_depth (first_item l) ≤ items_depth l
items_first_fits (Last i) = omega arith
items_first_fits (More i l) = omega arith

items_first_counted : (l : Items) → item_defaults (first_item l) ≤ items_defaults l
items_first_counted (Last i) = omega arith
items_first_counted (More i l) = omega arith

-- what may come after an item
still_counted : (i : Item) (may_default : Bool) (n : ℕ) → n ≤ allowed may_default → n ≤ item_defaults i + allowed (may_default && not (is_default_item i))
still_counted (Labels l colon s) true n le = omega arith
still_counted (Labels l colon s) false n le = omega arith
still_counted (Default default_place colon s) true n le = omega arith
still_counted (Default default_place colon s) false n le = omega arith

module _ (limit d : ℕ) (next : Reader Stmt) (complete : CompleteStmt limit d next) where
  stmts_again : (m : ℕ) (l : Stmts) (rest : List Symbol) → AreStmts l → stmts_height l ≤ limit → stmts_depth l ≤ d → length (stmts_text l rest) ≤ m → goes_on rest ≡ false → is_else rest ≡ false → stmts_at next m (stmts_text l rest) ≡ Ok (l, rest)
  unfolding stmts_at
  stmts_again zero Empty rest are shallow fits enough stops ends = refl
  stmts_again zero (Then s l) rest are shallow fits enough stops ends = let h = stmt_longer s (stmts_text l rest) in absurd (omega arith)
  stmts_again (suc m) Empty rest are shallow fits enough stops ends = rw stops refl
  stmts_again (suc m) (Then s l) rest are shallow fits enough stops ends =
      let longer = stmt_longer s (stmts_text l rest) in
      let h = complete s (stmts_text l rest) are.0 (omega arith) (omega arith) (end_follows s (stmts_text l rest) (stmts_no_else l rest ends)) in
      let k = stmts_again m l rest are.1 (omega arith) (omega arith) (omega arith) stops ends in
      rw (stmt_goes_on s (stmts_text l rest), h) (rw k refl)

  block_again : (begin : ℕ) (body : Stmts) (end : ℕ) (rest : List Symbol) → AreStmts body → stmts_height body ≤ limit → stmts_depth body ≤ d → block_at next begin (stmts_text body (symbol_at (symbol.Keyword keyword.End) end ∷ rest)) ≡ Ok (Block begin body end, rest)
  unfolding block_at terminal
  block_again begin body end rest are shallow fits =
      let following = symbol_at (symbol.Keyword keyword.End) end ∷ rest in
      let h = stmts_again (length (stmts_text body following)) body following are shallow fits (omega arith) refl refl in
      rw h refl

  delayed_again : (place : ℕ) (delay : Delay) (body : Stmt) (rest : List Symbol) → IsDelay delay → IsStmt body → stmt_height body ≤ limit → stmt_depth body ≤ d → Follows body rest → delayed_at next place (delay_text delay (stmt_text body rest)) ≡ Ok (Delayed place delay body, rest)
  unfolding delayed_at
  delayed_again place delay body rest waits is shallow fits ends =
      let h = delay_again delay (stmt_text body rest) waits in let k = complete body rest is shallow fits ends in rw h (rw k refl)

  awaited_again : (place : ℕ) (event : Event) (body : Stmt) (rest : List Symbol) → IsStmt body → stmt_height body ≤ limit → stmt_depth body ≤ d → Follows body rest → awaited_at next place (event_text event (stmt_text body rest)) ≡ Ok (Awaited place event body, rest)
  unfolding awaited_at
  awaited_again place event body rest is shallow fits ends =
      let h = event_again event (stmt_text body rest) in let k = complete body rest is shallow fits ends in rw h (rw k refl)

  guarded_again : (opening : ℕ) (value : Expr) (closing : ℕ) (body : Stmt) (rest : List Symbol) → IsExpr value → IsStmt body → expr_depth value ≤ limit → stmt_height body ≤ limit → stmt_depth body ≤ d → Follows body rest
      → guarded_at limit next (condition_text opening value closing (stmt_text body rest)) ≡ Ok (record { opening = opening; value = value; closing = closing; body = body }, rest)
  unfolding guarded_at
  guarded_again opening value closing body rest is is_body shallow shallow_body fits ends =
      let h = condition_again limit opening value closing (stmt_text body rest) is shallow in
      let k = complete body rest is_body shallow_body fits ends in
      rw h (rw k refl)

  wait_again : (place opening : ℕ) (value : Expr) (closing : ℕ) (body : Stmt) (rest : List Symbol) → IsExpr value → IsStmt body → expr_depth value ≤ limit → stmt_height body ≤ limit → stmt_depth body ≤ d → Follows body rest
      → wait_at limit next place (condition_text opening value closing (stmt_text body rest)) ≡ Ok (Wait place opening value closing body, rest)
  unfolding wait_at
  wait_again place opening value closing body rest is is_body shallow shallow_body fits ends =
      let h = guarded_again opening value closing body rest is is_body shallow shallow_body fits ends in rw h refl

  while_again : (place opening : ℕ) (value : Expr) (closing : ℕ) (body : Stmt) (rest : List Symbol) → IsExpr value → IsStmt body → expr_depth value ≤ limit → stmt_height body ≤ limit → stmt_depth body ≤ d → Follows body rest
      → while_at limit next place (condition_text opening value closing (stmt_text body rest)) ≡ Ok (While place opening value closing body, rest)
  unfolding while_at
  while_again place opening value closing body rest is is_body shallow shallow_body fits ends =
      let h = guarded_again opening value closing body rest is is_body shallow shallow_body fits ends in rw h refl

  forever_again : (place : ℕ) (body : Stmt) (rest : List Symbol) → IsStmt body → stmt_height body ≤ limit → stmt_depth body ≤ d → Follows body rest → forever_at next place (stmt_text body rest) ≡ Ok (Forever place body, rest)
  unfolding forever_at
  forever_again place body rest is shallow fits ends = let h = complete body rest is shallow fits ends in rw h refl

  when_again : (place opening : ℕ) (value : Expr) (closing : ℕ) (first : Stmt) (rest : List Symbol) → IsExpr value → IsStmt first → expr_depth value ≤ limit → stmt_height first ≤ limit → stmt_depth first ≤ d → is_else rest ≡ false
      → if_at limit next place (condition_text opening value closing (stmt_text first rest)) ≡ Ok (When place opening value closing first, rest)
  unfolding if_at else_at
  when_again place opening value closing first rest is is_first shallow shallow_first fits ends =
      let h = guarded_again opening value closing first rest is is_first shallow shallow_first fits (end_follows first rest ends) in rw h (rw ends refl)

  choose_again : (place opening : ℕ) (value : Expr) (closing : ℕ) (first : Stmt) (else_place : ℕ) (second : Stmt) (rest : List Symbol) → IsStmt (Choose place opening value closing first else_place second) → stmt_height (Choose place opening value closing first else_place second) ≤ limit
      → stmt_depth (Choose place opening value closing first else_place second) ≤ suc d → Follows second rest
      → if_at limit next place (condition_text opening value closing (stmt_text first (symbol_at (symbol.Keyword keyword.Else) else_place ∷ stmt_text second rest))) ≡ Ok (Choose place opening value closing first else_place second, rest)
  unfolding if_at else_at second_at terminal
  choose_again place opening value closing first else_place second rest is shallow fits ends =
      let following = symbol_at (symbol.Keyword keyword.Else) else_place ∷ stmt_text second rest in
      let h = guarded_again opening value closing first following is.0 is.1 (omega arith) (omega arith) (omega arith) (closed_follows first following is.3) in
      let k = complete second rest is.2 (omega arith) (omega arith) ends in
      rw h (rw k refl)

  for_again : (place opening target : ℕ) (selection : Selection) (equals : ℕ) (value : Expr) (first_semicolon : ℕ) (condition : Expr) (second_semicolon step_target : ℕ) (step_selection : Selection) (step_equals : ℕ) (step : Expr) (closing : ℕ) (body : Stmt) (rest : List Symbol)
      → IsStmt (For place opening target selection equals value first_semicolon condition second_semicolon step_target step_selection step_equals step closing body)
      → stmt_height (For place opening target selection equals value first_semicolon condition second_semicolon step_target step_selection step_equals step closing body) ≤ limit → stmt_depth body ≤ d → Follows body rest
      → for_at limit next place (heading_text opening target selection equals value first_semicolon condition second_semicolon step_target step_selection step_equals step closing (stmt_text body rest)) ≡ Ok (For place opening target selection equals value first_semicolon condition second_semicolon step_target step_selection step_equals step closing body, rest)
  unfolding for_at
  for_again place opening target selection equals value first_semicolon condition second_semicolon step_target step_selection step_equals step closing body rest is shallow fits ends =
      let h = heading_again limit opening target selection equals value first_semicolon condition second_semicolon step_target step_selection step_equals step closing (stmt_text body rest) is.0 is.1 is.2 is.3 is.4 (omega arith) (omega arith) (omega arith) in
      let k = complete body rest is.5 (omega arith) fits ends in
      rw h (rw k refl)

  item_again : (may_default : Bool) (i : Item) (rest : List Symbol) → IsItem i → item_height i ≤ limit → item_depth i ≤ d → item_defaults i ≤ allowed may_default → is_else rest ≡ false → item_at limit next may_default (item_text i rest) ≡ Ok (i, rest)
  unfolding item_at labels_item_at default_item_at terminal
  item_again may_default (Labels l colon s) rest is shallow fits counted ends =
      let following = symbol_at (symbol.Punctuator punctuator.Colon) colon ∷ stmt_text s rest in
      let e = labels_no_keyword keyword.Default l following in
      let h = labels_again limit l colon (stmt_text s rest) is.0 (omega arith) in
      let k = complete s rest is.1 (omega arith) fits (end_follows s rest ends) in
      rw e (rw h (rw k refl))
  item_again true (Default default_place colon s) rest is shallow fits counted ends =
      let h = colon_again colon s rest in
      let k = complete s rest is shallow fits (end_follows s rest ends) in
      rw h (rw k refl)
  item_again false (Default default_place colon s) rest is shallow fits counted ends = absurd (omega arith)

  further_items_again : (m : ℕ) (may_default : Bool) (l : Items) (rest : List Symbol) → AreItems l → items_height l ≤ limit → items_depth l ≤ d → items_defaults l ≤ item_defaults (first_item l) + allowed may_default
      → length (further_items_text l rest) ≤ m → items_go_on rest ≡ false → is_else rest ≡ false → further_items_at limit next m may_default (first_item l) (further_items_text l rest) ≡ Ok (l, rest)
  unfolding further_items_at
  further_items_again zero may_default (Last i) rest are shallow fits counted enough stops ends = refl
  further_items_again (suc m) may_default (Last i) rest are shallow fits counted enough stops ends = rw stops refl
  further_items_again zero may_default (More i l) rest are shallow fits counted enough stops ends = let h = items_longer l rest in absurd (omega arith)
  further_items_again (suc m) may_default (More i l) rest are shallow fits counted enough stops ends =
      let j = first_item l in
      let following = further_items_text l rest in
      let same = ap length (first_items_text l rest) in
      let longer = item_longer j following in
      let first_shallow = items_first_shallow l in
      let first_fits = items_first_fits l in
      let first_counted = items_first_counted l in
      let h = item_again may_default j following (items_first l are.1) (omega arith) (omega arith) (omega arith) (further_no_else l rest ends) in
      let k = further_items_again m (may_default && not (is_default_item j)) l rest are.1 (omega arith) (omega arith) (still_counted j may_default (items_defaults l) (omega arith)) (omega arith) stops ends in
      rw (first_items_text l rest) (rw (item_goes_on j following) (rw h (rw (item_default j following) (rw k refl))))

  items_again : (l : Items) (rest : List Symbol) → AreItems l → items_height l ≤ limit → items_depth l ≤ d → items_defaults l ≤ 1 → items_go_on rest ≡ false → is_else rest ≡ false → items_at limit next (items_text l rest) ≡ Ok (l, rest)
  unfolding items_at
  items_again l rest are shallow fits counted stops ends =
      let j = first_item l in
      let following = further_items_text l rest in
      let first_shallow = items_first_shallow l in
      let first_fits = items_first_fits l in
      let first_counted = items_first_counted l in
      let h = item_again true j following (items_first l are) (omega arith) (omega arith) (omega arith) (further_no_else l rest ends) in
      let k = further_items_again (length following) (true && not (is_default_item j)) l rest are shallow fits (still_counted j true (items_defaults l) counted) (omega arith) stops ends in
      rw (first_items_text l rest) (rw h (rw (item_default j following) k))

  case_again : (sort : Sort) (place opening : ℕ) (value : Expr) (closing : ℕ) (items : Items) (endcase : ℕ) (rest : List Symbol) → IsExpr value → AreItems items → items_defaults items ≤ 1 → expr_depth value ≤ limit → items_height items ≤ limit → items_depth items ≤ d
      → case_at limit next sort place (condition_text opening value closing (items_text items (symbol_at (symbol.Keyword keyword.Endcase) endcase ∷ rest))) ≡ Ok (Case sort place opening value closing items endcase, rest)
  unfolding case_at terminal
  case_again sort place opening value closing items endcase rest is are counted shallow shallow_items fits =
      let following = symbol_at (symbol.Keyword keyword.Endcase) endcase ∷ rest in
      let h = condition_again limit opening value closing (items_text items following) is shallow in
      let k = items_again items following are shallow_items fits counted refl refl in
      rw h (rw k refl)

  form_again : CompleteStmt limit (suc d) (form_at limit next)
  unfolding form_at stmt_by
  form_again (Assign target selection equals value semicolon) rest is shallow fits ends = assign_again limit target selection equals value semicolon rest is.0 is.1 shallow
  form_again (Block begin body end) rest is shallow fits ends = block_again begin body end rest is shallow (omega arith)
  form_again (Null semicolon) rest is shallow fits ends = refl
  form_again (Nonblocking target selection arrow hold value semicolon) rest is shallow fits ends = nonblocking_again limit target selection arrow hold value semicolon rest is.0 is.1 is.2 shallow
  form_again (Delayed hash delay body) rest is shallow fits ends = delayed_again hash delay body rest is.0 is.1 shallow (omega arith) ends
  form_again (Awaited at_place event body) rest is shallow fits ends = awaited_again at_place event body rest is shallow (omega arith) ends
  form_again (Wait wait opening value closing body) rest is shallow fits ends = wait_again wait opening value closing body rest is.0 is.1 (omega arith) (omega arith) (omega arith) ends
  form_again (When if_place opening value closing first) rest is shallow fits ends = when_again if_place opening value closing first rest is.0 is.1 (omega arith) (omega arith) (omega arith) ends
  form_again (Choose if_place opening value closing first else_place second) rest is shallow fits ends = choose_again if_place opening value closing first else_place second rest is shallow fits ends
  form_again (While while_place opening value closing body) rest is shallow fits ends = while_again while_place opening value closing body rest is.0 is.1 (omega arith) (omega arith) (omega arith) ends
  form_again (For for_place opening target selection equals value first_semicolon condition second_semicolon step_target step_selection step_equals step closing body) rest is shallow fits ends = for_again for_place opening target selection equals value first_semicolon condition second_semicolon step_target step_selection step_equals step closing body rest is shallow (omega arith) ends
  form_again (Case Exact case_place opening value closing items endcase) rest is shallow fits ends = case_again Exact case_place opening value closing items endcase rest is.0 is.1 is.2 (omega arith) (omega arith) (omega arith)
  form_again (Case Wild case_place opening value closing items endcase) rest is shallow fits ends = case_again Wild case_place opening value closing items endcase rest is.0 is.1 is.2 (omega arith) (omega arith) (omega arith)
  form_again (Finish finish argument semicolon) rest is shallow fits ends = finish_again finish argument semicolon rest is
  form_again (Forever forever body) rest is shallow fits ends = forever_again forever body rest is shallow (omega arith) ends

-- what is spelled as a statement is read as that statement
pub stmt_again : (limit d : ℕ) → CompleteStmt limit d (stmt_at limit d)
unfolding stmt_at
stmt_again limit zero s rest is shallow fits ends = let h = stmt_above s in absurd (omega arith)
stmt_again limit (suc d) s rest is shallow fits ends = form_again limit d (stmt_at limit d) (stmt_again limit d) s rest is shallow fits ends

-- Reading symbols from left to right: the derivation that they spell, or where it stops.
use Rattle.std.specs.Prelude.{ℕ, zero, suc, ◌+◌, ◌-◌, nat_lt, not, Bool, false, if◌then◌else◌, List, [], ◌∷◌, length, Ok, Err, ◌||◌, ◌&&◌, true}
use Rattle.vp_lex.specs.declared.keyword.Keyword.TheVariants as keyword
use Rattle.vp_lex.specs.declared.token.Punctuator.TheVariants as punctuator
use Rattle.vp_source.specs.declared.symbol.Symbol.{Symbol}
use Rattle.vp_source.specs.declared.symbol.SymbolKind.{SymbolKind}
use Rattle.vp_source.specs.declared.symbol.SymbolKind.TheVariants as symbol
use Rattle.vp_source.specs.declared.symbol.TheConstants.{NUMBER_LIMIT}
use Rattle.vp_source.specs.Kinds.{same_kind}
use Rattle.vp_source.specs.ExprGrammar.{Expr, Selection}
use Rattle.vp_parse_expr.specs.Stopping.{Unexpected, TooDeep, ◌>>=◌, Reader, refused, is_next, terminal}
use Rattle.vp_parse_expr.specs.Reading.{expr_at, selection_at}
use Rattle.vp_source.specs.StmtGrammar.{Delay, Plain, Grouped, Hold, Now, Later, Stmt, Stmts, Assign, Block, Null, Nonblocking, Delayed, Wait, When, Choose, While, Forever, Empty, Then, For, Edge, Posedge, Negedge, Term, Level, Edged, Separator, Or, Comma, TermList, Single, Further, Event, Any, AnyGrouped, Change, Terms, edge_kind, separator_kind, Awaited, Sort, Exact, Wild, LabelList, Only, Also, Colon, Unmarked, Marked, Items, Last, More, Item, Labels, Default, Case, Argument, None, Given, Finish}

-- a target, and the expression that it is to have, with the places of these (9.2.1)
pub record Blocking : Type 0 where
  pub target : ℕ
  pub selection : Selection
  pub equals : ℕ
  pub value : Expr

-- a term and what stands before it, with the place of that (9.7.4)
pub record Joined : Type 0 where
  pub separator : Separator
  pub place : ℕ
  pub term : Term

-- what stands in the parentheses of a for, with the places of these (9.6)
pub record Heading : Type 0 where
  pub opening : ℕ
  pub start : Blocking
  pub first_semicolon : ℕ
  pub condition : Expr
  pub second_semicolon : ℕ
  pub step : Blocking
  pub closing : ℕ

-- a label after a comma, with the place of that (9.5)
pub record FurtherLabel : Type 0 where
  pub comma : ℕ
  pub value : Expr

-- an expression in parentheses, and the places of these (9.4 to 9.7)
pub record Condition : Type 0 where
  pub opening : ℕ
  pub value : Expr
  pub closing : ℕ

-- an expression in parentheses, and the statement after it (9.4 to 9.7)
pub record Guarded : Type 0 where
  pub opening : ℕ
  pub value : Expr
  pub closing : ℕ
  pub body : Stmt

-- a block goes on: it is neither at its end nor at the end of the text (9.8.1)
abbrev pub goes_on : List Symbol → Bool
goes_on [] = false
goes_on (s ∷ ts) = not (same_kind (symbol.Keyword keyword.End) s.kind)

-- the statements of a block, up to its end; a number bounds how many (9.8.1)
unfoldable pub stmts_at : Reader Stmt → ℕ → Reader Stmts
stmts_at next zero ts = Ok (Empty, ts)
stmts_at next (suc m) ts =
    if goes_on ts
    then (next ts >>= λ s. stmts_at next m s.1 >>= λ l. Ok (Then s.0 l.0, l.1))
    else Ok (Empty, ts)

-- ---- delays

-- a number without a base, by its symbol's kind and place: its value and its place (9.7.1; profile)
unfoldable pub amount_by : SymbolKind → ℕ → Reader (ℕ × ℕ)
amount_by (symbol.Number number) place ts =
    if nat_lt number NUMBER_LIMIT then Ok ((number, place), ts) else Err (Unexpected (length ts + 1))
amount_by _ place ts = Err (Unexpected (length ts + 1))

-- a number without a base: its value and its place (9.7.1; profile)
unfoldable pub amount_at : Reader (ℕ × ℕ)
amount_at [] = refused []
amount_at (s ∷ ts) = amount_by s.kind s.place ts

-- a number in parentheses (9.7.1)
unfoldable pub grouped_delay_at : Reader Delay
grouped_delay_at ts = do
  opening ← terminal (symbol.Punctuator punctuator.LeftParenthesis) ts
  amount ← amount_at opening.1
  closing ← terminal (symbol.Punctuator punctuator.RightParenthesis) amount.1
  Ok (Grouped opening.0 amount.0.0 amount.0.1 closing.0, closing.1)

-- a delay, from after its # (9.7.1)
unfoldable pub delay_at : Reader Delay
delay_at ts =
    if is_next (symbol.Punctuator punctuator.LeftParenthesis) ts
    then grouped_delay_at ts
    else (amount_at ts >>= λ amount. Ok (Plain amount.0.0 amount.0.1, amount.1))

-- a # and a delay (9.2.2)
unfoldable pub later_at : Reader Hold
later_at ts = do
  hash ← terminal (symbol.Punctuator punctuator.Hash) ts
  delay ← delay_at hash.1
  Ok (Later hash.0 delay.0, delay.1)

-- the delay of a nonblocking assignment, if it is next (9.2.2)
unfoldable pub hold_at : Reader Hold
hold_at ts = if is_next (symbol.Punctuator punctuator.Hash) ts then later_at ts else Ok (Now, ts)

-- ---- assignments

-- what a target is to have, from after what is selected of it, by an expression that nests at most so deep (9.2.1)
unfoldable pub blocking_at : (limit target : ℕ) → Selection → Reader Blocking
blocking_at limit target selection ts = do
  equals ← terminal (symbol.Punctuator punctuator.Equals) ts
  value ← expr_at limit 0 equals.1
  Ok (record { target = target; selection = selection; equals = equals.0; value = value.0 }, value.1)

-- a blocking assignment, from after what is selected of its target (9.2.1)
unfoldable pub assign_at : (limit target : ℕ) → Selection → Reader Stmt
assign_at limit target selection ts = do
  blocking ← blocking_at limit target selection ts
  semicolon ← terminal (symbol.Punctuator punctuator.Semicolon) blocking.1
  Ok (Assign blocking.0.target blocking.0.selection blocking.0.equals blocking.0.value semicolon.0, semicolon.1)

-- a nonblocking assignment, from after what is selected of its target, by an expression that nests at most so deep (9.2.2)
unfoldable pub nonblocking_at : (limit target : ℕ) → Selection → Reader Stmt
nonblocking_at limit target selection ts = do
  arrow ← terminal (symbol.Punctuator punctuator.LessOrEqual) ts
  hold ← hold_at arrow.1
  value ← expr_at limit 0 hold.1
  semicolon ← terminal (symbol.Punctuator punctuator.Semicolon) value.1
  Ok (Nonblocking target selection arrow.0 hold.0 value.0 semicolon.0, semicolon.1)

-- a nonblocking assignment goes on after what is selected of its target (9.2.2)
abbrev pub is_arrow : List Symbol → Bool
is_arrow ts = is_next (symbol.Punctuator punctuator.LessOrEqual) ts

-- an assignment, from after what is selected of its target (9.2)
unfoldable pub set_at : (limit target : ℕ) → Selection → Reader Stmt
set_at limit target selection ts = if is_arrow ts then nonblocking_at limit target selection ts else assign_at limit target selection ts

-- an assignment, from after the name of its target, with expressions that nest at most so deep (9.2)
unfoldable pub assignment_at : (limit target : ℕ) → Reader Stmt
assignment_at limit target ts = do
  selection ← selection_at (limit - 1) ts
  set_at limit target selection.0 selection.1

-- ---- blocks

-- a block, from after its begin (9.8.1)
unfoldable pub block_at : Reader Stmt → ℕ → Reader Stmt
block_at next begin ts = do
  body ← stmts_at next (length ts) ts
  end ← terminal (symbol.Keyword keyword.End) body.1
  Ok (Block begin body.0 end.0, end.1)

-- ---- events

-- an edge and a name (9.7.2)
unfoldable pub edged_at : Edge → Reader Term
edged_at edge ts = do
  place ← terminal (edge_kind edge) ts
  name ← terminal symbol.Name place.1
  Ok (Edged edge place.0 name.0, name.1)

-- a term of an event (9.7.2)
unfoldable pub term_at : Reader Term
term_at ts =
    if is_next (edge_kind Posedge) ts
    then edged_at Posedge ts
    else (if is_next (edge_kind Negedge) ts then edged_at Negedge ts else (terminal symbol.Name ts >>= λ name. Ok (Level name.0, name.1)))

-- terms go on (9.7.4)
abbrev pub is_separator : List Symbol → Bool
is_separator ts = is_next (separator_kind Or) ts || is_next (separator_kind Comma) ts

-- what stands between terms, with its place (9.7.4)
unfoldable pub separator_by : Separator → Reader (Separator × ℕ)
separator_by separator ts = do
  place ← terminal (separator_kind separator) ts
  Ok ((separator, place.0), place.1)

-- what stands between terms: a comma, or else an or (9.7.4)
unfoldable pub separator_at : Reader (Separator × ℕ)
separator_at ts = if is_next (separator_kind Comma) ts then separator_by Comma ts else separator_by Or ts

-- one more term, from what stands before it on (9.7.4)
unfoldable pub joined_at : Reader Joined
joined_at ts = do
  separator ← separator_at ts
  term ← term_at separator.1
  Ok (record { separator = separator.0.0; place = separator.0.1; term = term.0 }, term.1)

-- the terms after a first one; a number bounds how many (9.7.4)
unfoldable pub further_terms_at : ℕ → Term → Reader TermList
further_terms_at zero t ts = Ok (Single t, ts)
further_terms_at (suc m) t ts =
    if is_separator ts
    then (joined_at ts >>= λ j. further_terms_at m j.0.term j.1 >>= λ l. Ok (Further t j.0.separator j.0.place l.0, l.1))
    else Ok (Single t, ts)

-- the terms of an event (9.7.4)
unfoldable pub terms_at : Reader TermList
terms_at ts = do
  first ← term_at ts
  further_terms_at (length first.1) first.0 first.1

-- terms, from after the parenthesis before them (9.7.4)
unfoldable pub terms_event_at : ℕ → Reader Event
terms_event_at opening ts = do
  terms ← terms_at ts
  closing ← terminal (symbol.Punctuator punctuator.RightParenthesis) terms.1
  Ok (Terms opening terms.0 closing.0, closing.1)

-- a star, from after the parenthesis before it (9.7.5)
unfoldable pub star_event_at : ℕ → Reader Event
star_event_at opening ts = do
  star ← terminal (symbol.Punctuator punctuator.Asterisk) ts
  closing ← terminal (symbol.Punctuator punctuator.RightParenthesis) star.1
  Ok (AnyGrouped opening star.0 closing.0, closing.1)

-- an event, from after its first symbol, by that symbol's kind and place (9.7.2 to 9.7.5)
unfoldable pub event_by : SymbolKind → ℕ → Reader Event
event_by symbol.Name place ts = Ok (Change place, ts)
event_by (symbol.Punctuator punctuator.Asterisk) place ts = Ok (Any place, ts)
event_by (symbol.Punctuator punctuator.LeftParenthesis) place ts =
    if is_next (symbol.Punctuator punctuator.Asterisk) ts then star_event_at place ts else terms_event_at place ts
event_by _ place ts = Err (Unexpected (length ts + 1))

-- an event (9.7.2 to 9.7.5)
unfoldable pub event_at : Reader Event
event_at [] = refused []
event_at (s ∷ ts) = event_by s.kind s.place ts

-- ---- statements in others

-- a statement after an event, from after its @ (9.7.2 to 9.7.5)
unfoldable pub awaited_at : Reader Stmt → ℕ → Reader Stmt
awaited_at next place ts = do
  event ← event_at ts
  body ← next event.1
  Ok (Awaited place event.0 body.0, body.1)

-- a statement after a delay, from after its # (9.7.1)
unfoldable pub delayed_at : Reader Stmt → ℕ → Reader Stmt
delayed_at next place ts = do
  delay ← delay_at ts
  body ← next delay.1
  Ok (Delayed place delay.0 body.0, body.1)

-- an expression in parentheses, which nests at most so deep (9.4 to 9.7)
unfoldable pub condition_at : (limit : ℕ) → Reader Condition
condition_at limit ts = do
  opening ← terminal (symbol.Punctuator punctuator.LeftParenthesis) ts
  value ← expr_at limit 0 opening.1
  closing ← terminal (symbol.Punctuator punctuator.RightParenthesis) value.1
  Ok (record { opening = opening.0; value = value.0; closing = closing.0 }, closing.1)

-- an expression in parentheses, and a statement (9.4 to 9.7)
unfoldable pub guarded_at : (limit : ℕ) → Reader Stmt → Reader Guarded
guarded_at limit next ts = do
  condition ← condition_at limit ts
  body ← next condition.1
  Ok (record { opening = condition.0.opening; value = condition.0.value; closing = condition.0.closing; body = body.0 }, body.1)

-- a wait, from after its keyword (9.7.6)
unfoldable pub wait_at : (limit : ℕ) → Reader Stmt → ℕ → Reader Stmt
wait_at limit next place ts = do
  guarded ← guarded_at limit next ts
  Ok (Wait place guarded.0.opening guarded.0.value guarded.0.closing guarded.0.body, guarded.1)

-- a while, from after its keyword (9.6)
unfoldable pub while_at : (limit : ℕ) → Reader Stmt → ℕ → Reader Stmt
while_at limit next place ts = do
  guarded ← guarded_at limit next ts
  Ok (While place guarded.0.opening guarded.0.value guarded.0.closing guarded.0.body, guarded.1)

-- a forever, from after its keyword (9.6)
unfoldable pub forever_at : Reader Stmt → ℕ → Reader Stmt
forever_at next place ts = do
  body ← next ts
  Ok (Forever place body.0, body.1)

-- an else is next (9.4)
abbrev pub is_else : List Symbol → Bool
is_else ts = is_next (symbol.Keyword keyword.Else) ts

-- an else and its statement (9.4)
unfoldable pub second_at : Reader Stmt → ℕ → Guarded → Reader Stmt
second_at next place first ts = do
  else_place ← terminal (symbol.Keyword keyword.Else) ts
  second ← next else_place.1
  Ok (Choose place first.opening first.value first.closing first.body else_place.0 second.0, second.1)

-- an else, if it is next (9.4)
unfoldable pub else_at : Reader Stmt → ℕ → Guarded → Reader Stmt
else_at next place first ts =
    if is_else ts then second_at next place first ts else Ok (When place first.opening first.value first.closing first.body, ts)

-- an if, from after its keyword (9.4)
unfoldable pub if_at : (limit : ℕ) → Reader Stmt → ℕ → Reader Stmt
if_at limit next place ts = do
  first ← guarded_at limit next ts
  else_at next place first.0 first.1

-- a target and what it is to have, with expressions that nest at most so deep (9.2.1)
unfoldable pub named_blocking_at : (limit : ℕ) → Reader Blocking
named_blocking_at limit ts = do
  target ← terminal symbol.Name ts
  selection ← selection_at (limit - 1) target.1
  blocking_at limit target.0 selection.0 selection.1

-- what stands in the parentheses of a for, with expressions that nest at most so deep (9.6)
unfoldable pub heading_at : (limit : ℕ) → Reader Heading
heading_at limit ts = do
  opening ← terminal (symbol.Punctuator punctuator.LeftParenthesis) ts
  start ← named_blocking_at limit opening.1
  first ← terminal (symbol.Punctuator punctuator.Semicolon) start.1
  condition ← expr_at limit 0 first.1
  second ← terminal (symbol.Punctuator punctuator.Semicolon) condition.1
  step ← named_blocking_at limit second.1
  closing ← terminal (symbol.Punctuator punctuator.RightParenthesis) step.1
  Ok (
    record {
      opening = opening.0;
      start = start.0;
      first_semicolon = first.0;
      condition = condition.0;
      second_semicolon = second.0;
      step = step.0;
      closing = closing.0;
    },
    closing.1,
  )

-- the for of a heading and a statement (9.6)
abbrev pub for_of : ℕ → Heading → Stmt → Stmt
for_of place h body =
    For place h.opening h.start.target h.start.selection h.start.equals h.start.value h.first_semicolon h.condition h.second_semicolon h.step.target h.step.selection h.step.equals h.step.value h.closing body

-- a for, from after its keyword (9.6)
unfoldable pub for_at : (limit : ℕ) → Reader Stmt → ℕ → Reader Stmt
for_at limit next place ts = do
  heading ← heading_at limit ts
  body ← next heading.1
  Ok (for_of place heading.0 body.0, body.1)

-- ---- the end of a simulation

-- an argument (17.4.1)
unfoldable pub given_at : Reader Argument
given_at ts = do
  opening ← terminal (symbol.Punctuator punctuator.LeftParenthesis) ts
  number ← amount_at opening.1
  closing ← terminal (symbol.Punctuator punctuator.RightParenthesis) number.1
  Ok (Given opening.0 number.0.0 number.0.1 closing.0, closing.1)

-- an argument, if it is next (17.4.1)
unfoldable pub argument_at : Reader Argument
argument_at ts = if is_next (symbol.Punctuator punctuator.LeftParenthesis) ts then given_at ts else Ok (None, ts)

-- the end of a simulation, from after its name (17.4.1)
unfoldable pub finish_at : ℕ → Reader Stmt
finish_at place ts = do
  argument ← argument_at ts
  semicolon ← terminal (symbol.Punctuator punctuator.Semicolon) argument.1
  Ok (Finish place argument.0 semicolon.0, semicolon.1)

-- ---- cases

-- a label, from the comma before it on (9.5)
unfoldable pub further_label_at : (limit : ℕ) → Reader FurtherLabel
further_label_at limit ts = do
  comma ← terminal (symbol.Punctuator punctuator.Comma) ts
  value ← expr_at limit 0 comma.1
  Ok (record { comma = comma.0; value = value.0 }, value.1)

-- the labels after a first one; a number bounds how many (9.5)
unfoldable pub further_labels_at : (limit : ℕ) → ℕ → Expr → Reader LabelList
further_labels_at limit zero e ts = Ok (Only e, ts)
further_labels_at limit (suc m) e ts =
    if is_next (symbol.Punctuator punctuator.Comma) ts
    then (further_label_at limit ts >>= λ j. further_labels_at limit m j.0.value j.1 >>= λ l. Ok (Also e j.0.comma l.0, l.1))
    else Ok (Only e, ts)

-- the labels of an item of a case, which nest at most so deep (9.5)
unfoldable pub labels_at : (limit : ℕ) → Reader LabelList
labels_at limit ts = do
  first ← expr_at limit 0 ts
  further_labels_at limit (length first.1) first.0 first.1

-- an item with labels (9.5)
unfoldable pub labels_item_at : (limit : ℕ) → Reader Stmt → Reader Item
labels_item_at limit next ts = do
  labels ← labels_at limit ts
  colon ← terminal (symbol.Punctuator punctuator.Colon) labels.1
  body ← next colon.1
  Ok (Labels labels.0 colon.0 body.0, body.1)

-- a colon, if it is next (9.5)
unfoldable pub colon_at : Reader Colon
colon_at ts =
    if is_next (symbol.Punctuator punctuator.Colon) ts
    then (terminal (symbol.Punctuator punctuator.Colon) ts >>= λ colon. Ok (Marked colon.0, colon.1))
    else Ok (Unmarked, ts)

-- an item for anything else (9.5)
unfoldable pub default_item_at : Reader Stmt → Reader Item
default_item_at next ts = do
  default_place ← terminal (symbol.Keyword keyword.Default) ts
  colon ← colon_at default_place.1
  body ← next colon.1
  Ok (Default default_place.0 colon.0 body.0, body.1)

-- a default is next (9.5)
abbrev pub is_default : List Symbol → Bool
is_default ts = is_next (symbol.Keyword keyword.Default) ts

-- an item of a case, which may be a default or not (9.5)
unfoldable pub item_at : (limit : ℕ) → Reader Stmt → (may_default : Bool) → Reader Item
item_at limit next may_default ts =
    if is_default ts then (if may_default then default_item_at next ts else refused ts) else labels_item_at limit next ts

-- the items of a case go on: it is neither at its end nor at the end of the text (9.5)
abbrev pub items_go_on : List Symbol → Bool
items_go_on [] = false
items_go_on (s ∷ ts) = not (same_kind (symbol.Keyword keyword.Endcase) s.kind)

-- a further item may be a default (9.5)
abbrev pub may_still : Bool → List Symbol → Bool
may_still may_default ts = may_default && not (is_default ts)

-- the items after a first one; a number bounds how many (9.5)
unfoldable pub further_items_at : (limit : ℕ) → Reader Stmt → ℕ → (may_default : Bool) → Item → Reader Items
further_items_at limit next zero may_default i ts = Ok (Last i, ts)
further_items_at limit next (suc m) may_default i ts =
    if items_go_on ts
    then (item_at limit next may_default ts >>= λ j. further_items_at limit next m (may_still may_default ts) j.0 j.1 >>= λ l. Ok (More i l.0, l.1))
    else Ok (Last i, ts)

-- the items of a case (9.5)
unfoldable pub items_at : (limit : ℕ) → Reader Stmt → Reader Items
items_at limit next ts = do
  first ← item_at limit next true ts
  further_items_at limit next (length first.1) (may_still true ts) first.0 first.1

-- a case, from after its keyword (9.5)
unfoldable pub case_at : (limit : ℕ) → Reader Stmt → Sort → ℕ → Reader Stmt
case_at limit next sort place ts = do
  selector ← condition_at limit ts
  items ← items_at limit next selector.1
  endcase ← terminal (symbol.Keyword keyword.Endcase) items.1
  Ok (Case sort place selector.0.opening selector.0.value selector.0.closing items.0 endcase.0, endcase.1)

-- a statement, from after its first symbol, by that symbol's kind and place (A.6.4)
unfoldable pub stmt_by : ℕ → Reader Stmt → SymbolKind → ℕ → Reader Stmt
stmt_by limit next symbol.Name place ts = assignment_at limit place ts
stmt_by limit next (symbol.Keyword keyword.Begin) place ts = block_at next place ts
stmt_by limit next (symbol.Punctuator punctuator.Semicolon) place ts = Ok (Null place, ts)
stmt_by limit next (symbol.Punctuator punctuator.Hash) place ts = delayed_at next place ts
stmt_by limit next (symbol.Punctuator punctuator.At) place ts = awaited_at next place ts
stmt_by limit next (symbol.Keyword keyword.Wait) place ts = wait_at limit next place ts
stmt_by limit next (symbol.Keyword keyword.If) place ts = if_at limit next place ts
stmt_by limit next (symbol.Keyword keyword.While) place ts = while_at limit next place ts
stmt_by limit next (symbol.Keyword keyword.Case) place ts = case_at limit next Exact place ts
stmt_by limit next (symbol.Keyword keyword.Casez) place ts = case_at limit next Wild place ts
stmt_by limit next symbol.Finish place ts = finish_at place ts
stmt_by limit next (symbol.Keyword keyword.Forever) place ts = forever_at next place ts
stmt_by limit next (symbol.Keyword keyword.For) place ts = for_at limit next place ts
stmt_by limit next _ place ts = Err (Unexpected (length ts + 1))

-- a statement, with expressions that nest at most so deep, and the reader of the statements in it (A.6.4)
unfoldable pub form_at : ℕ → Reader Stmt → Reader Stmt
form_at limit next [] = refused []
form_at limit next (s ∷ ts) = stmt_by limit next s.kind s.place ts

-- a statement with expressions that nest at most so deep, and which nests itself at most so deep (profile)
unfoldable pub stmt_at : (limit depth : ℕ) → Reader Stmt
stmt_at limit zero ts = Err (TooDeep (length ts))
stmt_at limit (suc d) ts = form_at limit (stmt_at limit d) ts

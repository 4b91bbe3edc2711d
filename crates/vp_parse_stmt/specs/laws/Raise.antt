-- A higher limit changes nothing but where the limit was met.
use Rattle.std.proofs.Common.{ℕ, zero, suc, ◌-◌, ◌≤◌, List, [], ◌∷◌, length, true, false, cond, Ok, refl, arith, Bool}
use Rattle.vp_lex.specs.declared.keyword.Keyword.TheVariants as keyword
use Rattle.vp_lex.specs.declared.token.Punctuator.TheVariants as punctuator
use Rattle.vp_source.specs.declared.symbol.Symbol.{Symbol}
use Rattle.vp_source.specs.declared.symbol.SymbolKind.{SymbolKind}
use Rattle.vp_source.specs.declared.symbol.SymbolKind.TheVariants as symbol
use Rattle.vp_source.specs.ExprGrammar.{Selection, Expr}
use Rattle.vp_parse_expr.specs.Stopping.{◌>>=◌, Reader, terminal, refused, is_next}
use Rattle.vp_parse_expr.specs.Reading.{expr_at, selection_at}
use Rattle.vp_parse_expr.specs.laws.Raise.{OrTooDeep, OrTooDeep-same, OrTooDeep-bind, OrTooDeep-then, OrTooDeep-if, Below, expr_raise, selection_raise}
use Rattle.vp_source.specs.StmtGrammar.{Stmt, Stmts, Block, Empty, Then, Sort, Exact, Wild, Item}
use Rattle.vp_parse_stmt.specs.Reading.{Guarded, goes_on, stmts_at, delay_at, hold_at, blocking_at, assign_at, nonblocking_at, is_arrow, set_at, assignment_at, block_at, delayed_at, condition_at, guarded_at, wait_at, while_at, forever_at, is_else, second_at, else_at, if_at, stmt_by, form_at, stmt_at, named_blocking_at, heading_at, for_at, event_at, awaited_at, further_label_at, further_labels_at, labels_at, labels_item_at, colon_at, default_item_at, is_default, item_at, items_go_on, may_still, further_items_at, items_at, case_at, finish_at}

blocking_raise : (low high target : ℕ) (selection : Selection) → low ≤ high → Below (blocking_at low target selection) (blocking_at high target selection)
unfolding blocking_at
blocking_raise low high target selection le ts =
    OrTooDeep-then (terminal (symbol.Punctuator punctuator.Equals) ts) _ _
    (λ q. OrTooDeep-bind (expr_at low 0 q.1) (expr_at high 0 q.1) _ _ (expr_raise low high le 0 q.1) (λ v. refl))

assign_raise : (low high target : ℕ) (selection : Selection) → low ≤ high → Below (assign_at low target selection) (assign_at high target selection)
unfolding assign_at
assign_raise low high target selection le ts =
    OrTooDeep-bind (blocking_at low target selection ts) (blocking_at high target selection ts) _ _ (blocking_raise low high target selection le ts)
    (λ b. OrTooDeep-then (terminal (symbol.Punctuator punctuator.Semicolon) b.1) _ _ (λ s. refl))

nonblocking_raise : (low high target : ℕ) (selection : Selection) → low ≤ high → Below (nonblocking_at low target selection) (nonblocking_at high target selection)
unfolding nonblocking_at
nonblocking_raise low high target selection le ts =
    OrTooDeep-then (terminal (symbol.Punctuator punctuator.LessOrEqual) ts) _ _
    (λ a. OrTooDeep-then (hold_at a.1) _ _
    (λ h. OrTooDeep-bind (expr_at low 0 h.1) (expr_at high 0 h.1) _ _ (expr_raise low high le 0 h.1)
    (λ v. OrTooDeep-then (terminal (symbol.Punctuator punctuator.Semicolon) v.1) _ _ (λ s. refl))))

set_raise : (low high target : ℕ) (selection : Selection) → low ≤ high → Below (set_at low target selection) (set_at high target selection)
unfolding set_at
set_raise low high target selection le ts =
    OrTooDeep-if (is_arrow ts) _ _ _ _ (nonblocking_raise low high target selection le ts) (assign_raise low high target selection le ts)

assignment_raise : (low high target : ℕ) → low ≤ high → Below (assignment_at low target) (assignment_at high target)
unfolding assignment_at
assignment_raise low high target le ts =
    OrTooDeep-bind (selection_at (low - 1) ts) (selection_at (high - 1) ts) _ _ (selection_raise (low - 1) (high - 1) (omega arith) ts)
    (λ b. set_raise low high target b.0 le b.1)

named_blocking_raise : (low high : ℕ) → low ≤ high → Below (named_blocking_at low) (named_blocking_at high)
unfolding named_blocking_at
named_blocking_raise low high le ts =
    OrTooDeep-then (terminal symbol.Name ts) _ _
    (λ t. OrTooDeep-bind (selection_at (low - 1) t.1) (selection_at (high - 1) t.1) _ _ (selection_raise (low - 1) (high - 1) (omega arith) t.1)
    (λ b. blocking_raise low high t.0 b.0 le b.1))

heading_raise : (low high : ℕ) → low ≤ high → Below (heading_at low) (heading_at high)
unfolding heading_at
heading_raise low high le ts =
    OrTooDeep-then (terminal (symbol.Punctuator punctuator.LeftParenthesis) ts) _ _
    (λ o. OrTooDeep-bind (named_blocking_at low o.1) (named_blocking_at high o.1) _ _ (named_blocking_raise low high le o.1)
    (λ a. OrTooDeep-then (terminal (symbol.Punctuator punctuator.Semicolon) a.1) _ _
    (λ f. OrTooDeep-bind (expr_at low 0 f.1) (expr_at high 0 f.1) _ _ (expr_raise low high le 0 f.1)
    (λ c. OrTooDeep-then (terminal (symbol.Punctuator punctuator.Semicolon) c.1) _ _
    (λ s. OrTooDeep-bind (named_blocking_at low s.1) (named_blocking_at high s.1) _ _ (named_blocking_raise low high le s.1)
    (λ b. OrTooDeep-then (terminal (symbol.Punctuator punctuator.RightParenthesis) b.1) _ _ (λ z. refl)))))))

condition_raise : (low high : ℕ) → low ≤ high → Below (condition_at low) (condition_at high)
unfolding condition_at
condition_raise low high le ts =
    OrTooDeep-then (terminal (symbol.Punctuator punctuator.LeftParenthesis) ts) _ _
    (λ o. OrTooDeep-bind (expr_at low 0 o.1) (expr_at high 0 o.1) _ _ (expr_raise low high le 0 o.1)
    (λ v. OrTooDeep-then (terminal (symbol.Punctuator punctuator.RightParenthesis) v.1) _ _ (λ z. refl)))

-- ---- labels

further_label_raise : (low high : ℕ) → low ≤ high → Below (further_label_at low) (further_label_at high)
unfolding further_label_at
further_label_raise low high le ts =
    OrTooDeep-then (terminal (symbol.Punctuator punctuator.Comma) ts) _ _
    (λ c. OrTooDeep-bind (expr_at low 0 c.1) (expr_at high 0 c.1) _ _ (expr_raise low high le 0 c.1) (λ v. refl))

further_labels_raise : (low high : ℕ) → low ≤ high → (m : ℕ) (e : Expr) → Below (further_labels_at low m e) (further_labels_at high m e)
unfolding further_labels_at
further_labels_raise low high le zero e ts = refl
further_labels_raise low high le (suc m) e ts =
    OrTooDeep-if (is_next (symbol.Punctuator punctuator.Comma) ts) _ _ _ _
    (OrTooDeep-bind (further_label_at low ts) (further_label_at high ts) _ _ (further_label_raise low high le ts)
    (λ j. OrTooDeep-bind (further_labels_at low m j.0.value j.1) (further_labels_at high m j.0.value j.1) _ _ (further_labels_raise low high le m j.0.value j.1) (λ l. refl)))
    refl

labels_raise : (low high : ℕ) → low ≤ high → Below (labels_at low) (labels_at high)
unfolding labels_at
labels_raise low high le ts =
    OrTooDeep-bind (expr_at low 0 ts) (expr_at high 0 ts) _ _ (expr_raise low high le 0 ts)
    (λ e. further_labels_raise low high le (length e.1) e.0 e.1)

module _ (low high : Reader Stmt) (below : Below low high) where
  stmts_raise : (m : ℕ) → Below (stmts_at low m) (stmts_at high m)
  unfolding stmts_at
  stmts_raise zero ts = refl
  stmts_raise (suc m) ts =
      elim (goes_on ts) as (λ b. OrTooDeep {A = Stmts × List Symbol}
      (cond b (low ts >>= λ s. stmts_at low m s.1 >>= λ l. Ok (Then s.0 l.0, l.1)) (Ok (Empty, ts)))
      (cond b (high ts >>= λ s. stmts_at high m s.1 >>= λ l. Ok (Then s.0 l.0, l.1)) (Ok (Empty, ts)))) [
        | false ↦ refl
        | true ↦ OrTooDeep-bind (low ts) (high ts) (λ s. stmts_at low m s.1 >>= λ l. Ok (Then s.0 l.0, l.1)) (λ s. stmts_at high m s.1 >>= λ l. Ok (Then s.0 l.0, l.1)) (below ts)
            (λ s. OrTooDeep-bind (stmts_at low m s.1) (stmts_at high m s.1) (λ l. Ok (Then s.0 l.0, l.1)) (λ l. Ok (Then s.0 l.0, l.1)) (stmts_raise m s.1) (λ l. refl))
      ]

  block_raise : (begin : ℕ) → Below (block_at low begin) (block_at high begin)
  unfolding block_at
  block_raise begin ts =
      OrTooDeep-bind (stmts_at low (length ts) ts) (stmts_at high (length ts) ts) (λ l. terminal (symbol.Keyword keyword.End) l.1 >>= λ s. Ok (Block begin l.0 s.0, s.1)) (λ l. terminal (symbol.Keyword keyword.End) l.1 >>= λ s. Ok (Block begin l.0 s.0, s.1)) (stmts_raise (length ts) ts)
      (λ l. OrTooDeep-same (terminal (symbol.Keyword keyword.End) l.1 >>= λ s. Ok (Block begin l.0 s.0, s.1)))

  delayed_raise : (place : ℕ) → Below (delayed_at low place) (delayed_at high place)
  unfolding delayed_at
  delayed_raise place ts =
      OrTooDeep-then (delay_at ts) _ _ (λ d. OrTooDeep-bind (low d.1) (high d.1) _ _ (below d.1) (λ s. refl))

  awaited_raise : (place : ℕ) → Below (awaited_at low place) (awaited_at high place)
  unfolding awaited_at
  awaited_raise place ts =
      OrTooDeep-then (event_at ts) _ _ (λ e. OrTooDeep-bind (low e.1) (high e.1) _ _ (below e.1) (λ s. refl))

  guarded_raise : (shallow deep : ℕ) → shallow ≤ deep → Below (guarded_at shallow low) (guarded_at deep high)
  unfolding guarded_at
  guarded_raise shallow deep le ts =
      OrTooDeep-bind (condition_at shallow ts) (condition_at deep ts) _ _ (condition_raise shallow deep le ts)
      (λ c. OrTooDeep-bind (low c.1) (high c.1) _ _ (below c.1) (λ s. refl))

  wait_raise : (shallow deep place : ℕ) → shallow ≤ deep → Below (wait_at shallow low place) (wait_at deep high place)
  unfolding wait_at
  wait_raise shallow deep place le ts =
      OrTooDeep-bind (guarded_at shallow low ts) (guarded_at deep high ts) _ _ (guarded_raise shallow deep le ts) (λ g. refl)

  while_raise : (shallow deep place : ℕ) → shallow ≤ deep → Below (while_at shallow low place) (while_at deep high place)
  unfolding while_at
  while_raise shallow deep place le ts =
      OrTooDeep-bind (guarded_at shallow low ts) (guarded_at deep high ts) _ _ (guarded_raise shallow deep le ts) (λ g. refl)

  forever_raise : (place : ℕ) → Below (forever_at low place) (forever_at high place)
  unfolding forever_at
  forever_raise place ts = OrTooDeep-bind (low ts) (high ts) _ _ (below ts) (λ s. refl)

  second_raise : (place : ℕ) (first : Guarded) → Below (second_at low place first) (second_at high place first)
  unfolding second_at
  second_raise place first ts =
      OrTooDeep-then (terminal (symbol.Keyword keyword.Else) ts) _ _
      (λ e. OrTooDeep-bind (low e.1) (high e.1) _ _ (below e.1) (λ s. refl))

  else_raise : (place : ℕ) (first : Guarded) → Below (else_at low place first) (else_at high place first)
  unfolding else_at
  else_raise place first ts = OrTooDeep-if (is_else ts) _ _ _ _ (second_raise place first ts) refl

  if_raise : (shallow deep place : ℕ) → shallow ≤ deep → Below (if_at shallow low place) (if_at deep high place)
  unfolding if_at
  if_raise shallow deep place le ts =
      OrTooDeep-bind (guarded_at shallow low ts) (guarded_at deep high ts) _ _ (guarded_raise shallow deep le ts) (λ g. else_raise place g.0 g.1)

  for_raise : (shallow deep place : ℕ) → shallow ≤ deep → Below (for_at shallow low place) (for_at deep high place)
  unfolding for_at
  for_raise shallow deep place le ts =
      OrTooDeep-bind (heading_at shallow ts) (heading_at deep ts) _ _ (heading_raise shallow deep le ts)
      (λ h. OrTooDeep-bind (low h.1) (high h.1) _ _ (below h.1) (λ s. refl))

  labels_item_raise : (shallow deep : ℕ) → shallow ≤ deep → Below (labels_item_at shallow low) (labels_item_at deep high)
  unfolding labels_item_at
  labels_item_raise shallow deep le ts =
      OrTooDeep-bind (labels_at shallow ts) (labels_at deep ts) _ _ (labels_raise shallow deep le ts)
      (λ l. OrTooDeep-then (terminal (symbol.Punctuator punctuator.Colon) l.1) _ _
      (λ c. OrTooDeep-bind (low c.1) (high c.1) _ _ (below c.1) (λ s. refl)))

  default_item_raise : Below (default_item_at low) (default_item_at high)
  unfolding default_item_at
  default_item_raise ts =
      OrTooDeep-then (terminal (symbol.Keyword keyword.Default) ts) _ _
      (λ d. OrTooDeep-then (colon_at d.1) _ _
      (λ c. OrTooDeep-bind (low c.1) (high c.1) _ _ (below c.1) (λ s. refl)))

  item_raise : (shallow deep : ℕ) → shallow ≤ deep → (may_default : Bool) → Below (item_at shallow low may_default) (item_at deep high may_default)
  unfolding item_at
  item_raise shallow deep le may_default ts =
      OrTooDeep-if (is_default ts) _ _ _ _
      (OrTooDeep-if may_default (default_item_at low ts) (refused ts) (default_item_at high ts) (refused ts) (default_item_raise ts) refl)
      (labels_item_raise shallow deep le ts)

  further_items_raise : (shallow deep : ℕ) → shallow ≤ deep → (m : ℕ) (may_default : Bool) (i : Item) → Below (further_items_at shallow low m may_default i) (further_items_at deep high m may_default i)
  unfolding further_items_at
  further_items_raise shallow deep le zero may_default i ts = refl
  further_items_raise shallow deep le (suc m) may_default i ts =
      OrTooDeep-if (items_go_on ts) _ _ _ _
      (OrTooDeep-bind (item_at shallow low may_default ts) (item_at deep high may_default ts) _ _ (item_raise shallow deep le may_default ts)
      (λ j. OrTooDeep-bind (further_items_at shallow low m (may_still may_default ts) j.0 j.1) (further_items_at deep high m (may_still may_default ts) j.0 j.1) _ _ (further_items_raise shallow deep le m (may_still may_default ts) j.0 j.1) (λ l. refl)))
      refl

  items_raise : (shallow deep : ℕ) → shallow ≤ deep → Below (items_at shallow low) (items_at deep high)
  unfolding items_at
  items_raise shallow deep le ts =
      OrTooDeep-bind (item_at shallow low true ts) (item_at deep high true ts) _ _ (item_raise shallow deep le true ts)
      (λ i. further_items_raise shallow deep le (length i.1) (may_still true ts) i.0 i.1)

  case_raise : (shallow deep : ℕ) (sort : Sort) (place : ℕ) → shallow ≤ deep → Below (case_at shallow low sort place) (case_at deep high sort place)
  unfolding case_at
  case_raise shallow deep sort place le ts =
      OrTooDeep-bind (condition_at shallow ts) (condition_at deep ts) _ _ (condition_raise shallow deep le ts)
      (λ c. OrTooDeep-bind (items_at shallow low c.1) (items_at deep high c.1) _ _ (items_raise shallow deep le c.1)
      (λ i. OrTooDeep-then (terminal (symbol.Keyword keyword.Endcase) i.1) _ _ (λ z. refl)))

  stmt_by_raise : (shallow deep : ℕ) (le : shallow ≤ deep) (kind : SymbolKind) (place : ℕ) → Below (stmt_by shallow low kind place) (stmt_by deep high kind place)
  unfolding stmt_by
  stmt_by_raise shallow deep le (symbol.Keyword keyword.Begin) place ts = block_raise place ts
  stmt_by_raise shallow deep le symbol.Name place ts = assignment_raise shallow deep place le ts
  stmt_by_raise shallow deep le (symbol.Punctuator punctuator.Semicolon) place ts = refl
  stmt_by_raise shallow deep le (symbol.Punctuator punctuator.Hash) place ts = delayed_raise place ts
  stmt_by_raise shallow deep le (symbol.Keyword keyword.Wait) place ts = wait_raise shallow deep place le ts
  stmt_by_raise shallow deep le (symbol.Keyword keyword.If) place ts = if_raise shallow deep place le ts
  stmt_by_raise shallow deep le (symbol.Keyword keyword.While) place ts = while_raise shallow deep place le ts
  stmt_by_raise shallow deep le (symbol.Keyword keyword.Forever) place ts = forever_raise place ts
  stmt_by_raise shallow deep le (symbol.Keyword keyword.For) place ts = for_raise shallow deep place le ts
  stmt_by_raise shallow deep le (symbol.Punctuator punctuator.At) place ts = awaited_raise place ts
  stmt_by_raise shallow deep le (symbol.Keyword keyword.Case) place ts = case_raise shallow deep Exact place le ts
  stmt_by_raise shallow deep le (symbol.Keyword keyword.Casez) place ts = case_raise shallow deep Wild place le ts
  stmt_by_raise shallow deep le symbol.Finish place ts = OrTooDeep-same (finish_at place ts)
  stmt_by_raise shallow deep le _ place ts = refl

  form_raise : (shallow deep : ℕ) → shallow ≤ deep → Below (form_at shallow low) (form_at deep high)
  unfolding form_at
  form_raise shallow deep le [] = refl
  form_raise shallow deep le (s ∷ ts) = stmt_by_raise shallow deep le s.kind s.place ts

pub stmt_raise : (shallow deep low high : ℕ) → shallow ≤ deep → low ≤ high → Below (stmt_at shallow low) (stmt_at deep high)
unfolding stmt_at
stmt_raise shallow deep zero high less le ts = tt
stmt_raise shallow deep (suc low) zero less le ts = absurd (omega arith)
stmt_raise shallow deep (suc low) (suc high) less le ts =
    form_raise (stmt_at shallow low) (stmt_at deep high) (stmt_raise shallow deep low high less (omega arith)) shallow deep less ts

-- Reading leaves no more symbols than there are, also where it stops.
use Rattle.vp_parse_expr.specs.laws.Takes.{Holds}
use Rattle.std.proofs.Common.{ℕ, zero, suc, ◌+◌, ◌-◌, ◌≤◌, List, [], ◌∷◌, length, Result, Ok, Err, arith, Bool, true, false, cond, ◌<◌}
use Rattle.std.specs.Prelude.{nat_lt}
use Rattle.vp_lex.specs.declared.keyword.Keyword.TheVariants as keyword
use Rattle.vp_lex.specs.declared.token.Punctuator.TheVariants as punctuator
use Rattle.vp_source.specs.declared.symbol.Symbol.{Symbol}
use Rattle.vp_source.specs.declared.symbol.SymbolKind.{SymbolKind}
use Rattle.vp_source.specs.declared.symbol.SymbolKind.TheVariants as symbol
use Rattle.vp_source.specs.declared.symbol.TheConstants.{NUMBER_LIMIT}
use Rattle.vp_source.specs.ExprGrammar.{Selection, Expr}
use Rattle.vp_parse_expr.specs.Stopping.{Stop, Unexpected, ◌>>=◌, Reader, is_next, terminal, left_of}
use Rattle.vp_parse_expr.specs.Reading.{expr_at, selection_at}
use Rattle.vp_parse_expr.specs.laws.Within.{Within, IsWithin, Within-bind, Within-if, Within-terminal, terminal_within, expr_after, selection_within, expr_shorter}
use Rattle.vp_source.specs.StmtGrammar.{Hold, Stmt, Edge, Posedge, Negedge, edge_kind, Term, Separator, Or, Comma, separator_kind, Sort, Exact, Wild, Item}
use Rattle.vp_parse_stmt.specs.Reading.{Guarded, goes_on, stmts_at, amount_by, amount_at, grouped_delay_at, delay_at, later_at, hold_at, blocking_at, assign_at, nonblocking_at, is_arrow, set_at, assignment_at, block_at, delayed_at, condition_at, guarded_at, wait_at, while_at, forever_at, is_else, second_at, else_at, if_at, stmt_by, form_at, stmt_at, named_blocking_at, heading_at, for_at, edged_at, term_at, is_separator, separator_by, separator_at, joined_at, further_terms_at, terms_at, terms_event_at, star_event_at, event_by, event_at, awaited_at, further_label_at, further_labels_at, labels_at, labels_item_at, colon_at, default_item_at, is_default, item_at, items_go_on, may_still, further_items_at, items_at, case_at, given_at, argument_at, finish_at}

-- what is read after a symbol which is not left
Within-following : {A B : Type 0} (m : ℕ) (r : Result (A × List Symbol) Stop) (f : A × List Symbol → Result (B × List Symbol) Stop) → Within m r → ((x : A × List Symbol) → length x.1 ≤ m → Within (suc m) (f x)) → Within (suc m) (r >>= f)
Within-following m (Ok x) f h k = k x h
Within-following m (Err s) f h k = omega arith

amount_by_within : (kind : SymbolKind) (place n : ℕ) (ts : List Symbol) → suc (length ts) ≤ n → Within n (amount_by kind place ts)
unfolding amount_by
amount_by_within (symbol.Number number) place n ts le =
    Within-if {A = ℕ × ℕ} n (nat_lt number NUMBER_LIMIT) (Ok ((number, place), ts)) (Err (Unexpected (length ts + 1))) (omega arith) (omega arith)
amount_by_within _ place n ts le = omega arith

amount_within : IsWithin amount_at
unfolding amount_at
amount_within n [] le = le
amount_within n (s ∷ ts) le = amount_by_within s.kind s.place n ts le

grouped_delay_within : IsWithin grouped_delay_at
unfolding grouped_delay_at
grouped_delay_within n ts le =
    Within-bind n (terminal (symbol.Punctuator punctuator.LeftParenthesis) ts) _ (terminal_within (symbol.Punctuator punctuator.LeftParenthesis) n ts le)
    (λ o le. Within-bind n (amount_at o.1) _ (amount_within n o.1 le)
    (λ a le. Within-bind n (terminal (symbol.Punctuator punctuator.RightParenthesis) a.1) _ (terminal_within (symbol.Punctuator punctuator.RightParenthesis) n a.1 le)
    (λ z le. le)))

delay_within : IsWithin delay_at
unfolding delay_at
delay_within n ts le =
    Within-if n (is_next (symbol.Punctuator punctuator.LeftParenthesis) ts) _ _
    (grouped_delay_within n ts le)
    (Within-bind n (amount_at ts) _ (amount_within n ts le) (λ a le. le))

later_within : IsWithin later_at
unfolding later_at
later_within n ts le =
    Within-bind n (terminal (symbol.Punctuator punctuator.Hash) ts) _ (terminal_within (symbol.Punctuator punctuator.Hash) n ts le)
    (λ h le. Within-bind n (delay_at h.1) _ (delay_within n h.1 le) (λ d le. le))

hold_within : IsWithin hold_at
unfolding hold_at
hold_within n ts le = Within-if n (is_next (symbol.Punctuator punctuator.Hash) ts) _ _ (later_within n ts le) le

given_within : IsWithin given_at
unfolding given_at
given_within n ts le =
    Within-bind n (terminal (symbol.Punctuator punctuator.LeftParenthesis) ts) _ (terminal_within (symbol.Punctuator punctuator.LeftParenthesis) n ts le)
    (λ o le. Within-bind n (amount_at o.1) _ (amount_within n o.1 le)
    (λ a le. Within-bind n (terminal (symbol.Punctuator punctuator.RightParenthesis) a.1) _ (terminal_within (symbol.Punctuator punctuator.RightParenthesis) n a.1 le)
    (λ z le. le)))

argument_within : IsWithin argument_at
unfolding argument_at
argument_within n ts le = Within-if n (is_next (symbol.Punctuator punctuator.LeftParenthesis) ts) _ _ (given_within n ts le) le

finish_within : (place : ℕ) → IsWithin (finish_at place)
unfolding finish_at
finish_within place n ts le =
    Within-bind n (argument_at ts) _ (argument_within n ts le)
    (λ a le. Within-bind n (terminal (symbol.Punctuator punctuator.Semicolon) a.1) _ (terminal_within (symbol.Punctuator punctuator.Semicolon) n a.1 le) (λ s le. le))

blocking_within : (limit target : ℕ) (selection : Selection) → IsWithin (blocking_at limit target selection)
unfolding blocking_at
blocking_within limit target selection n ts le =
    Within-terminal n (symbol.Punctuator punctuator.Equals) ts _ le
    (λ q le. Within-bind n (expr_at limit 0 q.1) _ (expr_after limit 0 n q.1 le) (λ v le. le))

assign_within : (limit target : ℕ) (selection : Selection) → IsWithin (assign_at limit target selection)
unfolding assign_at
assign_within limit target selection n ts le =
    Within-bind n (blocking_at limit target selection ts) _ (blocking_within limit target selection n ts le)
    (λ b le. Within-bind n (terminal (symbol.Punctuator punctuator.Semicolon) b.1) _ (terminal_within (symbol.Punctuator punctuator.Semicolon) n b.1 le)
    (λ s le. le))

-- the delay of a nonblocking assignment, after a symbol which is not left
Within-hold : {B : Type 0} (n : ℕ) (ts : List Symbol) (f : Hold × List Symbol → Result (B × List Symbol) Stop) → suc (length ts) ≤ n → ((x : Hold × List Symbol) → suc (length x.1) ≤ n → Within n (f x)) → Within n (hold_at ts >>= f)
Within-hold zero ts f le k = absurd (omega arith)
Within-hold (suc m) ts f le k = Within-following m (hold_at ts) f (hold_within m ts (omega arith)) (λ x le. k x (omega arith))

nonblocking_within : (limit target : ℕ) (selection : Selection) → IsWithin (nonblocking_at limit target selection)
unfolding nonblocking_at
nonblocking_within limit target selection n ts le =
    Within-terminal n (symbol.Punctuator punctuator.LessOrEqual) ts _ le
    (λ a le. Within-hold n a.1 _ le
    (λ h le. Within-bind n (expr_at limit 0 h.1) _ (expr_after limit 0 n h.1 le)
    (λ v le. Within-bind n (terminal (symbol.Punctuator punctuator.Semicolon) v.1) _ (terminal_within (symbol.Punctuator punctuator.Semicolon) n v.1 le)
    (λ s le. le))))

set_within : (limit target : ℕ) (selection : Selection) → IsWithin (set_at limit target selection)
unfolding set_at
set_within limit target selection n ts le =
    Within-if n (is_arrow ts) _ _ (nonblocking_within limit target selection n ts le) (assign_within limit target selection n ts le)

assignment_within : (limit target : ℕ) → IsWithin (assignment_at limit target)
unfolding assignment_at
assignment_within limit target n ts le =
    Within-bind n (selection_at (limit - 1) ts) _ (selection_within (limit - 1) n ts le) (λ b le. set_within limit target b.0 n b.1 le)

named_blocking_within : (limit : ℕ) → IsWithin (named_blocking_at limit)
unfolding named_blocking_at
named_blocking_within limit n ts le =
    Within-bind n (terminal symbol.Name ts) _ (terminal_within symbol.Name n ts le)
    (λ t le. Within-bind n (selection_at (limit - 1) t.1) _ (selection_within (limit - 1) n t.1 le)
    (λ b le. blocking_within limit t.0 b.0 n b.1 le))

heading_within : (limit : ℕ) → IsWithin (heading_at limit)
unfolding heading_at
heading_within limit n ts le =
    Within-bind n (terminal (symbol.Punctuator punctuator.LeftParenthesis) ts) _ (terminal_within (symbol.Punctuator punctuator.LeftParenthesis) n ts le)
    (λ o le. Within-bind n (named_blocking_at limit o.1) _ (named_blocking_within limit n o.1 le)
    (λ a le. Within-terminal n (symbol.Punctuator punctuator.Semicolon) a.1 _ le
    (λ f le. Within-bind n (expr_at limit 0 f.1) _ (expr_after limit 0 n f.1 le)
    (λ c le. Within-bind n (terminal (symbol.Punctuator punctuator.Semicolon) c.1) _ (terminal_within (symbol.Punctuator punctuator.Semicolon) n c.1 le)
    (λ s le. Within-bind n (named_blocking_at limit s.1) _ (named_blocking_within limit n s.1 le)
    (λ b le. Within-bind n (terminal (symbol.Punctuator punctuator.RightParenthesis) b.1) _ (terminal_within (symbol.Punctuator punctuator.RightParenthesis) n b.1 le)
    (λ z le. le)))))))

edged_within : (edge : Edge) → IsWithin (edged_at edge)
unfolding edged_at
edged_within edge n ts le =
    Within-bind n (terminal (edge_kind edge) ts) _ (terminal_within (edge_kind edge) n ts le)
    (λ e le. Within-bind n (terminal symbol.Name e.1) _ (terminal_within symbol.Name n e.1 le) (λ t le. le))

term_within : IsWithin term_at
unfolding term_at
term_within n ts le =
    Within-if n (is_next (edge_kind Posedge) ts) _ _ (edged_within Posedge n ts le)
    (Within-if n (is_next (edge_kind Negedge) ts) _ _ (edged_within Negedge n ts le)
    (Within-bind n (terminal symbol.Name ts) _ (terminal_within symbol.Name n ts le) (λ t le. le)))

separator_by_within : (separator : Separator) → IsWithin (separator_by separator)
unfolding separator_by
separator_by_within separator n ts le =
    Within-bind n (terminal (separator_kind separator) ts) _ (terminal_within (separator_kind separator) n ts le) (λ p le. le)

separator_within : IsWithin separator_at
unfolding separator_at
separator_within n ts le =
    Within-if n (is_next (separator_kind Comma) ts) _ _ (separator_by_within Comma n ts le) (separator_by_within Or n ts le)

joined_within : IsWithin joined_at
unfolding joined_at
joined_within n ts le =
    Within-bind n (separator_at ts) _ (separator_within n ts le)
    (λ s le. Within-bind n (term_at s.1) _ (term_within n s.1 le) (λ t le. le))

further_terms_within : (m : ℕ) (t : Term) → IsWithin (further_terms_at m t)
unfolding further_terms_at
further_terms_within zero t n ts le = le
further_terms_within (suc m) t n ts le =
    Within-if n (is_separator ts) _ _
    (Within-bind n (joined_at ts) _ (joined_within n ts le)
    (λ j le. Within-bind n (further_terms_at m j.0.term j.1) _ (further_terms_within m j.0.term n j.1 le) (λ l le. le)))
    le

terms_within : IsWithin terms_at
unfolding terms_at
terms_within n ts le = Within-bind n (term_at ts) _ (term_within n ts le) (λ t le. further_terms_within (length t.1) t.0 n t.1 le)

terms_event_within : (opening : ℕ) → IsWithin (terms_event_at opening)
unfolding terms_event_at
terms_event_within opening n ts le =
    Within-bind n (terms_at ts) _ (terms_within n ts le)
    (λ l le. Within-bind n (terminal (symbol.Punctuator punctuator.RightParenthesis) l.1) _ (terminal_within (symbol.Punctuator punctuator.RightParenthesis) n l.1 le)
    (λ z le. le))

star_event_within : (opening : ℕ) → IsWithin (star_event_at opening)
unfolding star_event_at
star_event_within opening n ts le =
    Within-bind n (terminal (symbol.Punctuator punctuator.Asterisk) ts) _ (terminal_within (symbol.Punctuator punctuator.Asterisk) n ts le)
    (λ a le. Within-bind n (terminal (symbol.Punctuator punctuator.RightParenthesis) a.1) _ (terminal_within (symbol.Punctuator punctuator.RightParenthesis) n a.1 le)
    (λ z le. le))

event_by_within : (kind : SymbolKind) (place n : ℕ) (ts : List Symbol) → suc (length ts) ≤ n → Within n (event_by kind place ts)
unfolding event_by
event_by_within symbol.Name place n ts le = omega arith
event_by_within (symbol.Punctuator punctuator.Asterisk) place n ts le = omega arith
event_by_within (symbol.Punctuator punctuator.LeftParenthesis) place n ts le =
    Within-if n (is_next (symbol.Punctuator punctuator.Asterisk) ts) _ _ (star_event_within place n ts (omega arith)) (terms_event_within place n ts (omega arith))
event_by_within _ place n ts le = omega arith

event_within : IsWithin event_at
unfolding event_at
event_within n [] le = le
event_within n (s ∷ ts) le = event_by_within s.kind s.place n ts le

condition_within : (limit : ℕ) → IsWithin (condition_at limit)
unfolding condition_at
condition_within limit n ts le =
    Within-terminal n (symbol.Punctuator punctuator.LeftParenthesis) ts _ le
    (λ o le. Within-bind n (expr_at limit 0 o.1) _ (expr_after limit 0 n o.1 le)
    (λ v le. Within-bind n (terminal (symbol.Punctuator punctuator.RightParenthesis) v.1) _ (terminal_within (symbol.Punctuator punctuator.RightParenthesis) n v.1 le)
    (λ z le. le)))

-- ---- labels

-- no more symbols than so many are left, and where reading stops, one more at most
abbrev After : {A : Type 0} → ℕ → Result (A × List Symbol) Stop → Type 0
After m (Ok x) = length x.1 ≤ m
After m (Err s) = left_of s ≤ suc m

After-bind : {A B : Type 0} (m : ℕ) (r : Result (A × List Symbol) Stop) (f : A × List Symbol → Result (B × List Symbol) Stop) → After m r → ((x : A × List Symbol) → length x.1 ≤ m → After m (f x)) → After m (r >>= f)
After-bind m (Ok x) f h k = k x h
After-bind m (Err s) f h k = h

After-if : {A : Type 0} (m : ℕ) (b : Bool) (x y : Result (A × List Symbol) Stop) → After m x → After m y → After m (cond b x y)
After-if m true x y h k = h
After-if m false x y h k = k

within_after : {A : Type 0} (m : ℕ) (r : Result (A × List Symbol) Stop) → Within m r → After m r
within_after m (Ok x) h = h
within_after m (Err s) h = omega arith

after_within : {A : Type 0} (m : ℕ) (r : Result (A × List Symbol) Stop) → After m r → Within (suc m) r
after_within m (Ok x) h = omega arith
after_within m (Err s) h = h

value_after_by : (m : ℕ) (ts : List Symbol) (r : Result (Expr × List Symbol) Stop) → length ts ≤ m → Within (suc m) r → Holds (λ x. length x.1 < length ts) r → After m r
value_after_by m ts (Ok x) le h k = omega arith
value_after_by m ts (Err s) le h k = h

value_after : (limit m : ℕ) (ts : List Symbol) → length ts ≤ m → After m (expr_at limit 0 ts)
value_after limit m ts le = value_after_by m ts (expr_at limit 0 ts) le (expr_after limit 0 (suc m) ts (omega arith)) (expr_shorter limit ts)

further_label_within : (limit : ℕ) → IsWithin (further_label_at limit)
unfolding further_label_at
further_label_within limit n ts le =
    Within-terminal n (symbol.Punctuator punctuator.Comma) ts _ le
    (λ c le. Within-bind n (expr_at limit 0 c.1) _ (expr_after limit 0 n c.1 le) (λ v le. le))

further_labels_within : (limit m : ℕ) (e : Expr) → IsWithin (further_labels_at limit m e)
unfolding further_labels_at
further_labels_within limit zero e n ts le = le
further_labels_within limit (suc m) e n ts le =
    Within-if n (is_next (symbol.Punctuator punctuator.Comma) ts) _ _
    (Within-bind n (further_label_at limit ts) _ (further_label_within limit n ts le)
    (λ j le. Within-bind n (further_labels_at limit m j.0.value j.1) _ (further_labels_within limit m j.0.value n j.1 le) (λ l le. le)))
    le

labels_after : (limit m : ℕ) (ts : List Symbol) → length ts ≤ m → After m (labels_at limit ts)
unfolding labels_at
labels_after limit m ts le =
    After-bind m (expr_at limit 0 ts) _ (value_after limit m ts le)
    (λ e le. within_after m (further_labels_at limit (length e.1) e.0 e.1) (further_labels_within limit (length e.1) e.0 m e.1 le))

colon_within : IsWithin colon_at
unfolding colon_at
colon_within n ts le =
    Within-if n (is_next (symbol.Punctuator punctuator.Colon) ts) _ _
    (Within-bind n (terminal (symbol.Punctuator punctuator.Colon) ts) _ (terminal_within (symbol.Punctuator punctuator.Colon) n ts le) (λ c le. le))
    le

module _ (next : Reader Stmt) (within : IsWithin next) where
  stmts_within : (m : ℕ) → IsWithin (stmts_at next m)
  unfolding stmts_at
  stmts_within zero n ts le = le
  stmts_within (suc m) n ts le =
      Within-if n (goes_on ts) _ _
      (Within-bind n (next ts) _ (within n ts le) (λ s le. Within-bind n (stmts_at next m s.1) _ (stmts_within m n s.1 le) (λ l le. le)))
      le

  block_within : (begin : ℕ) → IsWithin (block_at next begin)
  unfolding block_at
  block_within begin n ts le =
      Within-bind n (stmts_at next (length ts) ts) _ (stmts_within (length ts) n ts le)
      (λ l le. Within-bind n (terminal (symbol.Keyword keyword.End) l.1) _ (terminal_within (symbol.Keyword keyword.End) n l.1 le)
      (λ s le. le))

  delayed_within : (place : ℕ) → IsWithin (delayed_at next place)
  unfolding delayed_at
  delayed_within place n ts le =
      Within-bind n (delay_at ts) _ (delay_within n ts le) (λ d le. Within-bind n (next d.1) _ (within n d.1 le) (λ s le. le))

  awaited_within : (place : ℕ) → IsWithin (awaited_at next place)
  unfolding awaited_at
  awaited_within place n ts le =
      Within-bind n (event_at ts) _ (event_within n ts le) (λ e le. Within-bind n (next e.1) _ (within n e.1 le) (λ s le. le))

  guarded_within : (limit : ℕ) → IsWithin (guarded_at limit next)
  unfolding guarded_at
  guarded_within limit n ts le =
      Within-bind n (condition_at limit ts) _ (condition_within limit n ts le)
      (λ c le. Within-bind n (next c.1) _ (within n c.1 le) (λ s le. le))

  wait_within : (limit place : ℕ) → IsWithin (wait_at limit next place)
  unfolding wait_at
  wait_within limit place n ts le = Within-bind n (guarded_at limit next ts) _ (guarded_within limit n ts le) (λ g le. le)

  while_within : (limit place : ℕ) → IsWithin (while_at limit next place)
  unfolding while_at
  while_within limit place n ts le = Within-bind n (guarded_at limit next ts) _ (guarded_within limit n ts le) (λ g le. le)

  forever_within : (place : ℕ) → IsWithin (forever_at next place)
  unfolding forever_at
  forever_within place n ts le = Within-bind n (next ts) _ (within n ts le) (λ s le. le)

  second_within : (place : ℕ) (first : Guarded) → IsWithin (second_at next place first)
  unfolding second_at
  second_within place first n ts le =
      Within-bind n (terminal (symbol.Keyword keyword.Else) ts) _ (terminal_within (symbol.Keyword keyword.Else) n ts le)
      (λ e le. Within-bind n (next e.1) _ (within n e.1 le) (λ s le. le))

  else_within : (place : ℕ) (first : Guarded) → IsWithin (else_at next place first)
  unfolding else_at
  else_within place first n ts le = Within-if n (is_else ts) _ _ (second_within place first n ts le) le

  if_within : (limit place : ℕ) → IsWithin (if_at limit next place)
  unfolding if_at
  if_within limit place n ts le =
      Within-bind n (guarded_at limit next ts) _ (guarded_within limit n ts le) (λ g le. else_within place g.0 n g.1 le)

  for_within : (limit place : ℕ) → IsWithin (for_at limit next place)
  unfolding for_at
  for_within limit place n ts le =
      Within-bind n (heading_at limit ts) _ (heading_within limit n ts le)
      (λ h le. Within-bind n (next h.1) _ (within n h.1 le) (λ s le. le))

  labels_item_after : (limit m : ℕ) (ts : List Symbol) → length ts ≤ m → After m (labels_item_at limit next ts)
  unfolding labels_item_at
  labels_item_after limit m ts le =
      After-bind m (labels_at limit ts) _ (labels_after limit m ts le)
      (λ l le. After-bind m (terminal (symbol.Punctuator punctuator.Colon) l.1) _ (within_after m (terminal (symbol.Punctuator punctuator.Colon) l.1) (terminal_within (symbol.Punctuator punctuator.Colon) m l.1 le))
      (λ c le. After-bind m (next c.1) _ (within_after m (next c.1) (within m c.1 le)) (λ s le. le)))

  default_item_within : IsWithin (default_item_at next)
  unfolding default_item_at
  default_item_within n ts le =
      Within-bind n (terminal (symbol.Keyword keyword.Default) ts) _ (terminal_within (symbol.Keyword keyword.Default) n ts le)
      (λ d le. Within-bind n (colon_at d.1) _ (colon_within n d.1 le)
      (λ c le. Within-bind n (next c.1) _ (within n c.1 le) (λ s le. le)))

  item_after : (limit m : ℕ) (may_default : Bool) (ts : List Symbol) → length ts ≤ m → After m (item_at limit next may_default ts)
  unfolding item_at
  item_after limit m may_default ts le =
      After-if m (is_default ts) _ _
      (After-if {A = Item} m may_default _ (Err (Unexpected (length ts))) (within_after m (default_item_at next ts) (default_item_within m ts le)) (omega arith))
      (labels_item_after limit m ts le)

  further_items_after : (limit k m : ℕ) (may_default : Bool) (i : Item) (ts : List Symbol) → length ts ≤ m → After m (further_items_at limit next k may_default i ts)
  unfolding further_items_at
  further_items_after limit zero m may_default i ts le = le
  further_items_after limit (suc k) m may_default i ts le =
      After-if m (items_go_on ts) _ _
      (After-bind m (item_at limit next may_default ts) _ (item_after limit m may_default ts le)
      (λ j le. After-bind m (further_items_at limit next k (may_still may_default ts) j.0 j.1) _ (further_items_after limit k m (may_still may_default ts) j.0 j.1 le) (λ l le. le)))
      le

  listed_items : (limit m : ℕ) (ts : List Symbol) → length ts ≤ m → After m (items_at limit next ts)
  unfolding items_at
  listed_items limit m ts le =
      After-bind m (item_at limit next true ts) _ (item_after limit m true ts le)
      (λ i le. further_items_after limit (length i.1) m (may_still true ts) i.0 i.1 le)

  case_after : (limit m : ℕ) (sort : Sort) (place : ℕ) (ts : List Symbol) → length ts ≤ m → After m (case_at limit next sort place ts)
  unfolding case_at
  case_after limit m sort place ts le =
      After-bind m (condition_at limit ts) _ (within_after m (condition_at limit ts) (condition_within limit m ts le))
      (λ c le. After-bind m (items_at limit next c.1) _ (listed_items limit m c.1 le)
      (λ i le. After-bind m (terminal (symbol.Keyword keyword.Endcase) i.1) _ (within_after m (terminal (symbol.Keyword keyword.Endcase) i.1) (terminal_within (symbol.Keyword keyword.Endcase) m i.1 le))
      (λ z le. le)))

  case_within : (limit : ℕ) (sort : Sort) (place n : ℕ) (ts : List Symbol) → suc (length ts) ≤ n → Within n (case_at limit next sort place ts)
  case_within limit sort place zero ts le = absurd (omega arith)
  case_within limit sort place (suc m) ts le = after_within m (case_at limit next sort place ts) (case_after limit m sort place ts (omega arith))

  stmt_by_within : (limit : ℕ) (kind : SymbolKind) (place n : ℕ) (ts : List Symbol) → suc (length ts) ≤ n → Within n (stmt_by limit next kind place ts)
  unfolding stmt_by
  stmt_by_within limit symbol.Name place n ts le = assignment_within limit place n ts (omega arith)
  stmt_by_within limit (symbol.Keyword keyword.Begin) place n ts le = block_within place n ts (omega arith)
  stmt_by_within limit (symbol.Punctuator punctuator.Semicolon) place n ts le = omega arith
  stmt_by_within limit (symbol.Punctuator punctuator.Hash) place n ts le = delayed_within place n ts (omega arith)
  stmt_by_within limit (symbol.Keyword keyword.Wait) place n ts le = wait_within limit place n ts (omega arith)
  stmt_by_within limit (symbol.Keyword keyword.If) place n ts le = if_within limit place n ts (omega arith)
  stmt_by_within limit (symbol.Keyword keyword.While) place n ts le = while_within limit place n ts (omega arith)
  stmt_by_within limit (symbol.Keyword keyword.Forever) place n ts le = forever_within place n ts (omega arith)
  stmt_by_within limit (symbol.Keyword keyword.For) place n ts le = for_within limit place n ts (omega arith)
  stmt_by_within limit (symbol.Punctuator punctuator.At) place n ts le = awaited_within place n ts (omega arith)
  stmt_by_within limit (symbol.Keyword keyword.Case) place n ts le = case_within limit Exact place n ts le
  stmt_by_within limit (symbol.Keyword keyword.Casez) place n ts le = case_within limit Wild place n ts le
  stmt_by_within limit symbol.Finish place n ts le = finish_within place n ts (omega arith)
  stmt_by_within limit _ place n ts le = omega arith

  form_within : (limit : ℕ) → IsWithin (form_at limit next)
  unfolding form_at
  form_within limit n [] le = le
  form_within limit n (s ∷ ts) le = stmt_by_within limit s.kind s.place n ts le

pub stmt_within : (limit d : ℕ) → IsWithin (stmt_at limit d)
unfolding stmt_at
stmt_within limit zero n ts le = le
stmt_within limit (suc d) n ts le = form_within (stmt_at limit d) (stmt_within limit d) limit n ts le

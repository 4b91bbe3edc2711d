-- What is read is spelled so, is well formed, nests at most so deep, and takes an else that follows.
use Rattle.std.proofs.Common.{◌≡◌, ℕ, zero, suc, ◌-◌, ◌≤◌, ◌<◌, List, [], ◌∷◌, length, true, refl, ap, ◌∙◌, arith, sym, subst, Bool, false, Result, Ok, Err, ◌+◌}
use Rattle.std.specs.Prelude.{nat_lt, ◌&&◌, not}
use Rattle.vp_lex.specs.declared.keyword.Keyword.TheVariants as keyword
use Rattle.vp_lex.specs.declared.token.Punctuator.TheVariants as punctuator
use Rattle.vp_source.specs.declared.symbol.Symbol.{Symbol}
use Rattle.vp_source.specs.declared.symbol.SymbolKind.{SymbolKind}
use Rattle.vp_source.specs.declared.symbol.SymbolKind.TheVariants as symbol
use Rattle.vp_source.specs.declared.symbol.TheConstants.{NUMBER_LIMIT}
use Rattle.vp_source.specs.Kinds.{symbol_at}
use Rattle.vp_source.specs.ExprGrammar.{Selection, expr_text, selection_text, expr_depth, IsExpr, IsSelection, Expr}
use Rattle.vp_parse_expr.specs.Stopping.{Reader, is_next, terminal, Stop}
use Rattle.vp_parse_expr.specs.Reading.{expr_at, selection_at}
use Rattle.vp_parse_expr.specs.laws.Takes.{Holds, Holds-bind, Holds-if, lt_of, IsTerminal, terminal_takes, before, IsWholeTaken, whole_takes, IsSelectionTaken, selection_takes}
use Rattle.vp_parse_expr.specs.laws.Again.{depth_above}
use Rattle.vp_source.specs.StmtGrammar.{Delay, Hold, Stmt, Stmts, delay_text, hold_text, blocking_text, IsDelay, IsHold, stmt_text, stmts_text, condition_text, IsStmt, AreStmts, stmt_depth, stmts_depth, stmt_height, stmts_height, heading_text, blocking_height, Edge, Posedge, Negedge, edge_kind, Term, term_text, Separator, Or, Comma, separator_kind, TermList, terms_text, Event, event_text, Sort, Exact, Wild, sort_kind, LabelList, labels_text, AreLabels, labels_height, Colon, colon_text, Item, Items, item_text, items_text, IsItem, AreItems, item_defaults, items_defaults, item_depth, items_depth, item_height, items_height, Argument, argument_text, IsArgument}
use Rattle.vp_parse_stmt.specs.Reading.{Blocking, Condition, Guarded, goes_on, stmts_at, amount_by, amount_at, grouped_delay_at, delay_at, later_at, hold_at, blocking_at, assign_at, nonblocking_at, is_arrow, set_at, assignment_at, block_at, delayed_at, condition_at, guarded_at, wait_at, while_at, forever_at, is_else, second_at, else_at, if_at, stmt_by, form_at, stmt_at, Heading, named_blocking_at, heading_at, for_at, Joined, edged_at, term_at, is_separator, separator_by, separator_at, joined_at, further_terms_at, terms_at, terms_event_at, star_event_at, event_by, event_at, awaited_at, FurtherLabel, further_label_at, further_labels_at, labels_at, labels_item_at, colon_at, default_item_at, is_default, item_at, items_go_on, may_still, further_items_at, items_at, case_at, given_at, argument_at, finish_at}
use Rattle.vp_parse_stmt.specs.Meaning.{Follows}
use Rattle.vp_parse_stmt.specs.laws.Following.{follows_closed}

abbrev pub IsTaken : (limit depth : ℕ) → List Symbol → Stmt × List Symbol → Type 0
IsTaken limit d ts x = (ts ≡ stmt_text x.0 x.1) × IsStmt x.0 × (stmt_height x.0 ≤ limit) × (stmt_depth x.0 ≤ d) × Follows x.0 x.1

abbrev AreTaken : (limit depth : ℕ) → List Symbol → Stmts × List Symbol → Type 0
AreTaken limit d ts x = (ts ≡ stmts_text x.0 x.1) × AreStmts x.0 × (stmts_height x.0 ≤ limit) × (stmts_depth x.0 ≤ d)

abbrev pub SoundStmt : (limit depth : ℕ) → Reader Stmt → Type 0
SoundStmt limit d next = (ts : List Symbol) → Holds (IsTaken limit d ts) (next ts)

-- ---- delays

-- these symbols are a number without a base, its value and its place, and those that are left
abbrev IsAmount : List Symbol → (ℕ × ℕ) × List Symbol → Type 0
IsAmount ts x = (ts ≡ symbol_at (symbol.Number x.0.0) x.0.1 ∷ x.1) × (x.0.0 < NUMBER_LIMIT)

amount_by_takes : (kind : SymbolKind) (place : ℕ) (ts : List Symbol) → Holds (IsAmount (symbol_at kind place ∷ ts)) (amount_by kind place ts)
unfolding amount_by
amount_by_takes (symbol.Number number) place ts =
    Holds-if (IsAmount (symbol_at (symbol.Number number) place ∷ ts)) (nat_lt number NUMBER_LIMIT) _ _ (λ e. (refl, lt_of number NUMBER_LIMIT e)) (λ e. tt)
amount_by_takes _ place ts = tt

amount_takes : (ts : List Symbol) → Holds (IsAmount ts) (amount_at ts)
unfolding amount_at
amount_takes [] = tt
amount_takes (s ∷ ts) = amount_by_takes s.kind s.place ts

-- what is read is a delay of these symbols
abbrev IsDelayTaken : List Symbol → Delay × List Symbol → Type 0
IsDelayTaken ts x = (ts ≡ delay_text x.0 x.1) × IsDelay x.0

grouped_delay_takes : (ts : List Symbol) → Holds (IsDelayTaken ts) (grouped_delay_at ts)
unfolding grouped_delay_at
grouped_delay_takes ts =
    let left_kind = symbol.Punctuator punctuator.LeftParenthesis in
    let right_kind = symbol.Punctuator punctuator.RightParenthesis in
    let all : Delay × List Symbol → Type 0 = IsDelayTaken ts in
    Holds-bind (IsTerminal left_kind ts) all (terminal left_kind ts) _ (terminal_takes left_kind ts)
    (λ o a. Holds-bind (IsAmount o.1) all (amount_at o.1) _ (amount_takes o.1)
    (λ m t. Holds-bind (IsTerminal right_kind m.1) all (terminal right_kind m.1) _ (terminal_takes right_kind m.1)
    (λ z f. (a ∙ ap (before left_kind o.0) (t.0 ∙ ap (before (symbol.Number m.0.0) m.0.1) f), t.1))))

delay_takes : (ts : List Symbol) → Holds (IsDelayTaken ts) (delay_at ts)
unfolding delay_at
delay_takes ts =
    let all : Delay × List Symbol → Type 0 = IsDelayTaken ts in
    Holds-if all (is_next (symbol.Punctuator punctuator.LeftParenthesis) ts) _ _
    (λ e. grouped_delay_takes ts)
    (λ e. Holds-bind (IsAmount ts) all (amount_at ts) _ (amount_takes ts) (λ m t. t))

-- what is read is an argument of these symbols, or none
abbrev IsArgumentTaken : List Symbol → Argument × List Symbol → Type 0
IsArgumentTaken ts x = (ts ≡ argument_text x.0 x.1) × IsArgument x.0

given_takes : (ts : List Symbol) → Holds (IsArgumentTaken ts) (given_at ts)
unfolding given_at
given_takes ts =
    let left_kind = symbol.Punctuator punctuator.LeftParenthesis in
    let right_kind = symbol.Punctuator punctuator.RightParenthesis in
    let all : Argument × List Symbol → Type 0 = IsArgumentTaken ts in
    Holds-bind (IsTerminal left_kind ts) all (terminal left_kind ts) _ (terminal_takes left_kind ts)
    (λ o a. Holds-bind (IsAmount o.1) all (amount_at o.1) _ (amount_takes o.1)
    (λ m t. Holds-bind (IsTerminal right_kind m.1) all (terminal right_kind m.1) _ (terminal_takes right_kind m.1)
    (λ z f. (a ∙ ap (before left_kind o.0) (t.0 ∙ ap (before (symbol.Number m.0.0) m.0.1) f), t.1))))

argument_takes : (ts : List Symbol) → Holds (IsArgumentTaken ts) (argument_at ts)
unfolding argument_at
argument_takes ts =
    Holds-if (IsArgumentTaken ts) (is_next (symbol.Punctuator punctuator.LeftParenthesis) ts) _ _ (λ e. given_takes ts) (λ e. (refl, tt))

finish_takes : (limit d place : ℕ) (ts : List Symbol) → Holds (IsTaken limit (suc d) (symbol_at symbol.Finish place ∷ ts)) (finish_at place ts)
unfolding finish_at
finish_takes limit d place ts =
    let semicolon_kind = symbol.Punctuator punctuator.Semicolon in
    let all : Stmt × List Symbol → Type 0 = IsTaken limit (suc d) (symbol_at symbol.Finish place ∷ ts) in
    Holds-bind (IsArgumentTaken ts) all (argument_at ts) _ (argument_takes ts)
    (λ a t. Holds-bind (IsTerminal semicolon_kind a.1) all (terminal semicolon_kind a.1) _ (terminal_takes semicolon_kind a.1)
    (λ s f. (ap (before symbol.Finish place) (t.0 ∙ ap (argument_text a.0) f), t.1, omega arith, omega arith, tt)))

-- what is read is the delay of a nonblocking assignment of these symbols
abbrev IsHoldTaken : List Symbol → Hold × List Symbol → Type 0
IsHoldTaken ts x = (ts ≡ hold_text x.0 x.1) × IsHold x.0

later_takes : (ts : List Symbol) → Holds (IsHoldTaken ts) (later_at ts)
unfolding later_at
later_takes ts =
    let hash_kind = symbol.Punctuator punctuator.Hash in
    let all : Hold × List Symbol → Type 0 = IsHoldTaken ts in
    Holds-bind (IsTerminal hash_kind ts) all (terminal hash_kind ts) _ (terminal_takes hash_kind ts)
    (λ h f. Holds-bind (IsDelayTaken h.1) all (delay_at h.1) _ (delay_takes h.1)
    (λ d t. (f ∙ ap (before hash_kind h.0) t.0, t.1)))

hold_takes : (ts : List Symbol) → Holds (IsHoldTaken ts) (hold_at ts)
unfolding hold_at
hold_takes ts = Holds-if (IsHoldTaken ts) (is_next (symbol.Punctuator punctuator.Hash) ts) _ _ (λ e. later_takes ts) (λ e. (refl, tt))

-- ---- assignments

-- what is read is a target and what it is to have, of these symbols, with expressions that nest at most so deep
record IsBlockingTaken (limit : ℕ) (ts : List Symbol) (x : Blocking × List Symbol) : Type 0 where
  text : ts ≡ blocking_text x.0.target x.0.selection x.0.equals x.0.value x.1
  is_target : IsSelection x.0.selection
  is : IsExpr x.0.value
  fits : blocking_height x.0.selection x.0.value ≤ limit

blocking_takes : (limit target : ℕ) (b : Selection × List Symbol) (ts : List Symbol) → IsSelectionTaken (limit - 1) ts b → Holds (IsBlockingTaken limit (symbol_at symbol.Name target ∷ ts)) (blocking_at limit target b.0 b.1)
unfolding blocking_at
blocking_takes limit target b ts u =
    let equals_kind = symbol.Punctuator punctuator.Equals in
    let all : Blocking × List Symbol → Type 0 = IsBlockingTaken limit (symbol_at symbol.Name target ∷ ts) in
    Holds-bind (IsTerminal equals_kind b.1) all (terminal equals_kind b.1) _ (terminal_takes equals_kind b.1)
    (λ q e. Holds-bind (IsWholeTaken limit q.1) all (expr_at limit 0 q.1) _ (whole_takes limit q.1)
    (λ v t. record {
      text = ap (before symbol.Name target) (u.text ∙ ap (selection_text b.0) (e ∙ ap (before equals_kind q.0) t.text));
      is_target = u.is;
      is = t.is;
      fits = omega (arith, u.fits, t.fits, depth_above v.0);
    }))

assign_takes : (limit d target : ℕ) (b : Selection × List Symbol) (ts : List Symbol) → IsSelectionTaken (limit - 1) ts b → Holds (IsTaken limit (suc d) (symbol_at symbol.Name target ∷ ts)) (assign_at limit target b.0 b.1)
unfolding assign_at
assign_takes limit d target b ts u =
    let semicolon_kind = symbol.Punctuator punctuator.Semicolon in
    let all : Stmt × List Symbol → Type 0 = IsTaken limit (suc d) (symbol_at symbol.Name target ∷ ts) in
    Holds-bind (IsBlockingTaken limit (symbol_at symbol.Name target ∷ ts)) all (blocking_at limit target b.0 b.1) _ (blocking_takes limit target b ts u)
    (λ q t. Holds-bind (IsTerminal semicolon_kind q.1) all (terminal semicolon_kind q.1) _ (terminal_takes semicolon_kind q.1)
    (λ s f. (t.text ∙ ap (blocking_text q.0.target q.0.selection q.0.equals q.0.value) f, (t.is_target, t.is), t.fits, omega arith, tt)))

nonblocking_takes : (limit d target : ℕ) (b : Selection × List Symbol) (ts : List Symbol) → IsSelectionTaken (limit - 1) ts b → Holds (IsTaken limit (suc d) (symbol_at symbol.Name target ∷ ts)) (nonblocking_at limit target b.0 b.1)
unfolding nonblocking_at
nonblocking_takes limit d target b ts u =
    let arrow_kind = symbol.Punctuator punctuator.LessOrEqual in
    let semicolon_kind = symbol.Punctuator punctuator.Semicolon in
    let all : Stmt × List Symbol → Type 0 = IsTaken limit (suc d) (symbol_at symbol.Name target ∷ ts) in
    Holds-bind (IsTerminal arrow_kind b.1) all (terminal arrow_kind b.1) _ (terminal_takes arrow_kind b.1)
    (λ q e. Holds-bind (IsHoldTaken q.1) all (hold_at q.1) _ (hold_takes q.1)
    (λ h g. Holds-bind (IsWholeTaken limit h.1) all (expr_at limit 0 h.1) _ (whole_takes limit h.1)
    (λ v t. Holds-bind (IsTerminal semicolon_kind v.1) all (terminal semicolon_kind v.1) _ (terminal_takes semicolon_kind v.1)
    (λ s f. (
      ap (before symbol.Name target) (u.text ∙ ap (selection_text b.0) (e ∙ ap (before arrow_kind q.0) (g.0 ∙ ap (hold_text h.0) (t.text ∙ ap (expr_text v.0) f)))),
      (u.is, g.1, t.is),
      omega (arith, u.fits, t.fits, depth_above v.0),
      omega arith,
      tt,
    )))))

assignment_takes : (limit d target : ℕ) (ts : List Symbol) → Holds (IsTaken limit (suc d) (symbol_at symbol.Name target ∷ ts)) (assignment_at limit target ts)
unfolding assignment_at set_at
assignment_takes limit d target ts =
    let all : Stmt × List Symbol → Type 0 = IsTaken limit (suc d) (symbol_at symbol.Name target ∷ ts) in
    Holds-bind (IsSelectionTaken (limit - 1) ts) all (selection_at (limit - 1) ts) _ (selection_takes (limit - 1) ts)
    (λ b u. Holds-if all (is_arrow b.1) _ _ (λ e. nonblocking_takes limit d target b ts u) (λ e. assign_takes limit d target b ts u))

-- ---- headings

named_blocking_takes : (limit : ℕ) (ts : List Symbol) → Holds (IsBlockingTaken limit ts) (named_blocking_at limit ts)
unfolding named_blocking_at
named_blocking_takes limit ts =
    let all : Blocking × List Symbol → Type 0 = IsBlockingTaken limit ts in
    Holds-bind (IsTerminal symbol.Name ts) all (terminal symbol.Name ts) _ (terminal_takes symbol.Name ts)
    (λ t f. Holds-bind (IsSelectionTaken (limit - 1) t.1) all (selection_at (limit - 1) t.1) _ (selection_takes (limit - 1) t.1)
    (λ b u. subst (λ (r : List Symbol). Holds (IsBlockingTaken limit r) (blocking_at limit t.0 b.0 b.1)) (sym f) (blocking_takes limit t.0 b t.1 u)))

-- what is read stands in the parentheses of a for, of these symbols, with expressions that nest at most so deep
record IsHeadingTaken (limit : ℕ) (ts : List Symbol) (x : Heading × List Symbol) : Type 0 where
  text : ts ≡ heading_text x.0.opening x.0.start.target x.0.start.selection x.0.start.equals x.0.start.value x.0.first_semicolon x.0.condition x.0.second_semicolon x.0.step.target x.0.step.selection x.0.step.equals x.0.step.value x.0.closing x.1
  is_target : IsSelection x.0.start.selection
  is_start : IsExpr x.0.start.value
  is_condition : IsExpr x.0.condition
  is_step_target : IsSelection x.0.step.selection
  is_step : IsExpr x.0.step.value
  fits_start : blocking_height x.0.start.selection x.0.start.value ≤ limit
  fits_condition : expr_depth x.0.condition ≤ limit
  fits_step : blocking_height x.0.step.selection x.0.step.value ≤ limit

heading_takes : (limit : ℕ) (ts : List Symbol) → Holds (IsHeadingTaken limit ts) (heading_at limit ts)
unfolding heading_at
heading_takes limit ts =
    let left_kind = symbol.Punctuator punctuator.LeftParenthesis in
    let semicolon_kind = symbol.Punctuator punctuator.Semicolon in
    let right_kind = symbol.Punctuator punctuator.RightParenthesis in
    let all : Heading × List Symbol → Type 0 = IsHeadingTaken limit ts in
    Holds-bind (IsTerminal left_kind ts) all (terminal left_kind ts) _ (terminal_takes left_kind ts)
    (λ o e. Holds-bind (IsBlockingTaken limit o.1) all (named_blocking_at limit o.1) _ (named_blocking_takes limit o.1)
    (λ a t. Holds-bind (IsTerminal semicolon_kind a.1) all (terminal semicolon_kind a.1) _ (terminal_takes semicolon_kind a.1)
    (λ f g. Holds-bind (IsWholeTaken limit f.1) all (expr_at limit 0 f.1) _ (whole_takes limit f.1)
    (λ c u. Holds-bind (IsTerminal semicolon_kind c.1) all (terminal semicolon_kind c.1) _ (terminal_takes semicolon_kind c.1)
    (λ s h. Holds-bind (IsBlockingTaken limit s.1) all (named_blocking_at limit s.1) _ (named_blocking_takes limit s.1)
    (λ b v. Holds-bind (IsTerminal right_kind b.1) all (terminal right_kind b.1) _ (terminal_takes right_kind b.1)
    (λ z k. record {
      text = e ∙ ap (before left_kind o.0) (t.text ∙ ap (blocking_text a.0.target a.0.selection a.0.equals a.0.value) (g ∙ ap (before semicolon_kind f.0) (u.text ∙ ap (expr_text c.0) (h ∙ ap (before semicolon_kind s.0) (v.text ∙ ap (blocking_text b.0.target b.0.selection b.0.equals b.0.value) k)))));
      is_target = t.is_target;
      is_start = t.is;
      is_condition = u.is;
      is_step_target = v.is_target;
      is_step = v.is;
      fits_start = t.fits;
      fits_condition = u.fits;
      fits_step = v.fits;
    })))))))

-- ---- events

-- these symbols are a term, and those that are left
abbrev IsTerm : List Symbol → Term × List Symbol → Type 0
IsTerm ts x = ts ≡ term_text x.0 x.1

edged_takes : (edge : Edge) (ts : List Symbol) → Holds (IsTerm ts) (edged_at edge ts)
unfolding edged_at
edged_takes edge ts =
    Holds-bind (IsTerminal (edge_kind edge) ts) (IsTerm ts) (terminal (edge_kind edge) ts) _ (terminal_takes (edge_kind edge) ts)
    (λ e f. Holds-bind (IsTerminal symbol.Name e.1) (IsTerm ts) (terminal symbol.Name e.1) _ (terminal_takes symbol.Name e.1)
    (λ t g. f ∙ ap (before (edge_kind edge) e.0) g))

term_takes : (ts : List Symbol) → Holds (IsTerm ts) (term_at ts)
unfolding term_at
term_takes ts =
    Holds-if (IsTerm ts) (is_next (edge_kind Posedge) ts) _ _ (λ e. edged_takes Posedge ts)
    (λ e. Holds-if (IsTerm ts) (is_next (edge_kind Negedge) ts) _ _ (λ e. edged_takes Negedge ts)
    (λ e. Holds-bind (IsTerminal symbol.Name ts) (IsTerm ts) (terminal symbol.Name ts) _ (terminal_takes symbol.Name ts) (λ t f. f)))

-- these symbols are what stands between terms, and those that are left
abbrev IsSeparator : List Symbol → (Separator × ℕ) × List Symbol → Type 0
IsSeparator ts x = ts ≡ symbol_at (separator_kind x.0.0) x.0.1 ∷ x.1

separator_by_takes : (separator : Separator) (ts : List Symbol) → Holds (IsSeparator ts) (separator_by separator ts)
unfolding separator_by
separator_by_takes separator ts =
    Holds-bind (IsTerminal (separator_kind separator) ts) (IsSeparator ts) (terminal (separator_kind separator) ts) _ (terminal_takes (separator_kind separator) ts) (λ p f. f)

separator_takes : (ts : List Symbol) → Holds (IsSeparator ts) (separator_at ts)
unfolding separator_at
separator_takes ts =
    Holds-if (IsSeparator ts) (is_next (separator_kind Comma) ts) _ _ (λ e. separator_by_takes Comma ts) (λ e. separator_by_takes Or ts)

-- these symbols are what stands before a term and that term, and those that are left
abbrev IsJoined : List Symbol → Joined × List Symbol → Type 0
IsJoined ts x = ts ≡ symbol_at (separator_kind x.0.separator) x.0.place ∷ term_text x.0.term x.1

joined_takes : (ts : List Symbol) → Holds (IsJoined ts) (joined_at ts)
unfolding joined_at
joined_takes ts =
    Holds-bind (IsSeparator ts) (IsJoined ts) (separator_at ts) _ (separator_takes ts)
    (λ s f. Holds-bind (IsTerm s.1) (IsJoined ts) (term_at s.1) _ (term_takes s.1)
    (λ t g. f ∙ ap (before (separator_kind s.0.0) s.0.1) g))

-- a term and these symbols are terms, and those that are left
abbrev AreTerms : Term → List Symbol → TermList × List Symbol → Type 0
AreTerms t ts x = term_text t ts ≡ terms_text x.0 x.1

further_terms_takes : (m : ℕ) (t : Term) (ts : List Symbol) → Holds (AreTerms t ts) (further_terms_at m t ts)
unfolding further_terms_at
further_terms_takes zero t ts = refl
further_terms_takes (suc m) t ts =
    Holds-if (AreTerms t ts) (is_separator ts) _ _
    (λ e. Holds-bind (IsJoined ts) (AreTerms t ts) (joined_at ts) _ (joined_takes ts)
    (λ j f. Holds-bind (AreTerms j.0.term j.1) (AreTerms t ts) (further_terms_at m j.0.term j.1) _ (further_terms_takes m j.0.term j.1)
    (λ l g. ap (term_text t) (f ∙ ap (before (separator_kind j.0.separator) j.0.place) g))))
    (λ e. refl)

terms_takes : (ts : List Symbol) → Holds (λ (x : TermList × List Symbol). ts ≡ terms_text x.0 x.1) (terms_at ts)
unfolding terms_at
terms_takes ts =
    let all : TermList × List Symbol → Type 0 = λ x. ts ≡ terms_text x.0 x.1 in
    Holds-bind (IsTerm ts) all (term_at ts) _ (term_takes ts)
    (λ t f. subst (λ (r : List Symbol). Holds (λ (x : TermList × List Symbol). r ≡ terms_text x.0 x.1) (further_terms_at (length t.1) t.0 t.1)) (sym f) (further_terms_takes (length t.1) t.0 t.1))

-- these symbols are an event, and those that are left
abbrev IsEvent : List Symbol → Event × List Symbol → Type 0
IsEvent ts x = ts ≡ event_text x.0 x.1

terms_event_takes : (opening : ℕ) (ts : List Symbol) → Holds (IsEvent (symbol_at (symbol.Punctuator punctuator.LeftParenthesis) opening ∷ ts)) (terms_event_at opening ts)
unfolding terms_event_at
terms_event_takes opening ts =
    let left_kind = symbol.Punctuator punctuator.LeftParenthesis in
    let right_kind = symbol.Punctuator punctuator.RightParenthesis in
    let all : Event × List Symbol → Type 0 = IsEvent (symbol_at left_kind opening ∷ ts) in
    Holds-bind (λ (x : TermList × List Symbol). ts ≡ terms_text x.0 x.1) all (terms_at ts) _ (terms_takes ts)
    (λ l f. Holds-bind (IsTerminal right_kind l.1) all (terminal right_kind l.1) _ (terminal_takes right_kind l.1)
    (λ z g. ap (before left_kind opening) (f ∙ ap (terms_text l.0) g)))

star_event_takes : (opening : ℕ) (ts : List Symbol) → Holds (IsEvent (symbol_at (symbol.Punctuator punctuator.LeftParenthesis) opening ∷ ts)) (star_event_at opening ts)
unfolding star_event_at
star_event_takes opening ts =
    let left_kind = symbol.Punctuator punctuator.LeftParenthesis in
    let star_kind = symbol.Punctuator punctuator.Asterisk in
    let right_kind = symbol.Punctuator punctuator.RightParenthesis in
    let all : Event × List Symbol → Type 0 = IsEvent (symbol_at left_kind opening ∷ ts) in
    Holds-bind (IsTerminal star_kind ts) all (terminal star_kind ts) _ (terminal_takes star_kind ts)
    (λ a f. Holds-bind (IsTerminal right_kind a.1) all (terminal right_kind a.1) _ (terminal_takes right_kind a.1)
    (λ z g. ap (before left_kind opening) (f ∙ ap (before star_kind a.0) g)))

event_by_takes : (kind : SymbolKind) (place : ℕ) (ts : List Symbol) → Holds (IsEvent (symbol_at kind place ∷ ts)) (event_by kind place ts)
unfolding event_by
event_by_takes symbol.Name place ts = refl
event_by_takes (symbol.Punctuator punctuator.Asterisk) place ts = refl
event_by_takes (symbol.Punctuator punctuator.LeftParenthesis) place ts =
    Holds-if (IsEvent (symbol_at (symbol.Punctuator punctuator.LeftParenthesis) place ∷ ts)) (is_next (symbol.Punctuator punctuator.Asterisk) ts) _ _
    (λ e. star_event_takes place ts)
    (λ e. terms_event_takes place ts)
event_by_takes _ place ts = tt

event_takes : (ts : List Symbol) → Holds (IsEvent ts) (event_at ts)
unfolding event_at
event_takes [] = tt
event_takes (s ∷ ts) = event_by_takes s.kind s.place ts

-- ---- conditions

-- what is read is an expression in parentheses of these symbols, that nests at most so deep
record IsConditionTaken (limit : ℕ) (ts : List Symbol) (x : Condition × List Symbol) : Type 0 where
  text : ts ≡ condition_text x.0.opening x.0.value x.0.closing x.1
  is : IsExpr x.0.value
  fits : expr_depth x.0.value ≤ limit

condition_takes : (limit : ℕ) (ts : List Symbol) → Holds (IsConditionTaken limit ts) (condition_at limit ts)
unfolding condition_at
condition_takes limit ts =
    let left_kind = symbol.Punctuator punctuator.LeftParenthesis in
    let right_kind = symbol.Punctuator punctuator.RightParenthesis in
    let all : Condition × List Symbol → Type 0 = IsConditionTaken limit ts in
    Holds-bind (IsTerminal left_kind ts) all (terminal left_kind ts) _ (terminal_takes left_kind ts)
    (λ o a. Holds-bind (IsWholeTaken limit o.1) all (expr_at limit 0 o.1) _ (whole_takes limit o.1)
    (λ v t. Holds-bind (IsTerminal right_kind v.1) all (terminal right_kind v.1) _ (terminal_takes right_kind v.1)
    (λ z f. record { text = a ∙ ap (before left_kind o.0) (t.text ∙ ap (expr_text v.0) f); is = t.is; fits = t.fits })))

-- ---- labels

-- what is read is a label of these symbols after a comma, that nests at most so deep
record IsFurtherLabel (limit : ℕ) (ts : List Symbol) (x : FurtherLabel × List Symbol) : Type 0 where
  text : ts ≡ symbol_at (symbol.Punctuator punctuator.Comma) x.0.comma ∷ expr_text x.0.value x.1
  is : IsExpr x.0.value
  fits : expr_depth x.0.value ≤ limit

further_label_takes : (limit : ℕ) (ts : List Symbol) → Holds (IsFurtherLabel limit ts) (further_label_at limit ts)
unfolding further_label_at
further_label_takes limit ts =
    let comma_kind = symbol.Punctuator punctuator.Comma in
    let all : FurtherLabel × List Symbol → Type 0 = IsFurtherLabel limit ts in
    Holds-bind (IsTerminal comma_kind ts) all (terminal comma_kind ts) _ (terminal_takes comma_kind ts)
    (λ c f. Holds-bind (IsWholeTaken limit c.1) all (expr_at limit 0 c.1) _ (whole_takes limit c.1)
    (λ v t. record { text = f ∙ ap (before comma_kind c.0) t.text; is = t.is; fits = t.fits }))

-- what is read are labels of these symbols, that nest at most so deep
record AreLabelsTaken (limit : ℕ) (ts : List Symbol) (x : LabelList × List Symbol) : Type 0 where
  text : ts ≡ labels_text x.0 x.1
  are : AreLabels x.0
  fits : labels_height x.0 ≤ limit

further_labels_takes : (limit m : ℕ) (e : Expr) (ts : List Symbol) → IsExpr e → expr_depth e ≤ limit → Holds (AreLabelsTaken limit (expr_text e ts)) (further_labels_at limit m e ts)
unfolding further_labels_at
further_labels_takes limit zero e ts is fits = record { text = refl; are = is; fits = fits }
further_labels_takes limit (suc m) e ts is fits =
    let all : LabelList × List Symbol → Type 0 = AreLabelsTaken limit (expr_text e ts) in
    Holds-if all (is_next (symbol.Punctuator punctuator.Comma) ts) _ _
    (λ h. Holds-bind (IsFurtherLabel limit ts) all (further_label_at limit ts) _ (further_label_takes limit ts)
    (λ j f. Holds-bind (AreLabelsTaken limit (expr_text j.0.value j.1)) all (further_labels_at limit m j.0.value j.1) _ (further_labels_takes limit m j.0.value j.1 f.is f.fits)
    (λ l g. record {
      text = ap (expr_text e) (f.text ∙ ap (before (symbol.Punctuator punctuator.Comma) j.0.comma) g.text);
      are = (is, g.are);
      fits = omega (arith, fits, g.fits);
    })))
    (λ h. record { text = refl; are = is; fits = fits })

labels_takes : (limit : ℕ) (ts : List Symbol) → Holds (AreLabelsTaken limit ts) (labels_at limit ts)
unfolding labels_at
labels_takes limit ts =
    let all : LabelList × List Symbol → Type 0 = AreLabelsTaken limit ts in
    Holds-bind (IsWholeTaken limit ts) all (expr_at limit 0 ts) _ (whole_takes limit ts)
    (λ e t. subst (λ (r : List Symbol). Holds (AreLabelsTaken limit r) (further_labels_at limit (length e.1) e.0 e.1)) (sym t.text) (further_labels_takes limit (length e.1) e.0 e.1 t.is t.fits))

-- these symbols are a colon or none, and those that are left
abbrev IsColon : List Symbol → Colon × List Symbol → Type 0
IsColon ts x = ts ≡ colon_text x.0 x.1

colon_takes : (ts : List Symbol) → Holds (IsColon ts) (colon_at ts)
unfolding colon_at
colon_takes ts =
    let colon_kind = symbol.Punctuator punctuator.Colon in
    Holds-if (IsColon ts) (is_next colon_kind ts) _ _
    (λ e. Holds-bind (IsTerminal colon_kind ts) (IsColon ts) (terminal colon_kind ts) _ (terminal_takes colon_kind ts) (λ c f. f))
    (λ e. refl)

-- ---- items

-- how many defaults may come
abbrev allowed : Bool → ℕ
allowed true = 1
allowed false = 0

default_counted : (may_default is_default : Bool) → may_default ≡ true → is_default ≡ true → 1 + allowed (may_default && not is_default) ≤ allowed may_default
default_counted true true m e = omega arith
default_counted true false m e = absurd cc
default_counted false b m e = absurd cc

labels_counted : (may_default is_default : Bool) → is_default ≡ false → 0 + allowed (may_default && not is_default) ≤ allowed may_default
labels_counted true true e = absurd cc
labels_counted true false e = omega arith
labels_counted false b e = omega arith

-- what is read is an item of a case of these symbols, that nests at most so deep; it counts among the defaults that may come
record IsItemTaken (limit d : ℕ) (may_default : Bool) (ts : List Symbol) (x : Item × List Symbol) : Type 0 where
  text : ts ≡ item_text x.0 x.1
  is : IsItem x.0
  shallow : item_height x.0 ≤ limit
  fits : item_depth x.0 ≤ d
  counted : item_defaults x.0 + allowed (may_still may_default ts) ≤ allowed may_default

-- what is read are items of a case of these symbols, that nest at most so deep, and among which are so many defaults at most
record AreItemsTaken (limit d most : ℕ) (ts : List Symbol) (x : Items × List Symbol) : Type 0 where
  text : ts ≡ items_text x.0 x.1
  are : AreItems x.0
  shallow : items_height x.0 ≤ limit
  fits : items_depth x.0 ≤ d
  counted : items_defaults x.0 ≤ most

-- what is read is an expression in parentheses and a statement of these symbols, that nest at most so deep
record IsGuardedTaken (limit d : ℕ) (ts : List Symbol) (x : Guarded × List Symbol) : Type 0 where
  text : ts ≡ condition_text x.0.opening x.0.value x.0.closing (stmt_text x.0.body x.1)
  is : IsExpr x.0.value
  is_body : IsStmt x.0.body
  shallow : expr_depth x.0.value ≤ limit
  shallow_body : stmt_height x.0.body ≤ limit
  fits : stmt_depth x.0.body ≤ d
  ends : Follows x.0.body x.1

module _ (limit d : ℕ) (next : Reader Stmt) (sound : SoundStmt limit d next) where
  stmts_takes : (m : ℕ) (ts : List Symbol) → Holds (AreTaken limit d ts) (stmts_at next m ts)
  unfolding stmts_at
  stmts_takes zero ts = (refl, tt, omega arith, omega arith)
  stmts_takes (suc m) ts =
      Holds-if (AreTaken limit d ts) (goes_on ts) _ _
      (λ on. Holds-bind (IsTaken limit d ts) (AreTaken limit d ts) (next ts) _ (sound ts)
      (λ s t. Holds-bind (AreTaken limit d s.1) (AreTaken limit d ts) (stmts_at next m s.1) _ (stmts_takes m s.1)
      (λ l u. (t.0 ∙ ap (stmt_text s.0) u.0, (t.1, u.1), omega (arith, t.2, u.2), omega (arith, t.3, u.3)))))
      (λ off. (refl, tt, omega arith, omega arith))

  block_takes : (begin : ℕ) (ts : List Symbol) → Holds (IsTaken limit (suc d) (symbol_at (symbol.Keyword keyword.Begin) begin ∷ ts)) (block_at next begin ts)
  unfolding block_at
  block_takes begin ts =
      let end_kind = symbol.Keyword keyword.End in
      let all : Stmt × List Symbol → Type 0 = IsTaken limit (suc d) (symbol_at (symbol.Keyword keyword.Begin) begin ∷ ts) in
      Holds-bind (AreTaken limit d ts) all (stmts_at next (length ts) ts) _ (stmts_takes (length ts) ts)
      (λ l t. Holds-bind (IsTerminal end_kind l.1) all (terminal end_kind l.1) _ (terminal_takes end_kind l.1)
      (λ s f. (ap (λ (r : List Symbol). symbol_at (symbol.Keyword keyword.Begin) begin ∷ r) (t.0 ∙ ap (stmts_text l.0) f), t.1, t.2, omega (arith, t.3), tt)))

  delayed_takes : (place : ℕ) (ts : List Symbol) → Holds (IsTaken limit (suc d) (symbol_at (symbol.Punctuator punctuator.Hash) place ∷ ts)) (delayed_at next place ts)
  unfolding delayed_at
  delayed_takes place ts =
      let all : Stmt × List Symbol → Type 0 = IsTaken limit (suc d) (symbol_at (symbol.Punctuator punctuator.Hash) place ∷ ts) in
      Holds-bind (IsDelayTaken ts) all (delay_at ts) _ (delay_takes ts)
      (λ w u. Holds-bind (IsTaken limit d w.1) all (next w.1) _ (sound w.1)
      (λ s t. (ap (before (symbol.Punctuator punctuator.Hash) place) (u.0 ∙ ap (delay_text w.0) t.0), (u.1, t.1), t.2, omega (arith, t.3), t.4)))

  awaited_takes : (place : ℕ) (ts : List Symbol) → Holds (IsTaken limit (suc d) (symbol_at (symbol.Punctuator punctuator.At) place ∷ ts)) (awaited_at next place ts)
  unfolding awaited_at
  awaited_takes place ts =
      let all : Stmt × List Symbol → Type 0 = IsTaken limit (suc d) (symbol_at (symbol.Punctuator punctuator.At) place ∷ ts) in
      Holds-bind (IsEvent ts) all (event_at ts) _ (event_takes ts)
      (λ e u. Holds-bind (IsTaken limit d e.1) all (next e.1) _ (sound e.1)
      (λ s t. (ap (before (symbol.Punctuator punctuator.At) place) (u ∙ ap (event_text e.0) t.0), t.1, t.2, omega (arith, t.3), t.4)))

  guarded_takes : (ts : List Symbol) → Holds (IsGuardedTaken limit d ts) (guarded_at limit next ts)
  unfolding guarded_at
  guarded_takes ts =
      let all : Guarded × List Symbol → Type 0 = IsGuardedTaken limit d ts in
      Holds-bind (IsConditionTaken limit ts) all (condition_at limit ts) _ (condition_takes limit ts)
      (λ c u. Holds-bind (IsTaken limit d c.1) all (next c.1) _ (sound c.1)
      (λ s t. record {
        text = u.text ∙ ap (condition_text c.0.opening c.0.value c.0.closing) t.0;
        is = u.is;
        is_body = t.1;
        shallow = u.fits;
        shallow_body = t.2;
        fits = t.3;
        ends = t.4;
      }))

  wait_takes : (place : ℕ) (ts : List Symbol) → Holds (IsTaken limit (suc d) (symbol_at (symbol.Keyword keyword.Wait) place ∷ ts)) (wait_at limit next place ts)
  unfolding wait_at
  wait_takes place ts =
      let all : Stmt × List Symbol → Type 0 = IsTaken limit (suc d) (symbol_at (symbol.Keyword keyword.Wait) place ∷ ts) in
      Holds-bind (IsGuardedTaken limit d ts) all (guarded_at limit next ts) _ (guarded_takes ts)
      (λ g t. (ap (before (symbol.Keyword keyword.Wait) place) t.text, (t.is, t.is_body), omega (arith, t.shallow, t.shallow_body), omega (arith, t.fits), t.ends))

  while_takes : (place : ℕ) (ts : List Symbol) → Holds (IsTaken limit (suc d) (symbol_at (symbol.Keyword keyword.While) place ∷ ts)) (while_at limit next place ts)
  unfolding while_at
  while_takes place ts =
      let all : Stmt × List Symbol → Type 0 = IsTaken limit (suc d) (symbol_at (symbol.Keyword keyword.While) place ∷ ts) in
      Holds-bind (IsGuardedTaken limit d ts) all (guarded_at limit next ts) _ (guarded_takes ts)
      (λ g t. (ap (before (symbol.Keyword keyword.While) place) t.text, (t.is, t.is_body), omega (arith, t.shallow, t.shallow_body), omega (arith, t.fits), t.ends))

  forever_takes : (place : ℕ) (ts : List Symbol) → Holds (IsTaken limit (suc d) (symbol_at (symbol.Keyword keyword.Forever) place ∷ ts)) (forever_at next place ts)
  unfolding forever_at
  forever_takes place ts =
      let all : Stmt × List Symbol → Type 0 = IsTaken limit (suc d) (symbol_at (symbol.Keyword keyword.Forever) place ∷ ts) in
      Holds-bind (IsTaken limit d ts) all (next ts) _ (sound ts)
      (λ s t. (ap (before (symbol.Keyword keyword.Forever) place) t.0, t.1, t.2, omega (arith, t.3), t.4))

  second_takes : (place : ℕ) (first : Guarded) (ts rest : List Symbol) → IsGuardedTaken limit d ts (first, rest) → is_else rest ≡ true → Holds (IsTaken limit (suc d) (symbol_at (symbol.Keyword keyword.If) place ∷ ts)) (second_at next place first rest)
  unfolding second_at
  second_takes place first ts rest g e =
      let else_kind = symbol.Keyword keyword.Else in
      let all : Stmt × List Symbol → Type 0 = IsTaken limit (suc d) (symbol_at (symbol.Keyword keyword.If) place ∷ ts) in
      Holds-bind (IsTerminal else_kind rest) all (terminal else_kind rest) _ (terminal_takes else_kind rest)
      (λ z f. Holds-bind (IsTaken limit d z.1) all (next z.1) _ (sound z.1)
      (λ s t. (
        ap (before (symbol.Keyword keyword.If) place) (g.text ∙ ap (λ (r : List Symbol). condition_text first.opening first.value first.closing (stmt_text first.body r)) (f ∙ ap (before else_kind z.0) t.0)),
        (g.is, g.is_body, t.1, follows_closed first.body rest g.ends e),
        omega (arith, g.shallow, g.shallow_body, t.2),
        omega (arith, g.fits, t.3),
        t.4,
      )))

  else_takes : (place : ℕ) (first : Guarded) (ts rest : List Symbol) → IsGuardedTaken limit d ts (first, rest) → Holds (IsTaken limit (suc d) (symbol_at (symbol.Keyword keyword.If) place ∷ ts)) (else_at next place first rest)
  unfolding else_at
  else_takes place first ts rest g =
      Holds-if (IsTaken limit (suc d) (symbol_at (symbol.Keyword keyword.If) place ∷ ts)) (is_else rest) _ _
      (λ e. second_takes place first ts rest g e)
      (λ e. (ap (before (symbol.Keyword keyword.If) place) g.text, (g.is, g.is_body), omega (arith, g.shallow, g.shallow_body), omega (arith, g.fits), e))

  if_takes : (place : ℕ) (ts : List Symbol) → Holds (IsTaken limit (suc d) (symbol_at (symbol.Keyword keyword.If) place ∷ ts)) (if_at limit next place ts)
  unfolding if_at
  if_takes place ts =
      let all : Stmt × List Symbol → Type 0 = IsTaken limit (suc d) (symbol_at (symbol.Keyword keyword.If) place ∷ ts) in
      Holds-bind (IsGuardedTaken limit d ts) all (guarded_at limit next ts) _ (guarded_takes ts) (λ g t. else_takes place g.0 ts g.1 t)

  for_takes : (place : ℕ) (ts : List Symbol) → Holds (IsTaken limit (suc d) (symbol_at (symbol.Keyword keyword.For) place ∷ ts)) (for_at limit next place ts)
  unfolding for_at
  for_takes place ts =
      let all : Stmt × List Symbol → Type 0 = IsTaken limit (suc d) (symbol_at (symbol.Keyword keyword.For) place ∷ ts) in
      Holds-bind (IsHeadingTaken limit ts) all (heading_at limit ts) _ (heading_takes limit ts)
      (λ h u. Holds-bind (IsTaken limit d h.1) all (next h.1) _ (sound h.1)
      (λ s t. (
        ap (before (symbol.Keyword keyword.For) place) (u.text ∙ ap (heading_text h.0.opening h.0.start.target h.0.start.selection h.0.start.equals h.0.start.value h.0.first_semicolon h.0.condition h.0.second_semicolon h.0.step.target h.0.step.selection h.0.step.equals h.0.step.value h.0.closing) t.0),
        (u.is_target, u.is_start, u.is_condition, u.is_step_target, u.is_step, t.1),
        omega (arith, u.fits_start, u.fits_condition, u.fits_step, t.2),
        omega (arith, t.3),
        t.4,
      )))

  labels_item_takes : (may_default : Bool) (ts : List Symbol) → is_default ts ≡ false → Holds (IsItemTaken limit d may_default ts) (labels_item_at limit next ts)
  unfolding labels_item_at
  labels_item_takes may_default ts e =
      let colon_kind = symbol.Punctuator punctuator.Colon in
      let all : Item × List Symbol → Type 0 = IsItemTaken limit d may_default ts in
      Holds-bind (AreLabelsTaken limit ts) all (labels_at limit ts) _ (labels_takes limit ts)
      (λ l u. Holds-bind (IsTerminal colon_kind l.1) all (terminal colon_kind l.1) _ (terminal_takes colon_kind l.1)
      (λ c f. Holds-bind (IsTaken limit d c.1) all (next c.1) _ (sound c.1)
      (λ s t. record {
        text = u.text ∙ ap (labels_text l.0) (f ∙ ap (before colon_kind c.0) t.0);
        is = (u.are, t.1);
        shallow = omega (arith, u.fits, t.2);
        fits = t.3;
        counted = labels_counted may_default (is_default ts) e;
      })))

  default_item_takes : (may_default : Bool) (ts : List Symbol) → may_default ≡ true → is_default ts ≡ true → Holds (IsItemTaken limit d may_default ts) (default_item_at next ts)
  unfolding default_item_at
  default_item_takes may_default ts m e =
      let default_kind = symbol.Keyword keyword.Default in
      let all : Item × List Symbol → Type 0 = IsItemTaken limit d may_default ts in
      Holds-bind (IsTerminal default_kind ts) all (terminal default_kind ts) _ (terminal_takes default_kind ts)
      (λ p f. Holds-bind (IsColon p.1) all (colon_at p.1) _ (colon_takes p.1)
      (λ c g. Holds-bind (IsTaken limit d c.1) all (next c.1) _ (sound c.1)
      (λ s t. record {
        text = f ∙ ap (before default_kind p.0) (g ∙ ap (colon_text c.0) t.0);
        is = t.1;
        shallow = t.2;
        fits = t.3;
        counted = default_counted may_default (is_default ts) m e;
      })))

  item_takes : (may_default : Bool) (ts : List Symbol) → Holds (IsItemTaken limit d may_default ts) (item_at limit next may_default ts)
  unfolding item_at
  item_takes may_default ts =
      let all : Item × List Symbol → Type 0 = IsItemTaken limit d may_default ts in
      Holds-if all (is_default ts) _ _
      (λ e. Holds-if all may_default _ _ (λ m. default_item_takes may_default ts m e) (λ m. tt))
      (λ e. labels_item_takes may_default ts e)

  further_items_takes : (m : ℕ) (may_default : Bool) (i : Item) (ts : List Symbol) → IsItem i → item_height i ≤ limit → item_depth i ≤ d → Holds (AreItemsTaken limit d (item_defaults i + allowed may_default) (item_text i ts)) (further_items_at limit next m may_default i ts)
  unfolding further_items_at
  further_items_takes zero may_default i ts is shallow fits = record { text = refl; are = is; shallow = shallow; fits = fits; counted = omega arith }
  further_items_takes (suc m) may_default i ts is shallow fits =
      let all : Items × List Symbol → Type 0 = AreItemsTaken limit d (item_defaults i + allowed may_default) (item_text i ts) in
      Holds-if all (items_go_on ts) _ _
      (λ e. Holds-bind (IsItemTaken limit d may_default ts) all (item_at limit next may_default ts) _ (item_takes may_default ts)
      (λ j f. Holds-bind (AreItemsTaken limit d (item_defaults j.0 + allowed (may_still may_default ts)) (item_text j.0 j.1)) all (further_items_at limit next m (may_still may_default ts) j.0 j.1) _ (further_items_takes m (may_still may_default ts) j.0 j.1 f.is f.shallow f.fits)
      (λ l g. record {
        text = ap (item_text i) (f.text ∙ g.text);
        are = (is, g.are);
        shallow = omega (arith, shallow, g.shallow);
        fits = omega (arith, fits, g.fits);
        counted = omega (arith, f.counted, g.counted);
      })))
      (λ e. record { text = refl; are = is; shallow = shallow; fits = fits; counted = omega arith })

  items_counted : (ts : List Symbol) (most : ℕ) (following : List Symbol) (r : Result (Items × List Symbol) Stop) → ts ≡ following → most ≤ 1 → Holds (AreItemsTaken limit d most following) r → Holds (AreItemsTaken limit d 1 ts) r
  items_counted ts most following (Ok x) e le h = record { text = e ∙ h.text; are = h.are; shallow = h.shallow; fits = h.fits; counted = omega (arith, h.counted) }
  items_counted ts most following (Err s) e le h = tt

  items_takes : (ts : List Symbol) → Holds (AreItemsTaken limit d 1 ts) (items_at limit next ts)
  unfolding items_at
  items_takes ts =
      let all : Items × List Symbol → Type 0 = AreItemsTaken limit d 1 ts in
      Holds-bind (IsItemTaken limit d true ts) all (item_at limit next true ts) _ (item_takes true ts)
      (λ i f. items_counted ts (item_defaults i.0 + allowed (may_still true ts)) (item_text i.0 i.1) (further_items_at limit next (length i.1) (may_still true ts) i.0 i.1) f.text f.counted (further_items_takes (length i.1) (may_still true ts) i.0 i.1 f.is f.shallow f.fits))

  case_takes : (sort : Sort) (place : ℕ) (ts : List Symbol) → Holds (IsTaken limit (suc d) (symbol_at (sort_kind sort) place ∷ ts)) (case_at limit next sort place ts)
  unfolding case_at
  case_takes sort place ts =
      let endcase_kind = symbol.Keyword keyword.Endcase in
      let all : Stmt × List Symbol → Type 0 = IsTaken limit (suc d) (symbol_at (sort_kind sort) place ∷ ts) in
      Holds-bind (IsConditionTaken limit ts) all (condition_at limit ts) _ (condition_takes limit ts)
      (λ c u. Holds-bind (AreItemsTaken limit d 1 c.1) all (items_at limit next c.1) _ (items_takes c.1)
      (λ i t. Holds-bind (IsTerminal endcase_kind i.1) all (terminal endcase_kind i.1) _ (terminal_takes endcase_kind i.1)
      (λ z f. (
        ap (before (sort_kind sort) place) (u.text ∙ ap (condition_text c.0.opening c.0.value c.0.closing) (t.text ∙ ap (items_text i.0) f)),
        (u.is, t.are, t.counted),
        omega (arith, u.fits, t.shallow),
        omega (arith, t.fits),
        tt,
      ))))

  stmt_by_takes : (kind : SymbolKind) (place : ℕ) (ts : List Symbol) → Holds (IsTaken limit (suc d) (symbol_at kind place ∷ ts)) (stmt_by limit next kind place ts)
  unfolding stmt_by
  stmt_by_takes symbol.Name place ts = assignment_takes limit d place ts
  stmt_by_takes (symbol.Keyword keyword.Begin) place ts = block_takes place ts
  stmt_by_takes (symbol.Punctuator punctuator.Semicolon) place ts = (refl, tt, omega arith, omega arith, tt)
  stmt_by_takes (symbol.Punctuator punctuator.Hash) place ts = delayed_takes place ts
  stmt_by_takes (symbol.Keyword keyword.Wait) place ts = wait_takes place ts
  stmt_by_takes (symbol.Keyword keyword.If) place ts = if_takes place ts
  stmt_by_takes (symbol.Keyword keyword.While) place ts = while_takes place ts
  stmt_by_takes (symbol.Keyword keyword.Forever) place ts = forever_takes place ts
  stmt_by_takes (symbol.Keyword keyword.For) place ts = for_takes place ts
  stmt_by_takes (symbol.Punctuator punctuator.At) place ts = awaited_takes place ts
  stmt_by_takes (symbol.Keyword keyword.Case) place ts = case_takes Exact place ts
  stmt_by_takes (symbol.Keyword keyword.Casez) place ts = case_takes Wild place ts
  stmt_by_takes symbol.Finish place ts = finish_takes limit d place ts
  stmt_by_takes _ place ts = tt

  form_takes : SoundStmt limit (suc d) (form_at limit next)
  unfolding form_at
  form_takes [] = tt
  form_takes (s ∷ ts) = stmt_by_takes s.kind s.place ts

-- what is read as a statement is spelled so, and nests at most so deep
pub stmt_takes : (limit d : ℕ) → SoundStmt limit d (stmt_at limit d)
unfolding stmt_at
stmt_takes limit zero ts = tt
stmt_takes limit (suc d) ts = form_takes limit d (stmt_at limit d) (stmt_takes limit d) ts

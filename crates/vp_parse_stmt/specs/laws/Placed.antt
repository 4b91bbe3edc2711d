-- Reading into lists gives what the derivation that is read puts there.
use Rattle.vp_source.specs.declared.statement.EventTerm as term
use Rattle.vp_source.specs.declared.statement.Choice as choice
use Rattle.std.proofs.Common.{◌≡◌, ℕ, zero, suc, List, [], ◌∷◌, ◌++◌, length, Option, Result, Ok, Err, refl, ap, ◌∙◌, append_assoc, Bool, true}
use Rattle.std.specs.Prelude.{◌-◌, nat_lt}
use Rattle.vp_lex.specs.declared.keyword.Keyword.TheVariants as keyword
use Rattle.vp_lex.specs.declared.token.Punctuator.TheVariants as punctuator
use Rattle.vp_source.specs.declared.statement.Statement.TheVariants as statement_of
use Rattle.vp_source.specs.declared.symbol.Symbol.{Symbol}
use Rattle.vp_source.specs.declared.symbol.SymbolKind.{SymbolKind}
use Rattle.vp_source.specs.declared.symbol.SymbolKind.TheVariants as symbol
use Rattle.vp_source.specs.declared.symbol.TheConstants.{NUMBER_LIMIT}
use Rattle.vp_source.specs.ExprGrammar.{Selection, Expr}
use Rattle.vp_parse_expr.specs.Stopping.{Stop, ◌>>=◌, Reader, is_next, terminal, following, refused}
use Rattle.vp_parse_expr.specs.Reading.{expr_at, selection_at}
use Rattle.vp_parse_expr.specs.Placing.{Made as Placed, expr_into, selection_into}
use Rattle.vp_parse_expr.specs.laws.Placed.{seen, bind_seen, last_seen, if_seen, left, after_seen, made as made_expr, expr_seen, made_selection, selection_seen, all_seen}
use Rattle.vp_source.specs.StmtGrammar.{Delay, Plain, Hold, delay_amount, Stmt, Stmts, Then, Edge, Posedge, Negedge, edge_kind, Term, Level, Separator, Or, Comma, separator_kind, TermList, Further, Event, Any, AnyGrouped, Change, Terms, Sort, Exact, Wild, LabelList, Also, Colon, Marked, Item, Items, More, Argument, Given}
use Rattle.vp_source.specs.StmtLayout.{put_value, put_target, put_hold, put_stmt, put_stmts, put_blocking, put_edge, put_term, put_terms, put_event, put_labels, put_item, put_items, is_wild}
use Rattle.vp_source.specs.StmtLayout.{Lists}
use Rattle.vp_parse_stmt.specs.Reading.{Blocking, Condition, Guarded, goes_on, stmts_at, amount_by, amount_at, grouped_delay_at, delay_at, later_at, hold_at, blocking_at, assign_at, nonblocking_at, is_arrow, set_at, assignment_at, block_at, delayed_at, condition_at, guarded_at, wait_at, while_at, forever_at, is_else, second_at, else_at, if_at, stmt_by, form_at, stmt_at, Heading, named_blocking_at, heading_at, for_at, Joined, edged_at, term_at, is_separator, separator_by, separator_at, joined_at, further_terms_at, terms_at, terms_event_at, star_event_at, event_by, event_at, awaited_at, FurtherLabel, further_label_at, further_labels_at, labels_at, labels_item_at, colon_at, default_item_at, is_default, item_at, items_go_on, may_still, further_items_at, items_at, case_at, given_at, argument_at, finish_at}
use Rattle.vp_parse_stmt.specs.Placing.{Made, Placer, MadeGuarded, value_into, amount_by_into, amount_into, grouped_delay_into, delay_into, later_into, hold_into, blocking_into, assign_into, nonblocking_into, set_into, assignment_into, delayed_into, chain_into, stmts_into, block_into, condition_into, guarded_into, wait_into, while_into, forever_into, second_into, else_into, if_into, stmt_by_into, form_into, stmt_into, MadeHeading, named_blocking_into, heading_into, for_into, MadeTerms, MadeEvent, edged_into, term_into, separator_into, joined_into, further_terms_into, terms_into, terms_event_into, star_event_into, event_by_into, event_into, awaited_into, MadeLabels, MadeItems, ItemPlacer, further_label_into, further_labels_into, labels_into, labels_item_into, colon_into, default_item_into, item_into, further_items_into, items_into, case_into, given_into, argument_into, finish_into}

-- the place of what is read, put after the lists, with these and what is left
abbrev pub made : {A B : Type 0} → (A → Lists → B × Lists) → Lists → A × List Symbol → B × Lists × List Symbol
made put lists x = ((put x.0 lists).0, (put x.0 lists).1, x.1)

-- a reader into lists gives what a reader of derivations does
abbrev pub Places : {A : Type 0} → (A → Lists → ℕ × Lists) → Placer → Reader A → Type 0
Places put placer reader = (lists : Lists) (ts : List Symbol) → placer lists ts ≡ seen (made put lists) (reader ts)

viewed : {X Y B : Type 0} (h : Y → X) (g : X → B) (r : Result X Stop) (s : Result Y Stop) → r ≡ seen h s → (r >>= λ x. Ok (g x)) ≡ seen (λ y. g (h y)) s
viewed {X} {Y} {B} h g r (Ok y) e = ap (λ (r : Result X Stop). (let b : Result B Stop = r >>= λ x. Ok (g x) in b)) e
viewed {X} {Y} {B} h g r (Err s) e = ap (λ (r : Result X Stop). (let b : Result B Stop = r >>= λ x. Ok (g x) in b)) e

pub value_seen : (limit : ℕ) → Places put_value (value_into limit) (expr_at limit 0)
unfolding value_into
value_seen limit lists ts =
    viewed (made_expr lists.expressions) (λ (e : Placed). (let x : Made = (e.0, record lists { expressions = e.2 }, e.3) in x)) (expr_into limit 0 lists.expressions ts) (expr_at limit 0 ts) (expr_seen limit 0 lists.expressions ts)

-- ---- statements

-- ---- delays

-- how long a delay is, and what is left
abbrev paused : Delay × List Symbol → ℕ × List Symbol
paused x = (delay_amount x.0, x.1)

-- the delay of a nonblocking assignment, and what is left
abbrev held : Hold × List Symbol → Option ℕ × List Symbol
held x = (put_hold x.0, x.1)

-- a number without its place, and what is left
abbrev valued : (ℕ × ℕ) × List Symbol → ℕ × List Symbol
valued x = (x.0.0, x.1)

amount_by_seen : (kind : SymbolKind) (place : ℕ) (ts : List Symbol) → amount_by_into kind ts ≡ seen valued (amount_by kind place ts)
unfolding amount_by_into amount_by
amount_by_seen (symbol.Number number) place ts = if_seen valued (nat_lt number NUMBER_LIMIT) _ _ _ _ refl refl
amount_by_seen _ place ts = refl

amount_seen : (ts : List Symbol) → amount_into ts ≡ seen valued (amount_at ts)
unfolding amount_into amount_at
amount_seen [] = refl
amount_seen (s ∷ ts) = amount_by_seen s.kind s.place ts

grouped_delay_seen : (ts : List Symbol) → grouped_delay_into ts ≡ seen paused (grouped_delay_at ts)
unfolding grouped_delay_into grouped_delay_at
grouped_delay_seen ts =
    let left_kind = symbol.Punctuator punctuator.LeftParenthesis in
    let right_kind = symbol.Punctuator punctuator.RightParenthesis in
    bind_seen left paused (following left_kind ts) (terminal left_kind ts) _ _ (after_seen left_kind ts)
    (λ o. bind_seen valued paused (amount_into o.1) (amount_at o.1) _ _ (amount_seen o.1)
    (λ a. bind_seen left paused (following right_kind a.1) (terminal right_kind a.1) _ _ (after_seen right_kind a.1)
    (λ z. refl)))

plain_delay_seen : (ts : List Symbol) → amount_into ts ≡ seen paused (amount_at ts >>= λ amount. Ok (Plain amount.0.0 amount.0.1, amount.1))
plain_delay_seen ts = amount_seen ts ∙ last_seen (λ (a : (ℕ × ℕ) × List Symbol). (let p : Delay × List Symbol = (Plain a.0.0 a.0.1, a.1) in p)) paused (amount_at ts)

delay_seen : (ts : List Symbol) → delay_into ts ≡ seen paused (delay_at ts)
unfolding delay_into delay_at
delay_seen ts = if_seen paused (is_next (symbol.Punctuator punctuator.LeftParenthesis) ts) _ _ _ _ (grouped_delay_seen ts) (plain_delay_seen ts)

later_seen : (ts : List Symbol) → later_into ts ≡ seen held (later_at ts)
unfolding later_into later_at
later_seen ts =
    let hash_kind = symbol.Punctuator punctuator.Hash in
    bind_seen left held (following hash_kind ts) (terminal hash_kind ts) _ _ (after_seen hash_kind ts)
    (λ h. bind_seen paused held (delay_into h.1) (delay_at h.1) _ _ (delay_seen h.1) (λ d. refl))

hold_seen : (ts : List Symbol) → hold_into ts ≡ seen held (hold_at ts)
unfolding hold_into hold_at
hold_seen ts = if_seen held (is_next (symbol.Punctuator punctuator.Hash) ts) _ _ _ _ (later_seen ts) refl

-- ---- assignments

-- a target and what it is to have, put after the lists
abbrev put_set : Blocking → Lists → ℕ × Lists
put_set b lists = put_blocking b.target b.selection b.value lists

blocking_seen : (limit target : ℕ) (selection : Selection) (lists : Lists) (ts : List Symbol) → blocking_into limit target (put_target selection lists).0 (put_target selection lists).1 ts ≡ seen (made put_set lists) (blocking_at limit target selection ts)
unfolding blocking_into blocking_at
blocking_seen limit target selection lists ts =
    let equals_kind = symbol.Punctuator punctuator.Equals in
    let after : Lists = (put_target selection lists).1 in
    bind_seen left (made put_set lists) (following equals_kind ts) (terminal equals_kind ts) _ _ (after_seen equals_kind ts)
    (λ q. bind_seen (made put_value after) (made put_set lists) (value_into limit after q.1) (expr_at limit 0 q.1) _ _ (value_seen limit after q.1) (λ v. refl))

assign_seen : (limit target : ℕ) (selection : Selection) (lists : Lists) (ts : List Symbol) → assign_into limit target (put_target selection lists).0 (put_target selection lists).1 ts ≡ seen (made put_stmt lists) (assign_at limit target selection ts)
unfolding assign_into assign_at
assign_seen limit target selection lists ts =
    let semicolon_kind = symbol.Punctuator punctuator.Semicolon in
    let s = put_target selection lists in
    bind_seen (made put_set lists) (made put_stmt lists) (blocking_into limit target s.0 s.1 ts) (blocking_at limit target selection ts) _ _ (blocking_seen limit target selection lists ts)
    (λ b. bind_seen left (made put_stmt lists) (following semicolon_kind b.1) (terminal semicolon_kind b.1) _ _ (after_seen semicolon_kind b.1) (λ z. refl))

nonblocking_seen : (limit target : ℕ) (selection : Selection) (lists : Lists) (ts : List Symbol) → nonblocking_into limit target (put_target selection lists).0 (put_target selection lists).1 ts ≡ seen (made put_stmt lists) (nonblocking_at limit target selection ts)
unfolding nonblocking_into nonblocking_at
nonblocking_seen limit target selection lists ts =
    let arrow_kind = symbol.Punctuator punctuator.LessOrEqual in
    let semicolon_kind = symbol.Punctuator punctuator.Semicolon in
    let after : Lists = (put_target selection lists).1 in
    bind_seen left (made put_stmt lists) (following arrow_kind ts) (terminal arrow_kind ts) _ _ (after_seen arrow_kind ts)
    (λ a. bind_seen held (made put_stmt lists) (hold_into a.1) (hold_at a.1) _ _ (hold_seen a.1)
    (λ h. bind_seen (made put_value after) (made put_stmt lists) (value_into limit after h.1) (expr_at limit 0 h.1) _ _ (value_seen limit after h.1)
    (λ v. bind_seen left (made put_stmt lists) (following semicolon_kind v.1) (terminal semicolon_kind v.1) _ _ (after_seen semicolon_kind v.1) (λ z. refl))))

set_seen : (limit target : ℕ) (selection : Selection) (lists : Lists) (ts : List Symbol) → set_into limit target (put_target selection lists).0 (put_target selection lists).1 ts ≡ seen (made put_stmt lists) (set_at limit target selection ts)
unfolding set_into set_at
set_seen limit target selection lists ts =
    if_seen (made put_stmt lists) (is_arrow ts) _ _ _ _ (nonblocking_seen limit target selection lists ts) (assign_seen limit target selection lists ts)

assignment_seen : (limit target : ℕ) → Places put_stmt (assignment_into limit target) (assignment_at limit target)
unfolding assignment_into assignment_at
assignment_seen limit target lists ts =
    bind_seen (made_selection lists.expressions) (made put_stmt lists) (selection_into (limit - 1) lists.expressions ts) (selection_at (limit - 1) ts) _ _ (selection_seen (limit - 1) lists.expressions ts)
    (λ b. set_seen limit target b.0 lists b.1)

-- ---- headings

named_blocking_seen : (limit : ℕ) → Places put_set (named_blocking_into limit) (named_blocking_at limit)
unfolding named_blocking_into named_blocking_at
named_blocking_seen limit lists ts =
    bind_seen (λ (t : ℕ × List Symbol). t) (made put_set lists) (terminal symbol.Name ts) (terminal symbol.Name ts) _ _ (all_seen (terminal symbol.Name ts))
    (λ t. bind_seen (made_selection lists.expressions) (made put_set lists) (selection_into (limit - 1) lists.expressions t.1) (selection_at (limit - 1) t.1) _ _ (selection_seen (limit - 1) lists.expressions t.1)
    (λ b. blocking_seen limit t.0 b.0 lists b.1))

-- the places of a start, a condition and a step, put after the lists, with these and what is left
abbrev made_heading : Lists → Heading × List Symbol → MadeHeading
made_heading lists x =
    let a = put_set x.0.start lists in let c = put_value x.0.condition a.1 in let b = put_set x.0.step c.1 in (a.0, c.0, b.0, b.1, x.1)

heading_seen : (limit : ℕ) (lists : Lists) (ts : List Symbol) → heading_into limit lists ts ≡ seen (made_heading lists) (heading_at limit ts)
unfolding heading_into heading_at
heading_seen limit lists ts =
    let left_kind = symbol.Punctuator punctuator.LeftParenthesis in
    let semicolon_kind = symbol.Punctuator punctuator.Semicolon in
    let right_kind = symbol.Punctuator punctuator.RightParenthesis in
    bind_seen left (made_heading lists) (following left_kind ts) (terminal left_kind ts) _ _ (after_seen left_kind ts)
    (λ o. bind_seen (made put_set lists) (made_heading lists) (named_blocking_into limit lists o.1) (named_blocking_at limit o.1) _ _ (named_blocking_seen limit lists o.1)
    (λ a. (
    let started : Lists = (put_set a.0 lists).1 in
    bind_seen left (made_heading lists) (following semicolon_kind a.1) (terminal semicolon_kind a.1) _ _ (after_seen semicolon_kind a.1)
    (λ f. bind_seen (made put_value started) (made_heading lists) (value_into limit started f.1) (expr_at limit 0 f.1) _ _ (value_seen limit started f.1)
    (λ c. (
    let tested : Lists = (put_value c.0 started).1 in
    bind_seen left (made_heading lists) (following semicolon_kind c.1) (terminal semicolon_kind c.1) _ _ (after_seen semicolon_kind c.1)
    (λ s. bind_seen (made put_set tested) (made_heading lists) (named_blocking_into limit tested s.1) (named_blocking_at limit s.1) _ _ (named_blocking_seen limit tested s.1)
    (λ b. bind_seen left (made_heading lists) (following right_kind b.1) (terminal right_kind b.1) _ _ (after_seen right_kind b.1)
    (λ z. refl)))
    )))
    )))

-- ---- events

-- a term, and what is left
abbrev made_term : Term × List Symbol → term.EventTerm × List Symbol
made_term x = (put_term x.0, x.1)

edged_seen : (edge : Edge) (ts : List Symbol) → edged_into (put_edge edge) (edge_kind edge) ts ≡ seen made_term (edged_at edge ts)
unfolding edged_into edged_at
edged_seen edge ts =
    bind_seen left made_term (following (edge_kind edge) ts) (terminal (edge_kind edge) ts) _ _ (after_seen (edge_kind edge) ts)
    (λ e. bind_seen (λ (t : ℕ × List Symbol). t) made_term (terminal symbol.Name e.1) (terminal symbol.Name e.1) _ _ (all_seen (terminal symbol.Name e.1)) (λ t. refl))

level_seen : (ts : List Symbol) → (terminal symbol.Name ts >>= λ name. Ok (put_term (Level name.0), name.1)) ≡ seen made_term (terminal symbol.Name ts >>= λ name. Ok (Level name.0, name.1))
level_seen ts = bind_seen (λ (t : ℕ × List Symbol). t) made_term (terminal symbol.Name ts) (terminal symbol.Name ts) _ _ (all_seen (terminal symbol.Name ts)) (λ t. refl)

term_seen : (ts : List Symbol) → term_into ts ≡ seen made_term (term_at ts)
unfolding term_into term_at
term_seen ts =
    if_seen made_term (is_next (edge_kind Posedge) ts) _ _ _ _ (edged_seen Posedge ts)
    (if_seen made_term (is_next (edge_kind Negedge) ts) _ _ _ _ (edged_seen Negedge ts) (level_seen ts))

-- what is left after what stands between terms
abbrev left_apart : (Separator × ℕ) × List Symbol → List Symbol
left_apart x = x.1

separator_by_seen : (separator : Separator) (ts : List Symbol) → following (separator_kind separator) ts ≡ seen left_apart (separator_by separator ts)
unfolding separator_by
separator_by_seen separator ts =
    after_seen (separator_kind separator) ts ∙ last_seen (λ (p : ℕ × List Symbol). (let x : (Separator × ℕ) × List Symbol = ((separator, p.0), p.1) in x)) left_apart (terminal (separator_kind separator) ts)

separator_seen : (ts : List Symbol) → separator_into ts ≡ seen left_apart (separator_at ts)
unfolding separator_into separator_at
separator_seen ts = if_seen left_apart (is_next (separator_kind Comma) ts) _ _ _ _ (separator_by_seen Comma ts) (separator_by_seen Or ts)

-- one more term after others, and what is left
abbrev made_joined : List term.EventTerm → Joined × List Symbol → MadeTerms
made_joined terms x = (terms ++ put_term x.0.term ∷ [], x.1)

joined_seen : (terms : List term.EventTerm) (ts : List Symbol) → joined_into terms ts ≡ seen (made_joined terms) (joined_at ts)
unfolding joined_into joined_at
joined_seen terms ts =
    bind_seen left_apart (made_joined terms) (separator_into ts) (separator_at ts) _ _ (separator_seen ts)
    (λ s. bind_seen made_term (made_joined terms) (term_into s.1) (term_at s.1) _ _ (term_seen s.1) (λ t. refl))

-- terms after others, and what is left
abbrev made_terms : List term.EventTerm → TermList × List Symbol → MadeTerms
made_terms terms x = (put_terms x.0 terms, x.1)

further_terms_seen : (m : ℕ) (t : Term) (terms : List term.EventTerm) (ts : List Symbol) → further_terms_into m (terms ++ put_term t ∷ []) ts ≡ seen (made_terms terms) (further_terms_at m t ts)
unfolding further_terms_into further_terms_at
further_terms_seen zero t terms ts = refl
further_terms_seen (suc m) t terms ts =
    let grown : List term.EventTerm = terms ++ put_term t ∷ [] in
    if_seen (made_terms terms) (is_separator ts) _ _ _ _
    (bind_seen (made_joined grown) (made_terms terms) (joined_into grown ts) (joined_at ts) _ _ (joined_seen grown ts)
    (λ j. (
    further_terms_seen m j.0.term grown j.1
    ∙ last_seen (λ (l : TermList × List Symbol). (let x : TermList × List Symbol = (Further t j.0.separator j.0.place l.0, l.1) in x)) (made_terms terms) (further_terms_at m j.0.term j.1)
    )))
    refl

terms_seen : (terms : List term.EventTerm) (ts : List Symbol) → terms_into terms ts ≡ seen (made_terms terms) (terms_at ts)
unfolding terms_into terms_at
terms_seen terms ts =
    bind_seen made_term (made_terms terms) (term_into ts) (term_at ts) _ _ (term_seen ts) (λ t. further_terms_seen (length t.1) t.0 terms t.1)

-- where the terms of an event lie, the list with them, and what is left
abbrev made_awaited : Lists → Event × List Symbol → MadeEvent
made_awaited lists x = let e = put_event x.0 lists in (e.0, e.1.terms, x.1)

terms_event_seen : (opening : ℕ) (lists : Lists) (ts : List Symbol) → terms_event_into lists.terms ts ≡ seen (made_awaited lists) (terms_event_at opening ts)
unfolding terms_event_into terms_event_at
terms_event_seen opening lists ts =
    let right_kind = symbol.Punctuator punctuator.RightParenthesis in
    bind_seen (made_terms lists.terms) (made_awaited lists) (terms_into lists.terms ts) (terms_at ts) _ _ (terms_seen lists.terms ts)
    (λ l. bind_seen left (made_awaited lists) (following right_kind l.1) (terminal right_kind l.1) _ _ (after_seen right_kind l.1) (λ z. refl))

star_event_seen : (opening : ℕ) (lists : Lists) (ts : List Symbol) → star_event_into lists.terms ts ≡ seen (made_awaited lists) (star_event_at opening ts)
unfolding star_event_into star_event_at
star_event_seen opening lists ts =
    let star_kind = symbol.Punctuator punctuator.Asterisk in
    let right_kind = symbol.Punctuator punctuator.RightParenthesis in
    bind_seen left (made_awaited lists) (following star_kind ts) (terminal star_kind ts) _ _ (after_seen star_kind ts)
    (λ a. bind_seen left (made_awaited lists) (following right_kind a.1) (terminal right_kind a.1) _ _ (after_seen right_kind a.1) (λ z. refl))

event_by_seen : (kind : SymbolKind) (place : ℕ) (lists : Lists) (ts : List Symbol) → event_by_into kind place lists.terms ts ≡ seen (made_awaited lists) (event_by kind place ts)
unfolding event_by_into event_by
event_by_seen symbol.Name place lists ts = refl
event_by_seen (symbol.Punctuator punctuator.Asterisk) place lists ts = refl
event_by_seen (symbol.Punctuator punctuator.LeftParenthesis) place lists ts =
    if_seen (made_awaited lists) (is_next (symbol.Punctuator punctuator.Asterisk) ts) _ _ _ _ (star_event_seen place lists ts) (terms_event_seen place lists ts)
event_by_seen _ place lists ts = refl

event_seen : (lists : Lists) (ts : List Symbol) → event_into lists.terms ts ≡ seen (made_awaited lists) (event_at ts)
unfolding event_into event_at
event_seen lists [] = refl
event_seen lists (s ∷ ts) = event_by_seen s.kind s.place lists ts

-- an event changes nothing but the list of terms
event_terms : (e : Event) (lists : Lists) → record lists { terms = (put_event e lists).1.terms } ≡ (put_event e lists).1
event_terms (Any star) lists = refl
event_terms (AnyGrouped opening star closing) lists = refl
event_terms (Change name) lists = refl
event_terms (Terms opening l closing) lists = refl

-- ---- the end of a simulation

-- what is left after an argument
abbrev left_argument : Argument × List Symbol → List Symbol
left_argument x = x.1

closing_seen : (opening : ℕ) (amount : (ℕ × ℕ) × List Symbol) → following (symbol.Punctuator punctuator.RightParenthesis) amount.1 ≡ seen left_argument (terminal (symbol.Punctuator punctuator.RightParenthesis) amount.1 >>= λ z. Ok (Given opening amount.0.0 amount.0.1 z.0, z.1))
closing_seen opening amount =
    after_seen (symbol.Punctuator punctuator.RightParenthesis) amount.1
    ∙ last_seen (λ (z : ℕ × List Symbol). (let x : Argument × List Symbol = (Given opening amount.0.0 amount.0.1 z.0, z.1) in x)) left_argument (terminal (symbol.Punctuator punctuator.RightParenthesis) amount.1)

given_seen : (ts : List Symbol) → given_into ts ≡ seen left_argument (given_at ts)
unfolding given_into given_at
given_seen ts =
    let left_kind = symbol.Punctuator punctuator.LeftParenthesis in
    bind_seen left left_argument (following left_kind ts) (terminal left_kind ts) _ _ (after_seen left_kind ts)
    (λ o. bind_seen valued left_argument (amount_into o.1) (amount_at o.1) _ _ (amount_seen o.1) (λ a. closing_seen o.0 a))

argument_seen : (ts : List Symbol) → argument_into ts ≡ seen left_argument (argument_at ts)
unfolding argument_into argument_at
argument_seen ts = if_seen left_argument (is_next (symbol.Punctuator punctuator.LeftParenthesis) ts) _ _ _ _ (given_seen ts) refl

finish_seen : (place : ℕ) → Places put_stmt finish_into (finish_at place)
unfolding finish_into finish_at
finish_seen place lists ts =
    let semicolon_kind = symbol.Punctuator punctuator.Semicolon in
    bind_seen left_argument (made put_stmt lists) (argument_into ts) (argument_at ts) _ _ (argument_seen ts)
    (λ a. bind_seen left (made put_stmt lists) (following semicolon_kind a.1) (terminal semicolon_kind a.1) _ _ (after_seen semicolon_kind a.1) (λ s. refl))

-- ---- conditions

-- the expression of a condition, put after the lists
abbrev put_condition : Condition → Lists → ℕ × Lists
put_condition c lists = put_value c.value lists

condition_seen : (limit : ℕ) → Places put_condition (condition_into limit) (condition_at limit)
unfolding condition_into condition_at
condition_seen limit lists ts =
    let left_kind = symbol.Punctuator punctuator.LeftParenthesis in
    let right_kind = symbol.Punctuator punctuator.RightParenthesis in
    bind_seen left (made put_condition lists) (following left_kind ts) (terminal left_kind ts) _ _ (after_seen left_kind ts)
    (λ o. bind_seen (made put_value lists) (made put_condition lists) (value_into limit lists o.1) (expr_at limit 0 o.1) _ _ (value_seen limit lists o.1)
    (λ v. bind_seen left (made put_condition lists) (following right_kind v.1) (terminal right_kind v.1) _ _ (after_seen right_kind v.1)
    (λ z. refl)))

-- ---- labels

-- labels after others, and what is left
abbrev made_labels : List ℕ → Lists → LabelList × List Symbol → MadeLabels
made_labels labels lists x = ((put_labels x.0 labels lists).0, (put_labels x.0 labels lists).1, x.1)

-- one more label after others, and what is left
abbrev made_label : List ℕ → Lists → FurtherLabel × List Symbol → MadeLabels
made_label labels lists x = (labels ++ (put_value x.0.value lists).0 ∷ [], (put_value x.0.value lists).1, x.1)

further_label_seen : (limit : ℕ) (labels : List ℕ) (lists : Lists) (ts : List Symbol) → further_label_into limit labels lists ts ≡ seen (made_label labels lists) (further_label_at limit ts)
unfolding further_label_into further_label_at
further_label_seen limit labels lists ts =
    let comma_kind = symbol.Punctuator punctuator.Comma in
    bind_seen left (made_label labels lists) (following comma_kind ts) (terminal comma_kind ts) _ _ (after_seen comma_kind ts)
    (λ c. bind_seen (made put_value lists) (made_label labels lists) (value_into limit lists c.1) (expr_at limit 0 c.1) _ _ (value_seen limit lists c.1) (λ v. refl))

further_labels_seen : (limit m : ℕ) (e : Expr) (labels : List ℕ) (lists : Lists) (ts : List Symbol) → (let v = put_value e lists in further_labels_into limit m (labels ++ v.0 ∷ []) v.1 ts) ≡ seen (made_labels labels lists) (further_labels_at limit m e ts)
unfolding further_labels_into further_labels_at
further_labels_seen limit zero e labels lists ts = refl
further_labels_seen limit (suc m) e labels lists ts =
    let grown : List ℕ = labels ++ (put_value e lists).0 ∷ [] in
    let after : Lists = (put_value e lists).1 in
    if_seen (made_labels labels lists) (is_next (symbol.Punctuator punctuator.Comma) ts) _ _ _ _
    (bind_seen (made_label grown after) (made_labels labels lists) (further_label_into limit grown after ts) (further_label_at limit ts) _ _ (further_label_seen limit grown after ts)
    (λ j. (
    further_labels_seen limit m j.0.value grown after j.1
    ∙ last_seen (λ (l : LabelList × List Symbol). (let x : LabelList × List Symbol = (Also e j.0.comma l.0, l.1) in x)) (made_labels labels lists) (further_labels_at limit m j.0.value j.1)
    )))
    refl

labels_seen : (limit : ℕ) (lists : Lists) (ts : List Symbol) → labels_into limit lists ts ≡ seen (made_labels [] lists) (labels_at limit ts)
unfolding labels_into labels_at
labels_seen limit lists ts =
    bind_seen (made put_value lists) (made_labels [] lists) (value_into limit lists ts) (expr_at limit 0 ts) _ _ (value_seen limit lists ts)
    (λ e. further_labels_seen limit (length e.1) e.0 [] lists e.1)

-- what is left after a colon
abbrev left_colon : Colon × List Symbol → List Symbol
left_colon x = x.1

marked_seen : (ts : List Symbol) → following (symbol.Punctuator punctuator.Colon) ts ≡ seen left_colon (terminal (symbol.Punctuator punctuator.Colon) ts >>= λ colon. Ok (Marked colon.0, colon.1))
marked_seen ts =
    after_seen (symbol.Punctuator punctuator.Colon) ts ∙ last_seen (λ (c : ℕ × List Symbol). (let x : Colon × List Symbol = (Marked c.0, c.1) in x)) left_colon (terminal (symbol.Punctuator punctuator.Colon) ts)

colon_seen : (ts : List Symbol) → colon_into ts ≡ seen left_colon (colon_at ts)
unfolding colon_into colon_at
colon_seen ts = if_seen left_colon (is_next (symbol.Punctuator punctuator.Colon) ts) _ _ _ _ (marked_seen ts) refl

-- ---- items

-- what is read of a case, with its choices after others and its parts after the lists, and what is left
abbrev made_items : {A : Type 0} → (A → Lists → List choice.Choice × Lists) → List choice.Choice → Lists → A × List Symbol → MadeItems
made_items put choices lists x = (choices ++ (put x.0 lists).0, (put x.0 lists).1, x.1)

-- a reader of items into lists gives what a reader of derivations does
abbrev PlacesItems : {A : Type 0} → (A → Lists → List choice.Choice × Lists) → ItemPlacer → Reader A → Type 0
PlacesItems put placer reader =
    (choices : List choice.Choice) (lists : Lists) (ts : List Symbol) → placer choices lists ts ≡ seen (made_items put choices lists) (reader ts)

-- items after an item, whose choices lie after its own
listed_items : (i : Item) (choices : List choice.Choice) (lists : Lists) (r : Result (Items × List Symbol) Stop)
    → (let x = put_item i lists in seen (made_items put_items (choices ++ x.0) x.1) r) ≡ seen (made_items put_items choices lists) (r >>= λ l. Ok (More i l.0, l.1))
listed_items i choices lists (Ok l) =
    let x = put_item i lists in let y = put_items l.0 x.1 in
    ap (λ (all : List choice.Choice). (let m : Result MadeItems Stop = Ok (all, y.1, l.1) in m)) (append_assoc choices x.0 y.0)
listed_items i choices lists (Err s) = refl

-- the places of an expression and of a statement, put after the lists, with these and what is left
abbrev made_guarded : Lists → Guarded × List Symbol → MadeGuarded
made_guarded lists x =
    let c = put_value x.0.value lists in let b = put_stmt x.0.body c.1 in (c.0, b.0, b.1, x.1)

module _ (placer : Placer) (reader : Reader Stmt) (places : Places put_stmt placer reader) where
  chain_seen : (m chain : ℕ) → Places (λ l. put_stmts l chain) (chain_into placer m chain) (stmts_at reader m)
  unfolding chain_into stmts_at
  chain_seen zero chain lists ts = refl
  chain_seen (suc m) chain lists ts =
      if_seen (made (λ l. put_stmts l chain) lists) (goes_on ts) _ _ _ _
      (bind_seen (made put_stmt lists) (made (λ l. put_stmts l chain) lists) (placer lists ts) (reader ts) _ _ (places lists ts)
      (λ s. (
      let x = put_stmt s.0 lists in
      let after : Lists = record x.1 { statements = x.1.statements ++ statement_of.Then chain x.0 ∷ [] } in
      chain_seen m (length x.1.statements) after s.1
      ∙ last_seen (λ (l : Stmts × List Symbol). (let p : Stmts × List Symbol = (Then s.0 l.0, l.1) in p)) (made (λ l. put_stmts l chain) lists) (stmts_at reader m s.1)
      )))
      refl

  block_seen : (begin : ℕ) → Places put_stmt (block_into placer) (block_at reader begin)
  unfolding block_into block_at stmts_into
  block_seen begin lists ts =
      let opened : Lists = record lists { statements = lists.statements ++ statement_of.Empty ∷ [] } in
      bind_seen (made (λ l. put_stmts l (length lists.statements)) opened) (made put_stmt lists) (chain_into placer (length ts) (length lists.statements) opened ts) (stmts_at reader (length ts) ts) _ _ (chain_seen (length ts) (length lists.statements) opened ts)
      (λ l. bind_seen left (made put_stmt lists) (following (symbol.Keyword keyword.End) l.1) (terminal (symbol.Keyword keyword.End) l.1) _ _ (after_seen (symbol.Keyword keyword.End) l.1)
      (λ s. refl))

  delayed_seen : (place : ℕ) → Places put_stmt (delayed_into placer) (delayed_at reader place)
  unfolding delayed_into delayed_at
  delayed_seen place lists ts =
      bind_seen paused (made put_stmt lists) (delay_into ts) (delay_at ts) _ _ (delay_seen ts)
      (λ d. bind_seen (made put_stmt lists) (made put_stmt lists) (placer lists d.1) (reader d.1) _ _ (places lists d.1) (λ s. refl))

  awaited_seen : (place : ℕ) → Places put_stmt (awaited_into placer) (awaited_at reader place)
  unfolding awaited_into awaited_at
  awaited_seen place lists ts =
      bind_seen (made_awaited lists) (made put_stmt lists) (event_into lists.terms ts) (event_at ts) _ _ (event_seen lists ts)
      (λ e. (
      let after : Lists = (put_event e.0 lists).1 in
      bind_seen (made put_stmt after) (made put_stmt lists) (placer (record lists { terms = after.terms }) e.1) (reader e.1) _ _ (ap (λ (a : Lists). placer a e.1) (event_terms e.0 lists) ∙ places after e.1) (λ s. refl)
      ))

  guarded_seen : (limit : ℕ) (lists : Lists) (ts : List Symbol) → guarded_into limit placer lists ts ≡ seen (made_guarded lists) (guarded_at limit reader ts)
  unfolding guarded_into guarded_at
  guarded_seen limit lists ts =
      bind_seen (made put_condition lists) (made_guarded lists) (condition_into limit lists ts) (condition_at limit ts) _ _ (condition_seen limit lists ts)
      (λ c. (
      let after : Lists = (put_value c.0.value lists).1 in
      bind_seen (made put_stmt after) (made_guarded lists) (placer after c.1) (reader c.1) _ _ (places after c.1) (λ s. refl)
      ))

  wait_seen : (limit place : ℕ) → Places put_stmt (wait_into limit placer) (wait_at limit reader place)
  unfolding wait_into wait_at
  wait_seen limit place lists ts =
      bind_seen (made_guarded lists) (made put_stmt lists) (guarded_into limit placer lists ts) (guarded_at limit reader ts) _ _ (guarded_seen limit lists ts) (λ g. refl)

  while_seen : (limit place : ℕ) → Places put_stmt (while_into limit placer) (while_at limit reader place)
  unfolding while_into while_at
  while_seen limit place lists ts =
      bind_seen (made_guarded lists) (made put_stmt lists) (guarded_into limit placer lists ts) (guarded_at limit reader ts) _ _ (guarded_seen limit lists ts) (λ g. refl)

  forever_seen : (place : ℕ) → Places put_stmt (forever_into placer) (forever_at reader place)
  unfolding forever_into forever_at
  forever_seen place lists ts = bind_seen (made put_stmt lists) (made put_stmt lists) (placer lists ts) (reader ts) _ _ (places lists ts) (λ s. refl)

  second_seen : (place : ℕ) (first : Guarded) (lists : Lists) (ts : List Symbol) → (let g = made_guarded lists (first, ts) in second_into placer g.0 g.1 g.2 ts) ≡ seen (made put_stmt lists) (second_at reader place first ts)
  unfolding second_into second_at
  second_seen place first lists ts =
      let else_kind = symbol.Keyword keyword.Else in
      let after : Lists = (made_guarded lists (first, ts)).2 in
      bind_seen left (made put_stmt lists) (following else_kind ts) (terminal else_kind ts) _ _ (after_seen else_kind ts)
      (λ z. bind_seen (made put_stmt after) (made put_stmt lists) (placer after z.1) (reader z.1) _ _ (places after z.1) (λ s. refl))

  else_seen : (place : ℕ) (first : Guarded) (lists : Lists) (ts : List Symbol) → (let g = made_guarded lists (first, ts) in else_into placer g.0 g.1 g.2 ts) ≡ seen (made put_stmt lists) (else_at reader place first ts)
  unfolding else_into else_at
  else_seen place first lists ts = if_seen (made put_stmt lists) (is_else ts) _ _ _ _ (second_seen place first lists ts) refl

  if_seen_at : (limit place : ℕ) → Places put_stmt (if_into limit placer) (if_at limit reader place)
  unfolding if_into if_at
  if_seen_at limit place lists ts =
      bind_seen (made_guarded lists) (made put_stmt lists) (guarded_into limit placer lists ts) (guarded_at limit reader ts) _ _ (guarded_seen limit lists ts) (λ g. else_seen place g.0 lists g.1)

  for_seen : (limit place : ℕ) → Places put_stmt (for_into limit placer) (for_at limit reader place)
  unfolding for_into for_at
  for_seen limit place lists ts =
      bind_seen (made_heading lists) (made put_stmt lists) (heading_into limit lists ts) (heading_at limit ts) _ _ (heading_seen limit lists ts)
      (λ h. (
      let after : Lists = (made_heading lists h).3 in
      bind_seen (made put_stmt after) (made put_stmt lists) (placer after h.1) (reader h.1) _ _ (places after h.1) (λ s. refl)
      ))

  labels_item_seen : (limit : ℕ) → PlacesItems put_item (labels_item_into limit placer) (labels_item_at limit reader)
  unfolding labels_item_into labels_item_at
  labels_item_seen limit choices lists ts =
      let colon_kind = symbol.Punctuator punctuator.Colon in
      bind_seen (made_labels [] lists) (made_items put_item choices lists) (labels_into limit lists ts) (labels_at limit ts) _ _ (labels_seen limit lists ts)
      (λ l. (
      let after : Lists = (put_labels l.0 [] lists).1 in
      bind_seen left (made_items put_item choices lists) (following colon_kind l.1) (terminal colon_kind l.1) _ _ (after_seen colon_kind l.1)
      (λ c. bind_seen (made put_stmt after) (made_items put_item choices lists) (placer after c.1) (reader c.1) _ _ (places after c.1) (λ s. refl))
      ))

  default_item_seen : PlacesItems put_item (default_item_into placer) (default_item_at reader)
  unfolding default_item_into default_item_at
  default_item_seen choices lists ts =
      let default_kind = symbol.Keyword keyword.Default in
      bind_seen left (made_items put_item choices lists) (following default_kind ts) (terminal default_kind ts) _ _ (after_seen default_kind ts)
      (λ p. bind_seen left_colon (made_items put_item choices lists) (colon_into p.1) (colon_at p.1) _ _ (colon_seen p.1)
      (λ c. bind_seen (made put_stmt lists) (made_items put_item choices lists) (placer lists c.1) (reader c.1) _ _ (places lists c.1) (λ s. refl)))

  item_seen : (limit : ℕ) (may_default : Bool) → PlacesItems put_item (item_into limit placer may_default) (item_at limit reader may_default)
  unfolding item_into item_at
  item_seen limit may_default choices lists ts =
      if_seen (made_items put_item choices lists) (is_default ts) _ _ _ _
      (if_seen (made_items put_item choices lists) may_default (default_item_into placer choices lists ts) (refused ts) (default_item_at reader ts) (refused ts) (default_item_seen choices lists ts) refl)
      (labels_item_seen limit choices lists ts)

  further_items_seen : (limit m : ℕ) (may_default : Bool) (i : Item) (choices : List choice.Choice) (lists : Lists) (ts : List Symbol)
      → (let x = put_item i lists in further_items_into limit placer m may_default (choices ++ x.0) x.1 ts) ≡ seen (made_items put_items choices lists) (further_items_at limit reader m may_default i ts)
  unfolding further_items_into further_items_at
  further_items_seen limit zero may_default i choices lists ts = refl
  further_items_seen limit (suc m) may_default i choices lists ts =
      let grown : List choice.Choice = choices ++ (put_item i lists).0 in
      let after : Lists = (put_item i lists).1 in
      if_seen (made_items put_items choices lists) (items_go_on ts) _ _ _ _
      (bind_seen (made_items put_item grown after) (made_items put_items choices lists) (item_into limit placer may_default grown after ts) (item_at limit reader may_default ts) _ _ (item_seen limit may_default grown after ts)
      (λ j. (
      further_items_seen limit m (may_still may_default ts) j.0 grown after j.1
      ∙ listed_items i choices lists (further_items_at limit reader m (may_still may_default ts) j.0 j.1)
      )))
      refl

  items_seen : (limit : ℕ) (lists : Lists) (ts : List Symbol) → items_into limit placer lists ts ≡ seen (made_items put_items [] lists) (items_at limit reader ts)
  unfolding items_into items_at
  items_seen limit lists ts =
      bind_seen (made_items put_item [] lists) (made_items put_items [] lists) (item_into limit placer true [] lists ts) (item_at limit reader true ts) _ _ (item_seen limit true [] lists ts)
      (λ i. further_items_seen limit (length i.1) (may_still true ts) i.0 [] lists i.1)

  case_seen : (limit : ℕ) (sort : Sort) (place : ℕ) → Places put_stmt (case_into limit placer (is_wild sort)) (case_at limit reader sort place)
  unfolding case_into case_at
  case_seen limit sort place lists ts =
      let endcase_kind = symbol.Keyword keyword.Endcase in
      bind_seen (made put_condition lists) (made put_stmt lists) (condition_into limit lists ts) (condition_at limit ts) _ _ (condition_seen limit lists ts)
      (λ c. (
      let after : Lists = (put_value c.0.value lists).1 in
      bind_seen (made_items put_items [] after) (made put_stmt lists) (items_into limit placer after c.1) (items_at limit reader c.1) _ _ (items_seen limit after c.1)
      (λ i. bind_seen left (made put_stmt lists) (following endcase_kind i.1) (terminal endcase_kind i.1) _ _ (after_seen endcase_kind i.1) (λ z. refl))
      ))

  stmt_by_seen : (limit : ℕ) (kind : SymbolKind) (place : ℕ) → Places put_stmt (stmt_by_into limit placer kind place) (stmt_by limit reader kind place)
  unfolding stmt_by_into stmt_by
  stmt_by_seen limit symbol.Name place lists ts = assignment_seen limit place lists ts
  stmt_by_seen limit (symbol.Keyword keyword.Begin) place lists ts = block_seen place lists ts
  stmt_by_seen limit (symbol.Punctuator punctuator.Semicolon) place lists ts = refl
  stmt_by_seen limit (symbol.Punctuator punctuator.Hash) place lists ts = delayed_seen place lists ts
  stmt_by_seen limit (symbol.Keyword keyword.Wait) place lists ts = wait_seen limit place lists ts
  stmt_by_seen limit (symbol.Keyword keyword.If) place lists ts = if_seen_at limit place lists ts
  stmt_by_seen limit (symbol.Keyword keyword.While) place lists ts = while_seen limit place lists ts
  stmt_by_seen limit (symbol.Keyword keyword.Forever) place lists ts = forever_seen place lists ts
  stmt_by_seen limit (symbol.Keyword keyword.For) place lists ts = for_seen limit place lists ts
  stmt_by_seen limit (symbol.Punctuator punctuator.At) place lists ts = awaited_seen place lists ts
  stmt_by_seen limit (symbol.Keyword keyword.Case) place lists ts = case_seen limit Exact place lists ts
  stmt_by_seen limit (symbol.Keyword keyword.Casez) place lists ts = case_seen limit Wild place lists ts
  stmt_by_seen limit symbol.Finish place lists ts = finish_seen place lists ts
  stmt_by_seen limit _ place lists ts = refl

  form_seen : (limit : ℕ) → Places put_stmt (form_into limit placer) (form_at limit reader)
  unfolding form_into form_at
  form_seen limit lists [] = refl
  form_seen limit lists (s ∷ ts) = stmt_by_seen limit s.kind s.place lists ts

pub stmt_seen : (limit d : ℕ) → Places put_stmt (stmt_into limit d) (stmt_at limit d)
unfolding stmt_into stmt_at
stmt_seen limit zero lists ts = refl
stmt_seen limit (suc d) lists ts = form_seen (stmt_into limit d) (stmt_at limit d) (stmt_seen limit d) limit lists ts

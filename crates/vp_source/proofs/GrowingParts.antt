-- Laying out the parts of a derivation keeps what the lists had, and adds its own after.
use Rattle.std.proofs.Common.{◌≡◌, ◌∙◌, ℕ, ◌+◌, ◌≤◌, List, [], ◌∷◌, ◌++◌, length, refl, sym, ap, append_assoc, append-nil, arith}
use Rattle.std.proofs.lemmas.List.{length-append, length_push}
use Rattle.vp_source.specs.declared.expression.Expression as node
use Rattle.vp_source.specs.ExprGrammar.{Expr, Name, Sized, Based, Number, Group, Unary, Binary, Conditional, Concatenation, Replication, Selection, Whole, Bit, Part, Parts, First, More}
use Rattle.vp_source.specs.ExprLayout.{put_expr, put_parts, put_selection}
use Rattle.vp_source.specs.declared.statement.Choice.{Choice}
use Rattle.vp_source.specs.declared.statement.EventTerm.{EventTerm}
use Rattle.vp_source.specs.declared.statement.Statement.{Statement}
use Rattle.vp_source.specs.StmtGrammar as grammar
use Rattle.vp_source.specs.StmtLayout.{Lists, put_blocking, put_event, put_item, put_items, put_labels, put_stmt, put_stmts, put_target, put_term, put_terms, put_value, with_choices, with_statement}

-- a list that has another at its head
pub record Extends {X : Type 0} (first all : List X) : Type 0 where
  pub more : List X
  pub is : all ≡ first ++ more

pub same : {X : Type 0} (xs : List X) → Extends xs xs
same xs = record { more = []; is = sym (append-nil xs) }

pub pushed : {X : Type 0} (xs : List X) (y : X) → Extends xs (xs ++ y ∷ [])
pushed xs y = record { more = y ∷ []; is = refl }

pub twice : {X : Type 0} {a b c : List X} → Extends a b → Extends b c → Extends a c
twice {a = a} h k = record { more = h.more ++ k.more; is = k.is ∙ ap (λ l. l ++ k.more) h.is ∙ append_assoc a h.more k.more }

pub longer : {X : Type 0} {a b : List X} → Extends a b → length a ≤ length b
longer {a = a} h = let l = ap length h.is in omega (arith, length-append a h.more)

-- ---- expressions

mutual
  pub expr_more : (e : Expr) (nodes : List node.Expression) → Extends nodes (put_expr e nodes).1
  expr_more (Name place s) nodes = twice (selection_more s nodes) (pushed (put_selection s nodes).1 _)
  expr_more (Sized place size kind digits) nodes = pushed nodes _
  expr_more (Based digits) nodes = pushed nodes _
  expr_more (Number place number) nodes = pushed nodes _
  expr_more (Group opening e closing) nodes = expr_more e nodes
  expr_more (Unary o place e) nodes = twice (expr_more e nodes) (pushed (put_expr e nodes).1 _)
  expr_more (Binary o a place b) nodes =
      let x = put_expr a nodes in
      twice (expr_more a nodes) (twice (expr_more b x.1) (pushed (put_expr b x.1).1 _))
  expr_more (Conditional c question a colon b) nodes =
      let x = put_expr c nodes in
      let y = put_expr a x.1 in
      twice (expr_more c nodes) (twice (expr_more a x.1) (twice (expr_more b y.1) (pushed (put_expr b y.1).1 _)))
  expr_more (Concatenation opening l closing) nodes = parts_more opening l nodes
  expr_more (Replication opening count_place n inner_opening l inner_closing closing) nodes =
      twice (parts_more inner_opening l nodes) (pushed (put_parts inner_opening l nodes).1 _)

  selection_more : (s : Selection) (nodes : List node.Expression) → Extends nodes (put_selection s nodes).1
  selection_more Whole nodes = same nodes
  selection_more (Bit opening e closing) nodes = expr_more e nodes
  selection_more (Part r) nodes = same nodes

  parts_more : (opening : ℕ) (l : Parts) (nodes : List node.Expression) → Extends nodes (put_parts opening l nodes).1
  parts_more opening (First e) nodes = twice (expr_more e nodes) (pushed (put_expr e nodes).1 _)
  parts_more opening (More l comma e) nodes =
      let x = put_parts opening l nodes in
      twice (parts_more opening l nodes) (twice (expr_more e x.1) (pushed (put_expr e x.1).1 _))

parts_last : (opening : ℕ) (l : Parts) (nodes : List node.Expression) → length (put_parts opening l nodes).1 ≡ (put_parts opening l nodes).0 + 1
parts_last opening (First e) nodes = length_push (put_expr e nodes).1 _
parts_last opening (More l comma e) nodes = length_push (put_expr e (put_parts opening l nodes).1).1 _

-- the place of an expression is the last of those of its parts
pub expr_last : (e : Expr) (nodes : List node.Expression) → length (put_expr e nodes).1 ≡ (put_expr e nodes).0 + 1
expr_last (Name place s) nodes = length_push (put_selection s nodes).1 _
expr_last (Sized place size kind digits) nodes = length_push nodes _
expr_last (Based digits) nodes = length_push nodes _
expr_last (Number place number) nodes = length_push nodes _
expr_last (Group opening e closing) nodes = expr_last e nodes
expr_last (Unary o place e) nodes = length_push (put_expr e nodes).1 _
expr_last (Binary o a place b) nodes = length_push (put_expr b (put_expr a nodes).1).1 _
expr_last (Conditional c question a colon b) nodes = length_push (put_expr b (put_expr a (put_expr c nodes).1).1).1 _
expr_last (Concatenation opening l closing) nodes = parts_last opening l nodes
expr_last (Replication opening count_place n inner_opening l inner_closing closing) nodes = length_push (put_parts inner_opening l nodes).1 _

-- ---- lists

-- lists that have others at their heads
pub record Grows (first all : Lists) : Type 0 where
  pub statements : Extends first.statements all.statements
  pub expressions : Extends first.expressions all.expressions
  pub terms : Extends first.terms all.terms
  pub choices : Extends first.choices all.choices

pub unchanged : (lists : Lists) → Grows lists lists
unchanged lists = record {
  statements = same lists.statements;
  expressions = same lists.expressions;
  terms = same lists.terms;
  choices = same lists.choices;
}

pub onward : {a b c : Lists} → Grows a b → Grows b c → Grows a c
onward h k = record {
  statements = twice h.statements k.statements;
  expressions = twice h.expressions k.expressions;
  terms = twice h.terms k.terms;
  choices = twice h.choices k.choices;
}

pub statement_grows : (n : Statement) (lists : Lists) → Grows lists (with_statement n lists).1
statement_grows n lists = record {
  statements = pushed lists.statements n;
  expressions = same lists.expressions;
  terms = same lists.terms;
  choices = same lists.choices;
}

expressions_grow : (lists : Lists) (expressions : List node.Expression) → Extends lists.expressions expressions → Grows lists (record lists { expressions = expressions })
expressions_grow lists expressions h = record {
  statements = same lists.statements;
  expressions = h;
  terms = same lists.terms;
  choices = same lists.choices;
}

pub value_grows : (e : Expr) (lists : Lists) → Grows lists (put_value e lists).1
value_grows e lists = expressions_grow lists (put_expr e lists.expressions).1 (expr_more e lists.expressions)

pub target_grows : (s : Selection) (lists : Lists) → Grows lists (put_target s lists).1
target_grows s lists = expressions_grow lists (put_selection s lists.expressions).1 (selection_more s lists.expressions)

pub blocking_grows : (target : ℕ) (s : Selection) (e : Expr) (lists : Lists) → Grows lists (put_blocking target s e lists).1
blocking_grows target s e lists =
    let x = put_target s lists in
    let v = put_value e x.1 in
    onward (target_grows s lists) (onward (value_grows e x.1) (statement_grows _ v.1))

terms_grow : (lists : Lists) (terms : List EventTerm) → Extends lists.terms terms → Grows lists (record lists { terms = terms })
terms_grow lists terms h = record {
  statements = same lists.statements;
  expressions = same lists.expressions;
  terms = h;
  choices = same lists.choices;
}

-- terms after others are those of the derivation
pub terms_are : (l : grammar.TermList) (terms : List EventTerm) → put_terms l terms ≡ terms ++ put_terms l []
terms_are (grammar.Single t) terms = refl
terms_are (grammar.Further t separator place l) terms =
    terms_are l (terms ++ put_term t ∷ [])
    ∙ append_assoc terms (put_term t ∷ []) (put_terms l [])
    ∙ ap (λ own. terms ++ own) (sym (terms_are l (put_term t ∷ [])))

pub event_grows : (e : grammar.Event) (lists : Lists) → Grows lists (put_event e lists).1
event_grows (grammar.Any star) lists = unchanged lists
event_grows (grammar.AnyGrouped opening star closing) lists = unchanged lists
event_grows (grammar.Change name) lists = terms_grow lists _ (pushed lists.terms (put_term (grammar.Level name)))
event_grows (grammar.Terms opening l closing) lists =
    terms_grow lists (put_terms l lists.terms) (record { more = put_terms l []; is = terms_are l lists.terms })

pub labels_grow : (l : grammar.LabelList) (labels : List ℕ) (lists : Lists) → Grows lists (put_labels l labels lists).1
labels_grow (grammar.Only e) labels lists = value_grows e lists
labels_grow (grammar.Also e comma l) labels lists =
    let v = put_value e lists in
    onward (value_grows e lists) (labels_grow l (labels ++ v.0 ∷ []) v.1)

pub choices_grow : (choices : List Choice) (lists : Lists) → Grows lists (with_choices choices lists).1
choices_grow choices lists = record {
  statements = same lists.statements;
  expressions = same lists.expressions;
  terms = same lists.terms;
  choices = record { more = choices; is = refl };
}

-- a statement after an expression, and one of both
guarded_grows : (e : Expr) (s : grammar.Stmt) (lists : Lists) (n : Statement) → (let c = put_value e lists in Grows c.1 (put_stmt s c.1).1) → Grows lists (with_statement n (put_stmt s (put_value e lists).1).1).1
guarded_grows e s lists n h = onward (value_grows e lists) (onward h (statement_grows n (put_stmt s (put_value e lists).1).1))

mutual
  pub stmt_grows : (s : grammar.Stmt) (lists : Lists) → Grows lists (put_stmt s lists).1
  stmt_grows (grammar.Assign target s equals value semicolon) lists = blocking_grows target s value lists
  stmt_grows (grammar.Block begin body end) lists =
      let b = with_statement _ lists in
      onward (statement_grows _ lists) (stmts_grow body b.0 b.1)
  stmt_grows (grammar.Null semicolon) lists = statement_grows _ lists
  stmt_grows (grammar.Nonblocking target s arrow hold value semicolon) lists =
      let x = put_target s lists in
      let v = put_value value x.1 in
      onward (target_grows s lists) (onward (value_grows value x.1) (statement_grows _ v.1))
  stmt_grows (grammar.Delayed hash delay body) lists = onward (stmt_grows body lists) (statement_grows _ (put_stmt body lists).1)
  stmt_grows (grammar.Awaited at_place event body) lists =
      let e = put_event event lists in
      onward (event_grows event lists) (onward (stmt_grows body e.1) (statement_grows _ (put_stmt body e.1).1))
  stmt_grows (grammar.Wait wait opening value closing body) lists = guarded_grows value body lists _ (stmt_grows body (put_value value lists).1)
  stmt_grows (grammar.When if_place opening value closing first) lists = guarded_grows value first lists _ (stmt_grows first (put_value value lists).1)
  stmt_grows (grammar.Choose if_place opening value closing first else_place second) lists =
      let c = put_value value lists in
      let a = put_stmt first c.1 in
      onward (value_grows value lists) (onward (stmt_grows first c.1) (onward (stmt_grows second a.1) (statement_grows _ (put_stmt second a.1).1)))
  stmt_grows (grammar.While while_place opening value closing body) lists = guarded_grows value body lists _ (stmt_grows body (put_value value lists).1)
  stmt_grows (grammar.Forever forever body) lists = onward (stmt_grows body lists) (statement_grows _ (put_stmt body lists).1)
  stmt_grows (grammar.For for_place opening target s equals value first_semicolon condition second_semicolon step_target step_s step_equals step closing body) lists =
      let a = put_blocking target s value lists in
      let c = put_value condition a.1 in
      let z = put_blocking step_target step_s step c.1 in
      let b = put_stmt body z.1 in
      onward (blocking_grows target s value lists) (onward (value_grows condition a.1) (onward (blocking_grows step_target step_s step c.1) (onward (stmt_grows body z.1) (onward (statement_grows _ b.1) (statement_grows _ _)))))
  stmt_grows (grammar.Case sort case_place opening value closing items endcase) lists =
      let v = put_value value lists in
      let x = put_items items v.1 in
      onward (value_grows value lists) (onward (items_grow items v.1) (onward (choices_grow x.0 x.1) (statement_grows _ _)))
  stmt_grows (grammar.Finish finish argument semicolon) lists = statement_grows _ lists

  pub stmts_grow : (l : grammar.Stmts) (chain : ℕ) (lists : Lists) → Grows lists (put_stmts l chain lists).1
  stmts_grow grammar.Empty chain lists = unchanged lists
  stmts_grow (grammar.Then s l) chain lists =
      let x = put_stmt s lists in
      let y = with_statement _ x.1 in
      onward (stmt_grows s lists) (onward (statement_grows _ x.1) (stmts_grow l y.0 y.1))

  pub item_grows : (i : grammar.Item) (lists : Lists) → Grows lists (put_item i lists).1
  item_grows (grammar.Labels l colon s) lists =
      let w = put_labels l [] lists in
      onward (labels_grow l [] lists) (stmt_grows s w.1)
  item_grows (grammar.Default default_place colon s) lists = stmt_grows s lists

  pub items_grow : (l : grammar.Items) (lists : Lists) → Grows lists (put_items l lists).1
  items_grow (grammar.Last i) lists = item_grows i lists
  items_grow (grammar.More i l) lists = onward (item_grows i lists) (items_grow l (put_item i lists).1)

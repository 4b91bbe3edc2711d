-- How a derivation lies in the flat lists of a source: each part after its own parts, and nothing else.
use Rattle.vp_source.specs.declared.statement.Span as span
use Rattle.vp_source.specs.declared.statement.EventTerm as term
use Rattle.vp_source.specs.declared.statement.Choice as choice
use Rattle.vp_source.specs.declared.statement.Edge.TheVariants as edge_of
use Rattle.vp_source.specs.declared.statement.Edge as edge
use Rattle.std.specs.Prelude.{ℕ, List, [], ◌∷◌, ◌++◌, length, Option, Some, None, Bool, true, false}
use Rattle.vp_source.specs.declared.expression.Expression.{Expression}
use Rattle.vp_source.specs.declared.expression.Selection as selection
use Rattle.vp_source.specs.ExprGrammar.{Expr, Selection}
use Rattle.vp_source.specs.ExprLayout.{put_expr, put_selection}
use Rattle.vp_source.specs.declared.statement.Statement as statement
use Rattle.vp_source.specs.declared.statement.Statement.TheVariants as statement_of
use Rattle.vp_source.specs.StmtGrammar.{Hold, Now, Later, delay_amount, Stmt, Assign, Block, Null, Nonblocking, Delayed, Wait, When, Choose, While, Forever, Stmts, Empty, Then, For, Edge, Posedge, Negedge, Term, Level, Edged, TermList, Single, Further, Event, Any, AnyGrouped, Change, Terms, Awaited, Sort, Exact, Wild, LabelList, Only, Also, Items, Last, More, Item, Labels, Default, Case, Finish}

-- the flat lists of statements, of expressions, of terms of events, and of choices of cases
pub record Lists : Type 0 where
  pub statements : List statement.Statement
  pub expressions : List Expression
  pub terms : List term.EventTerm
  pub choices : List choice.Choice

-- no parts
abbrev pub no_parts : Lists
no_parts = record { statements = []; expressions = []; terms = []; choices = [] }

-- ---- one more part, and its place

-- one more statement
abbrev pub with_statement : statement.Statement → Lists → ℕ × Lists
with_statement s lists = (length lists.statements, record lists { statements = lists.statements ++ s ∷ [] })

-- ---- the parts of a derivation after others, and the place of the whole

-- an expression
abbrev pub put_value : Expr → Lists → ℕ × Lists
put_value e lists = let x = put_expr e lists.expressions in (x.0, record lists { expressions = x.1 })

-- what is selected of a name
abbrev pub put_target : Selection → Lists → selection.Selection × Lists
put_target s lists = let x = put_selection s lists.expressions in (x.0, record lists { expressions = x.1 })

-- a blocking assignment after its index and its value
abbrev pub put_blocking : ℕ → Selection → Expr → Lists → ℕ × Lists
put_blocking target selection value lists =
    let s = put_target selection lists in let v = put_value value s.1 in with_statement (statement_of.Assign target s.0 v.0) v.1

-- the delay of a nonblocking assignment
abbrev pub put_hold : Hold → Option ℕ
put_hold Now = None
put_hold (Later hash delay) = Some (delay_amount delay)

-- an edge
abbrev pub put_edge : Edge → edge.Edge
put_edge Posedge = edge_of.Posedge
put_edge Negedge = edge_of.Negedge

-- a term of an event
abbrev pub put_term : Term → term.EventTerm
put_term (Level name) = record { edge = edge_of.Any; name = name }
put_term (Edged edge edge_place name) = record { edge = put_edge edge; name = name }

-- the terms of an event after others
abbrev pub put_terms : TermList → List term.EventTerm → List term.EventTerm
put_terms (Single t) terms = terms ++ put_term t ∷ []
put_terms (Further t separator place l) terms = put_terms l (terms ++ put_term t ∷ [])

-- terms after others, and where they lie
abbrev pub spanned : List term.EventTerm → Lists → Option span.Span × Lists
spanned terms lists = (Some (record { first = length lists.terms; end = length terms }), record lists { terms = terms })

-- an event, and where its terms lie; none of any of what a statement reads
abbrev pub put_event : Event → Lists → Option span.Span × Lists
put_event (Any star) lists = (None, lists)
put_event (AnyGrouped opening star closing) lists = (None, lists)
put_event (Change name) lists = spanned (lists.terms ++ put_term (Level name) ∷ []) lists
put_event (Terms opening l closing) lists = spanned (put_terms l lists.terms) lists

-- a statement after an event
abbrev pub awaited : Option span.Span → ℕ → statement.Statement
awaited None body = statement_of.AnyEvent body
awaited (Some terms) body = statement_of.Event terms body

-- z and ? count as anything in a case
abbrev pub is_wild : Sort → Bool
is_wild Exact = false
is_wild Wild = true

-- labels after others, and the places of all
abbrev pub put_labels : LabelList → List ℕ → Lists → List ℕ × Lists
put_labels (Only e) labels lists = let v = put_value e lists in (labels ++ v.0 ∷ [], v.1)
put_labels (Also e comma l) labels lists = let v = put_value e lists in put_labels l (labels ++ v.0 ∷ []) v.1

-- a choice for each label, of the same statement (9.5)
abbrev pub choices_of : (labels : List ℕ) → (body : ℕ) → List choice.Choice
choices_of [] body = []
choices_of (label ∷ labels) body = record { label = Some label; body = body } ∷ choices_of labels body

-- where choices lie after others
abbrev pub span_after : List choice.Choice → List choice.Choice → span.Span
span_after others choices = record { first = length others; end = length (others ++ choices) }

-- choices after the others, and where they lie
abbrev pub with_choices : List choice.Choice → Lists → span.Span × Lists
with_choices choices lists = (span_after lists.choices choices, record lists { choices = lists.choices ++ choices })

abbrev mutual
  -- a statement after its expressions and the statements in it; a block is the chain of its statements, from an empty one on
  pub put_stmt : Stmt → Lists → ℕ × Lists
  put_stmt (Assign target selection equals value semicolon) lists = put_blocking target selection value lists
  put_stmt (Block begin body end) lists = let b = with_statement statement_of.Empty lists in put_stmts body b.0 b.1
  put_stmt (Null semicolon) lists = with_statement statement_of.Null lists
  put_stmt (Nonblocking target selection arrow hold value semicolon) lists =
      let s = put_target selection lists in let v = put_value value s.1 in
      with_statement (statement_of.Nonblocking target s.0 v.0 (put_hold hold)) v.1
  put_stmt (Delayed hash delay body) lists = let b = put_stmt body lists in with_statement (statement_of.Delay (delay_amount delay) b.0) b.1
  put_stmt (Awaited at_place event body) lists =
      let e = put_event event lists in let b = put_stmt body e.1 in with_statement (awaited e.0 b.0) b.1
  put_stmt (Wait wait opening value closing body) lists =
      let c = put_value value lists in let b = put_stmt body c.1 in with_statement (statement_of.Wait c.0 b.0) b.1
  put_stmt (When if_place opening value closing first) lists =
      let c = put_value value lists in let a = put_stmt first c.1 in with_statement (statement_of.If c.0 a.0 None) a.1
  put_stmt (Choose if_place opening value closing first else_place second) lists =
      let c = put_value value lists in let a = put_stmt first c.1 in let b = put_stmt second a.1 in
      with_statement (statement_of.If c.0 a.0 (Some b.0)) b.1
  put_stmt (While while_place opening value closing body) lists =
      let c = put_value value lists in let b = put_stmt body c.1 in with_statement (statement_of.While c.0 b.0 None) b.1
  put_stmt (Forever forever body) lists = let b = put_stmt body lists in with_statement (statement_of.Forever b.0) b.1
  put_stmt (For for_place opening target selection equals value first_semicolon condition second_semicolon step_target step_selection step_equals step closing body) lists =
      let a = put_blocking target selection value lists in let c = put_value condition a.1 in
      let z = put_blocking step_target step_selection step c.1 in let b = put_stmt body z.1 in
      let w = with_statement (statement_of.While c.0 b.0 (Some z.0)) b.1 in with_statement (statement_of.For a.0 w.0) w.1
  put_stmt (Case sort case_place opening value closing items endcase) lists =
      let v = put_value value lists in let x = put_items items v.1 in let c = with_choices x.0 x.1 in
      with_statement (statement_of.Case (is_wild sort) v.0 c.0) c.1
  put_stmt (Finish finish argument semicolon) lists = with_statement statement_of.Finish lists

  -- the choices of an item of a case, one for each label, or one for anything else; and its parts after others
  pub put_item : Item → Lists → List choice.Choice × Lists
  put_item (Labels l colon s) lists = let w = put_labels l [] lists in let b = put_stmt s w.1 in (choices_of w.0 b.0, b.1)
  put_item (Default default_place colon s) lists = let b = put_stmt s lists in (record { label = None; body = b.0 } ∷ [], b.1)

  -- the choices of the items of a case, in the order of the text; and their parts after others
  pub put_items : Items → Lists → List choice.Choice × Lists
  put_items (Last i) lists = put_item i lists
  put_items (More i l) lists = let x = put_item i lists in let y = put_items l x.1 in (x.0 ++ y.0, y.1)

  -- the statements of a block, after those of the chain at a place
  pub put_stmts : Stmts → ℕ → Lists → ℕ × Lists
  put_stmts Empty chain lists = (chain, lists)
  put_stmts (Then s l) chain lists =
      let x = put_stmt s lists in let y = with_statement (statement_of.Then chain x.0) x.1 in put_stmts l y.0 y.1

-- What a statement reads by its derivation, and the changes for which it waits.
use Rattle.std.specs.Prelude.{ℕ, List, [], ◌∷◌, ◌++◌, map, Option}
use Rattle.std.specs.List.{filter_map}
use Rattle.vp_source.specs.ExprGrammar as expression
use Rattle.vp_source.specs.ExprGrammar.{Expr}
use Rattle.vp_source.specs.declared.statement.EventTerm.{EventTerm}
use Rattle.vp_source.specs.StmtGrammar.{Stmt, Assign, Block, Null, Nonblocking, Delayed, Awaited, Wait, When, Choose, While, Forever, For, Case, Finish, Stmts, Empty, Then, Items, Last, More, Item, Labels, Default, LabelList, Only, Also, Event, Any, AnyGrouped, Change, Terms, Level, TermList, Single, Further}
use Rattle.vp_source.specs.StmtLayout.{put_term}
use Rattle.vp_elab.specs.Built.{Elaborated}
use Rattle.vp_operand.specs.declared.operand.Slot.{Slot}
use Rattle.vp_operand.specs.Reads.{reads, slot_at}
use Rattle.vp_expr.specs.declared.awaited.Awaited as change
use Rattle.vp_expr.specs.Awaits.{any_change, term_change}
use Rattle.vp_expr.specs.Derived.{expr_term}

-- ---- what a statement reads

-- the slots of the names in an expression, those of indexes too (clause 9.7.5)
abbrev pub expr_reads : Elaborated → (scope : Option ℕ) → Expr → List Slot
expr_reads design scope e = map slot_at (reads (expr_term design scope e))

-- the slots that are read to select a target: those of its index (clause 9.7.5)
abbrev pub target_reads : Elaborated → (scope : Option ℕ) → expression.Selection → List Slot
target_reads design scope expression.Whole = []
target_reads design scope (expression.Bit opening e closing) = expr_reads design scope e
target_reads design scope (expression.Part r) = []

-- what an assignment reads: the index of its target, and its right side (clause 9.7.5)
abbrev pub assignment_reads : Elaborated → (scope : Option ℕ) → expression.Selection → Expr → List Slot
assignment_reads design scope s e = target_reads design scope s ++ expr_reads design scope e

-- what labels read, and after the first of them what the statement reads to which they lead (clauses 9.5 and 9.7.5)
abbrev pub label_reads : Elaborated → (scope : Option ℕ) → LabelList → (body : List Slot) → List Slot
label_reads design scope (Only e) body = expr_reads design scope e ++ body
label_reads design scope (Also e comma l) body = (expr_reads design scope e ++ body) ++ label_reads design scope l []

abbrev mutual
  -- what a statement reads: right sides, conditions, selectors and labels, and the indexes of targets; but not what an event or a wait
  -- in it waits for (clause 9.7.5)
  pub stmt_reads : Elaborated → (scope : Option ℕ) → Stmt → List Slot
  stmt_reads design scope (Assign target s equals value semicolon) = assignment_reads design scope s value
  stmt_reads design scope (Block begin body end) = block_reads design scope body
  stmt_reads design scope (Null semicolon) = []
  stmt_reads design scope (Nonblocking target s arrow hold value semicolon) = assignment_reads design scope s value
  stmt_reads design scope (Delayed hash delay body) = stmt_reads design scope body
  stmt_reads design scope (Awaited at_place event body) = stmt_reads design scope body
  stmt_reads design scope (Wait wait opening value closing body) = stmt_reads design scope body
  stmt_reads design scope (When if_place opening value closing first) =
      expr_reads design scope value ++ stmt_reads design scope first
  stmt_reads design scope (Choose if_place opening value closing first else_place second) =
      (expr_reads design scope value ++ stmt_reads design scope first) ++ stmt_reads design scope second
  stmt_reads design scope (While while_place opening value closing body) =
      expr_reads design scope value ++ stmt_reads design scope body
  stmt_reads design scope (Forever forever body) = stmt_reads design scope body
  stmt_reads design scope (For for_place opening target s equals value first_semicolon condition second_semicolon step_target step_s step_equals step closing body) =
      assignment_reads design scope s value
      ++ ((expr_reads design scope condition ++ stmt_reads design scope body) ++ assignment_reads design scope step_s step)
  stmt_reads design scope (Case sort case_place opening value closing items endcase) =
      expr_reads design scope value ++ items_reads design scope items
  stmt_reads design scope (Finish finish argument semicolon) = []

  -- what the statements of a block read, those of the last one first (clause 9.7.5)
  pub block_reads : Elaborated → (scope : Option ℕ) → Stmts → List Slot
  block_reads design scope Empty = []
  block_reads design scope (Then s l) = block_reads design scope l ++ stmt_reads design scope s

  -- what an item of a case reads: its labels, and its statement once (clause 9.7.5)
  pub item_reads : Elaborated → (scope : Option ℕ) → Item → List Slot
  item_reads design scope (Labels l colon s) = label_reads design scope l (stmt_reads design scope s)
  item_reads design scope (Default default_place colon s) = stmt_reads design scope s

  -- what the items of a case read, in the order of the text (clause 9.7.5)
  pub items_reads : Elaborated → (scope : Option ℕ) → Items → List Slot
  items_reads design scope (Last i) = item_reads design scope i
  items_reads design scope (More i l) = item_reads design scope i ++ items_reads design scope l

-- ---- what a statement waits for

-- the terms of an event, in the order of the text (clause 9.7.4)
abbrev pub terms_of : TermList → List EventTerm
terms_of (Single t) = put_term t ∷ []
terms_of (Further t separator place l) = put_term t ∷ terms_of l

-- the changes for which an event waits: any of what the statement after it reads (clause 9.7.5), or those of its terms (clauses 9.7.2
-- to 9.7.4)
abbrev pub event_awaits : Elaborated → (scope : Option ℕ) → Event → (body : List Slot) → List change.Awaited
event_awaits design scope (Any star) body = map any_change body
event_awaits design scope (AnyGrouped opening star closing) body = map any_change body
event_awaits design scope (Change name) body = filter_map (term_change design scope) (put_term (Level name) ∷ [])
event_awaits design scope (Terms opening l closing) body = filter_map (term_change design scope) (terms_of l)

-- the changes for which a statement waits: those of its event, or any of what the condition of a wait reads (clauses 9.7.2 to 9.7.6)
abbrev pub stmt_awaits : Elaborated → (scope : Option ℕ) → Stmt → List change.Awaited
stmt_awaits design scope (Awaited at_place event body) = event_awaits design scope event (stmt_reads design scope body)
stmt_awaits design scope (Wait wait opening value closing body) = map any_change (expr_reads design scope value)
stmt_awaits design scope _ = []

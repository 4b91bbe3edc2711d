-- What the tables have for the statement of a derivation (clause 9).
use Rattle.std.specs.Prelude.{◌≡◌, ℕ, List, [], ◌∷◌, ◌++◌, slice_index_or, Option, Some, None}
use Rattle.vp_source.specs.declared.expression.Selection.{Selection}
use Rattle.vp_source.specs.declared.expression.Selection.TheVariants as selection
use Rattle.vp_source.specs.ExprGrammar as expression
use Rattle.vp_source.specs.ExprLayout.{put_range}
use Rattle.vp_source.specs.declared.statement.Choice.{Choice}
use Rattle.vp_source.specs.declared.statement.Span.{Span}
use Rattle.vp_source.specs.declared.statement.Statement.{Statement}
use Rattle.vp_source.specs.declared.statement.Statement.TheVariants as statement
use Rattle.vp_source.specs.StmtGrammar.{Stmt, Assign, Block, Null, Nonblocking, Delayed, Awaited, Wait, When, Choose, While, Forever, For, Case, Finish, Stmts, Empty, Then, Items, Last, More, Item, Labels, Default, LabelList, Only, Also, Event, Any, AnyGrouped, Change, Terms, Level, delay_amount}
use Rattle.vp_source.specs.StmtLayout.{awaited, choices_of, is_wild, put_hold, put_term, put_terms}
use Rattle.vp_source.specs.declared.source.Module as declared
use Rattle.vp_elab.specs.Built.{Elaborated}
use Rattle.vp_expr.specs.Awaits.{awaited_by, awaits_of, choices_at, reads_of, terms_at}
use Rattle.vp_expr.specs.Derived.{StandsAt}
use Rattle.vp_expr.specs.Tables.{action_of, tables_of}
use Rattle.vp_resolve.specs.Names.{scope_of}
use Rattle.vp_resolve.specs.Operands.{operands_of, sizes_of}
use Rattle.vp_statement.specs.Walking.{action_at}

-- what the tables have at a place is a statement's: what it does, with slots in place of names and sizes for its expressions, and the
-- changes for which it waits, both in the scope of its module
pub record Runs (design : Elaborated) (m : declared.Module) (place : ℕ) (s : Statement) : Type 0 where
  pub action : action_at (tables_of design).actions place ≡ action_of design (scope_of design m) (sizes_of design) s
  pub awaits : slice_index_or (awaits_of design (operands_of design)) place [] ≡ awaited_by design (scope_of design m) (operands_of design) (reads_of design.source (operands_of design)) s

-- ---- the parts of statements

-- what is selected is what the derivation selects: all, the bit of an index that stands at a place, or a part (clause 5.2.1)
abbrev pub IsSelected : Elaborated → declared.Module → Selection → expression.Selection → Type 0
IsSelected design m chosen expression.Whole = chosen ≡ selection.Whole
IsSelected design m chosen (expression.Bit opening e closing) = (index : ℕ) × (chosen ≡ selection.Bit index) × StandsAt design m index e
IsSelected design m chosen (expression.Part r) = chosen ≡ selection.Part (put_range r)

-- at a place runs the assignment of the value that stands at another to what is selected of its target (clauses 9.2.1 and 9.2.2)
abbrev pub IsAssignment : Elaborated → declared.Module → ℕ → (Selection → ℕ → Statement) → expression.Selection → expression.Expr → Type 0
IsAssignment design m place made s e =
    (chosen : Selection) × (value : ℕ) × Runs design m place (made chosen value) × IsSelected design m chosen s × StandsAt design m value e

-- the terms of an event are those of the derivation; none where it is any of what a statement reads (clauses 9.7.2 to 9.7.5)
abbrev pub AreTerms : Elaborated → Option Span → Event → Type 0
AreTerms design terms (Any star) = terms ≡ None
AreTerms design terms (AnyGrouped opening star closing) = terms ≡ None
AreTerms design terms (Change name) = (span : Span) × (terms ≡ Some span) × (terms_at design.source span ≡ put_term (Level name) ∷ [])
AreTerms design terms (Terms opening l closing) = (span : Span) × (terms ≡ Some span) × (terms_at design.source span ≡ put_terms l [])

-- at these places stand the labels of an item (clause 9.5)
abbrev pub AreLabels : Elaborated → declared.Module → List ℕ → LabelList → Type 0
AreLabels design m labels (Only e) = (label : ℕ) × (labels ≡ label ∷ []) × StandsAt design m label e
AreLabels design m labels (Also e comma l) =
    (label : ℕ) × (others : List ℕ) × (labels ≡ label ∷ others) × StandsAt design m label e × AreLabels design m others l

-- ---- statements

abbrev mutual
  -- at a place runs the statement of a derivation, and at the places that it names run its parts
  pub IsActionOf : Elaborated → declared.Module → ℕ → Stmt → Type 0
  IsActionOf design m place (Assign target s equals value semicolon) = IsAssignment design m place (statement.Assign target) s value
  IsActionOf design m place (Block begin body end) = (first : ℕ) × Runs design m first statement.Empty × IsChain design m first place body
  IsActionOf design m place (Null semicolon) = Runs design m place statement.Null
  IsActionOf design m place (Nonblocking target s arrow hold value semicolon) =
      IsAssignment design m place (λ chosen v. statement.Nonblocking target chosen v (put_hold hold)) s value
  IsActionOf design m place (Delayed hash delay body) =
      (b : ℕ) × Runs design m place (statement.Delay (delay_amount delay) b) × IsActionOf design m b body
  IsActionOf design m place (Awaited at_place event body) =
      (terms : Option Span) × (b : ℕ) × Runs design m place (awaited terms b) × AreTerms design terms event × IsActionOf design m b body
  IsActionOf design m place (Wait wait opening value closing body) =
      (c : ℕ) × (b : ℕ) × Runs design m place (statement.Wait c b) × StandsAt design m c value × IsActionOf design m b body
  IsActionOf design m place (When if_place opening value closing first) =
      (c : ℕ) × (a : ℕ) × Runs design m place (statement.If c a None) × StandsAt design m c value × IsActionOf design m a first
  IsActionOf design m place (Choose if_place opening value closing first else_place second) =
      (c : ℕ) × (a : ℕ) × (b : ℕ) × Runs design m place (statement.If c a (Some b))
      × StandsAt design m c value × IsActionOf design m a first × IsActionOf design m b second
  IsActionOf design m place (While while_place opening value closing body) =
      (c : ℕ) × (b : ℕ) × Runs design m place (statement.While c b None) × StandsAt design m c value × IsActionOf design m b body
  IsActionOf design m place (Forever forever body) = (b : ℕ) × Runs design m place (statement.Forever b) × IsActionOf design m b body
  IsActionOf design m place (For for_place opening target s equals value first_semicolon condition second_semicolon step_target step_s step_equals step closing body) =
      (start : ℕ) × (c : ℕ) × (after : ℕ) × (b : ℕ) × (turns : ℕ) × Runs design m place (statement.For start turns)
      × IsAssignment design m start (statement.Assign target) s value × StandsAt design m c condition
      × IsAssignment design m after (statement.Assign step_target) step_s step × IsActionOf design m b body
      × Runs design m turns (statement.While c b (Some after))
  IsActionOf design m place (Case sort case_place opening value closing items endcase) =
      (c : ℕ) × (span : Span) × Runs design m place (statement.Case (is_wild sort) c span)
      × StandsAt design m c value × AreItems design m (choices_at design.source span) items
  IsActionOf design m place (Finish finish argument semicolon) = Runs design m place statement.Finish

  -- the statements of a block run one after the other, after those that the first place has; the last place has all (clause 9.8.1)
  pub IsChain : Elaborated → declared.Module → (first last : ℕ) → Stmts → Type 0
  IsChain design m first last Empty = last ≡ first
  IsChain design m first last (Then s l) =
      (b : ℕ) × (next : ℕ) × Runs design m next (statement.Then first b) × IsActionOf design m b s × IsChain design m next last l

  -- these choices are those of an item: one for each label, or one for anything else (clause 9.5)
  pub IsItem : Elaborated → declared.Module → List Choice → Item → Type 0
  IsItem design m choices (Labels l colon s) =
      (labels : List ℕ) × (b : ℕ) × (choices ≡ choices_of labels b) × AreLabels design m labels l × IsActionOf design m b s
  IsItem design m choices (Default default_place colon s) =
      (b : ℕ) × (choices ≡ record { label = None; body = b } ∷ []) × IsActionOf design m b s

  -- these choices are those of items, in the order of the text (clause 9.5)
  pub AreItems : Elaborated → declared.Module → List Choice → Items → Type 0
  AreItems design m choices (Last i) = IsItem design m choices i
  AreItems design m choices (More i l) =
      (first : List Choice) × (others : List Choice) × (choices ≡ first ++ others) × IsItem design m first i × AreItems design m others l

-- What statements read, and the changes for which they wait.
use Rattle.std.specs.Prelude.{ℕ, ◌==◌, if◌then◌else◌, List, [], ◌∷◌, ◌++◌, length, map, slice_index_or, take, Option, Some, None, option_map}
use Rattle.std.specs.List.{filter_map, flat_map, fold}
use Rattle.vp_text.specs.Lists.{range_of}
use Rattle.vp_source.specs.declared.expression.Selection.{Selection}
use Rattle.vp_source.specs.declared.expression.Selection.TheVariants as selection
use Rattle.vp_source.specs.declared.statement.Choice.{Choice}
use Rattle.vp_source.specs.declared.statement.Edge.TheVariants as edge
use Rattle.vp_source.specs.declared.statement.EventTerm.{EventTerm}
use Rattle.vp_source.specs.declared.statement.Span.{Span}
use Rattle.vp_source.specs.declared.statement.Statement.{Statement}
use Rattle.vp_source.specs.declared.statement.Statement.TheVariants as statement
use Rattle.vp_source.specs.declared.source.Module as declared
use Rattle.vp_source.specs.declared.source.Source.{Source}
use Rattle.vp_modules.specs.Items.{statements_in}
use Rattle.vp_elab.specs.Built.{Elaborated}
use Rattle.vp_expr.specs.declared.awaited.Awaited.{Awaited}
use Rattle.vp_operand.specs.declared.operand.Operand.{Operand}
use Rattle.vp_operand.specs.declared.operand.Slot.{Slot}
use Rattle.vp_resolve.specs.Names.{object_named, scope_of, slot_in}
use Rattle.vp_operand.specs.Reads.{slots_at}

-- ---- what a statement reads (clause 9.7.5)

-- the slots that are read to select a target: those of its index
abbrev pub index_slots : List Operand → Selection → List Slot
index_slots operands selection.Whole = []
index_slots operands (selection.Bit index) = slots_at operands index
index_slots operands (selection.Part r) = []

-- the slots that the label of a choice reads, if it has one
abbrev pub label_slots : List Operand → Option ℕ → List Slot
label_slots operands None = []
label_slots operands (Some label) = slots_at operands label

-- what the statement at a place reads, by what each of the statements reads; nothing where there is none
abbrev pub part_reads : List (List Slot) → (place : ℕ) → List Slot
part_reads read place = slice_index_or read place []

-- what a part reads that may be missing
abbrev pub optional_reads : List (List Slot) → Option ℕ → List Slot
optional_reads read None = []
optional_reads read (Some place) = part_reads read place

-- what the body of a choice reads; nothing more where the choice before it has the same body
abbrev pub body_reads : List (List Slot) → (before : Option ℕ) → (body : ℕ) → List Slot
body_reads read None body = part_reads read body
body_reads read (Some before) body = if before == body then [] else part_reads read body

-- what choices read, after one with a body, or none: their labels and their bodies, that of an item with several labels once
abbrev pub choice_reads : List Operand → List (List Slot) → (before : Option ℕ) → List Choice → List Slot
choice_reads operands read before [] = []
choice_reads operands read before (c ∷ cs) =
    (label_slots operands c.label ++ body_reads read before c.body) ++ choice_reads operands read (Some c.body) cs

-- the choices of a case (clause 9.5)
abbrev pub choices_at : Source → Span → List Choice
choices_at source s = range_of source.choices s.first s.end

-- what a statement reads, by what the statements before it read: right sides, conditions, selectors and labels, and the indexes of
-- targets; but not what an event or a wait in it waits for. Of a block the last statement comes first
abbrev pub reads_from : Source → List Operand → List (List Slot) → Statement → List Slot
reads_from source operands read statement.Empty = []
reads_from source operands read (statement.Then list last) = part_reads read last ++ part_reads read list
reads_from source operands read (statement.Assign name s value) = index_slots operands s ++ slots_at operands value
reads_from source operands read statement.Null = []
reads_from source operands read (statement.Nonblocking name s value delay) = index_slots operands s ++ slots_at operands value
reads_from source operands read (statement.Delay amount body) = part_reads read body
reads_from source operands read (statement.Event terms body) = part_reads read body
reads_from source operands read (statement.AnyEvent body) = part_reads read body
reads_from source operands read (statement.Wait condition body) = part_reads read body
reads_from source operands read (statement.If condition first second) =
    (slots_at operands condition ++ part_reads read first) ++ optional_reads read second
reads_from source operands read (statement.While condition body step) =
    (slots_at operands condition ++ part_reads read body) ++ optional_reads read step
reads_from source operands read (statement.Case is_wild selector choices) =
    slots_at operands selector ++ choice_reads operands read None (choices_at source choices)
reads_from source operands read statement.Finish = []
reads_from source operands read (statement.Forever body) = part_reads read body
reads_from source operands read (statement.For start turns) = part_reads read start ++ part_reads read turns

-- what statements read, and after them one more
abbrev pub with_reads : Source → List Operand → List (List Slot) → Statement → List (List Slot)
with_reads source operands read s = read ++ reads_from source operands read s ∷ []

-- what each of these statements reads
abbrev pub reads_in : Source → List Operand → List Statement → List (List Slot)
reads_in source operands statements = fold (with_reads source operands) [] statements

-- what the statement at a place before an end reads
abbrev pub reads_below : Source → List Operand → List Statement → (end place : ℕ) → List Slot
reads_below source operands statements end place = part_reads (take end (reads_in source operands statements)) place

-- what a statement reads that stands at a place
abbrev pub reads_made : Source → List Operand → List Statement → (place : ℕ) → Statement → List Slot
reads_made source operands statements place s = reads_from source operands (take place (reads_in source operands statements)) s

-- the statements of a source, module by module
abbrev pub statements_of : Source → List Statement
statements_of source = flat_map (statements_in source) source.modules

-- what each statement of a design reads
abbrev pub reads_of : Source → List Operand → List (List Slot)
reads_of source operands = reads_in source operands (statements_of source)

-- ---- what a statement waits for

-- any change of the object at a slot
abbrev pub any_change : Slot → Awaited
any_change slot = record { edge = edge.Any; slot = slot }

-- the change for which a term of an event waits, in a module by its object; none where its name is no object (clause 9.7.2)
abbrev pub term_change : Elaborated → (scope : Option ℕ) → EventTerm → Option Awaited
term_change design scope t =
    option_map (λ object. record { edge = t.edge; slot = slot_in scope object }) (object_named design scope t.name)

-- the terms of an event (clause 9.7.2)
abbrev pub terms_at : Source → Span → List EventTerm
terms_at source s = range_of source.terms s.first s.end

-- the changes for which a statement waits, in a module by its object, and by what each statement reads: of the terms of an event;
-- of what the statement after @* reads, or the condition of a wait (clauses 9.7.2, 9.7.5 and 9.7.6)
abbrev pub awaited_by : Elaborated → (scope : Option ℕ) → List Operand → List (List Slot) → Statement → List Awaited
awaited_by design scope operands read (statement.Event terms body) =
    filter_map (term_change design scope) (terms_at design.source terms)
awaited_by design scope operands read (statement.AnyEvent body) = map any_change (part_reads read body)
awaited_by design scope operands read (statement.Wait condition body) = map any_change (slots_at operands condition)
awaited_by design scope operands read _ = []

-- of each statement of a module the changes for which it waits
abbrev pub awaits_in : Elaborated → List Operand → List (List Slot) → declared.Module → List (List Awaited)
awaits_in design operands read m = map (awaited_by design (scope_of design m) operands read) (statements_in design.source m)

-- of each statement of a design the changes for which it waits, by its place
abbrev pub awaits_of : Elaborated → List Operand → List (List Awaited)
awaits_of design operands = flat_map (awaits_in design operands (reads_of design.source operands)) design.source.modules

-- ---- as one list

-- the changes of one more statement after those of others, and where they end after where each of the others' do
abbrev pub laid_after : List Awaited × List ℕ → List Awaited → List Awaited × List ℕ
laid_after laid changes = (laid.0 ++ changes, laid.1 ++ length (laid.0 ++ changes) ∷ [])

-- the changes of all statements, one statement's after the other's, and where those of each end
abbrev pub laid_of : List (List Awaited) → List Awaited × List ℕ
laid_of awaits = fold laid_after ([], []) awaits

-- the end at a place; 0 where there is none
abbrev pub end_at : List ℕ → (place : ℕ) → ℕ
end_at ends place = slice_index_or ends place 0

-- the changes of the statement at a place, cut out by the ends
abbrev pub cut_at : List Awaited → List ℕ → (place : ℕ) → List Awaited
cut_at awaited ends place = range_of awaited (end_at (0 ∷ ends) place) (end_at ends place)

-- The tables that a simulator runs: the expressions and statements of a design, with slots in place of names.
use Rattle.std.specs.Prelude.{◌≡◌, ℕ, ◌-◌, max, true, if◌then◌else◌, List, map, slice_index_or, Option, Some, None, option_map, option_and_then}
use Rattle.std.specs.List.{filter_map, flat_map, fold, list_all}
use Rattle.std.specs.Option.{option_map_or, unwrap_or}
use Rattle.vp_source.specs.declared.expression.Selection.{Selection}
use Rattle.vp_source.specs.declared.expression.Selection.TheVariants as selection
use Rattle.vp_source.specs.declared.statement.Choice.{Choice}
use Rattle.vp_source.specs.declared.statement.Span.{Span}
use Rattle.vp_source.specs.declared.statement.Statement.{Statement}
use Rattle.vp_source.specs.declared.statement.Statement.TheVariants as statement
use Rattle.vp_source.specs.declared.source.Module as declared
use Rattle.vp_source.specs.declared.source.Source.{Source}
use Rattle.vp_modules.specs.Items.{statements_in}
use Rattle.vp_elab.specs.Built.{Elaborated}
use Rattle.vp_elab.specs.Elaboration.{range_width}
use Rattle.vp_expr.specs.Origins as origin
use Rattle.vp_expr.specs.Origins.{Origin, origins_of}
use Rattle.vp_elab.specs.declared.object.ObjectId.{ObjectId}
use Rattle.vp_expr.specs.declared.awaited.Awaited.{Awaited}
use Rattle.vp_expr.specs.declared.tables.Action.{Action}
use Rattle.vp_expr.specs.declared.tables.Action.TheVariants as action
use Rattle.vp_expr.specs.declared.tables.Target.{Target}
use Rattle.vp_expr.specs.declared.tables.Target.TheVariants as target
use Rattle.vp_operand.specs.Ids.{Sized}
use Rattle.vp_expr.specs.declared.tables.Process.{Process}
use Rattle.vp_expr.specs.declared.tables.Process.TheVariants as process
use Rattle.vp_expr.specs.declared.tables.Tables.{Tables}
use Rattle.vp_operand.specs.Arena.{is_width}
use Rattle.vp_expr.specs.Awaits.{awaits_of, choices_at, cut_at, laid_of}
use Rattle.vp_resolve.specs.Checks.{refusal_of}
use Rattle.vp_resolve.specs.Names.{lowest_in, object_named, scope_of, slot_in, width_in}
use Rattle.vp_resolve.specs.Operands.{operands_of, sizes_of, widths_of}

-- ---- statements

-- an expression in a context of a size, where a vector can have that (clause 5.4.1)
abbrev pub sized_at : (place size : ℕ) → Option Sized
sized_at place size = if is_width size then Some (record { place = place; size = size }) else None

-- what is selected of an object as a target; none where it is an object or a part that no vector can be (clause 5.2.1)
abbrev pub selected_target : Elaborated → (scope : Option ℕ) → (object : ℕ) → Selection → Option Target
selected_target design scope object selection.Whole =
    if is_width (width_in design object) then Some (target.Whole (slot_in scope object) (width_in design object)) else None
selected_target design scope object (selection.Bit index) =
    Some (target.Bit (slot_in scope object) (lowest_in design object) index)
selected_target design scope object (selection.Part r) =
    if is_width (range_width r)
    then Some (target.Part (slot_in scope object) (r.lsb - lowest_in design object) (range_width r))
    else None

-- how many bits a target has
abbrev pub target_width : Target → ℕ
target_width (target.Whole slot width) = width
target_width (target.Bit slot lowest index) = 1
target_width (target.Part slot place width) = width

-- what is selected of an object, if there is one, as a target
abbrev pub named_target : Elaborated → (scope object : Option ℕ) → Selection → Option Target
named_target design scope None s = None
named_target design scope (Some object) s = selected_target design scope object s

-- the size of the expression at a place, by the sizes of all; 1 past the end
abbrev pub size_at : (sizes : List ℕ) → (place : ℕ) → ℕ
size_at sizes place = slice_index_or sizes place 1

-- an expression that sizes itself, as a condition does (clause 5.4.1)
abbrev pub own_sized : (sizes : List ℕ) → (place : ℕ) → Option Sized
own_sized sizes place = sized_at place (size_at sizes place)

-- the value of an assignment to a target: the greater of its size and the target's width is its context (clause 5.4.1)
abbrev pub value_for : (sizes : List ℕ) → (value : ℕ) → Target → Option Sized
value_for sizes value t = sized_at value (max (target_width t) (size_at sizes value))

-- the target of an assignment to what is selected of a name, and its value; none where no vector can be one of them
abbrev pub assigned : Elaborated → (scope : Option ℕ) → (sizes : List ℕ) → (name : ℕ) → Selection → (value : ℕ) → Option (Target × Sized)
assigned design scope sizes name s value =
    option_and_then (λ t. option_map (λ v. (t, v)) (value_for sizes value t))
    (named_target design scope (object_named design scope name) s)

-- the greater of a size and that of a choice's label, if it has one
abbrev pub with_label : (sizes : List ℕ) → ℕ → Choice → ℕ
with_label sizes size choice = option_map_or (λ label. max size (size_at sizes label)) choice.label size

-- the selector of a case: the greatest of its size and those of all labels is the context of each of them (clause 9.5)
abbrev pub selector_for : Source → (sizes : List ℕ) → (selector : ℕ) → Span → Option Sized
selector_for source sizes selector choices =
    sized_at selector (fold (with_label sizes) (size_at sizes selector) (choices_at source choices))

-- a statement that goes on by a condition or a selector, with that in its context; none where no vector can be that, and for any
-- other statement (clauses 9.4 to 9.7)
abbrev pub conditional_action : Source → (sizes : List ℕ) → Statement → Option Action
conditional_action source sizes (statement.Wait condition body) = option_map (λ c. action.Wait c body) (own_sized sizes condition)
conditional_action source sizes (statement.If condition first second) =
    option_map (λ c. action.If c first second) (own_sized sizes condition)
conditional_action source sizes (statement.While condition body step) =
    option_map (λ c. action.While c body step) (own_sized sizes condition)
conditional_action source sizes (statement.Case is_wild selector choices) =
    option_map (λ s. action.Case is_wild s choices) (selector_for source sizes selector choices)
conditional_action source sizes _ = None

-- a statement of a module, by its object: with a slot in place of a name, and expressions in their contexts; none where no vector
-- can be its target or one of these (clause 9)
abbrev pub action_for : Elaborated → (scope : Option ℕ) → (sizes : List ℕ) → Statement → Option Action
action_for design scope sizes statement.Empty = Some action.Nothing
action_for design scope sizes (statement.Then list last) = Some (action.Then list last)
action_for design scope sizes (statement.Assign name s value) =
    option_map (λ a. action.Assign a.0 a.1) (assigned design scope sizes name s value)
action_for design scope sizes statement.Null = Some action.Null
action_for design scope sizes (statement.Nonblocking name s value delay) =
    option_map (λ a. action.Nonblocking a.0 a.1 delay) (assigned design scope sizes name s value)
action_for design scope sizes (statement.Delay amount body) = Some (action.Delay amount body)
action_for design scope sizes (statement.Event terms body) = Some (action.Event body)
action_for design scope sizes (statement.AnyEvent body) = Some (action.Event body)
action_for design scope sizes (statement.Wait condition body) =
    conditional_action design.source sizes (statement.Wait condition body)
action_for design scope sizes (statement.If condition first second) =
    conditional_action design.source sizes (statement.If condition first second)
action_for design scope sizes (statement.While condition body step) =
    conditional_action design.source sizes (statement.While condition body step)
action_for design scope sizes (statement.Case is_wild selector choices) =
    conditional_action design.source sizes (statement.Case is_wild selector choices)
action_for design scope sizes statement.Finish = Some action.Finish
action_for design scope sizes (statement.Forever body) = Some (action.Forever body)
action_for design scope sizes (statement.For start turns) = Some (action.For start turns)

-- a statement of a module, by its object; nothing in place of one that no vector can be
abbrev pub action_of : Elaborated → (scope : Option ℕ) → (sizes : List ℕ) → Statement → Action
action_of design scope sizes s = unwrap_or (action_for design scope sizes s) action.Nothing

-- the statements of a module as actions, by the sizes of the expressions of the design
abbrev pub actions_in : Elaborated → (sizes : List ℕ) → declared.Module → List Action
actions_in design sizes m = map (action_of design (scope_of design m) sizes) (statements_in design.source m)

-- the statements of a design as actions, module by module
abbrev pub actions_of : Elaborated → (sizes : List ℕ) → List Action
actions_of design sizes = flat_map (actions_in design sizes) design.source.modules

-- ---- processes

-- the context of a continuous assignment's value: the greater of the value's own size and the net's width (clauses 5.4.1 and 6.1)
abbrev pub driven_size : Elaborated → (sizes : List ℕ) → (net value : ℕ) → ℕ
driven_size design sizes net value = max (width_in design net) (size_at sizes value)

-- a continuous assignment of the expression at a place to a net; none where no vector has the size of its context (clause 6.1)
abbrev pub assignment_of : Elaborated → (sizes : List ℕ) → (object net instance : ObjectId) → (value : ℕ) → Option Process
assignment_of design sizes object net instance value =
    option_map (process.Assignment object net instance) (sized_at value (driven_size design sizes net.0 value))

-- the process that comes of an origin, its value in its context: a connection inwards is a continuous assignment to the port, one outwards
-- of the port to the net outside (clauses 6.1, 9.9 and 12.3.9.2)
abbrev pub process_of : Elaborated → (sizes : List ℕ) → Origin → Option Process
process_of design sizes (origin.Procedure object instance repeats body) = Some (process.Procedure object instance repeats body)
process_of design sizes (origin.Assignment object instance net value) = assignment_of design sizes object net instance value
process_of design sizes (origin.Inward port instance value) = assignment_of design sizes port port instance value
process_of design sizes (origin.Outward port net) = Some (process.Connection port net)

-- the object of a process; of a connection the port
abbrev pub process_object : Process → ObjectId
process_object (process.Procedure object instance repeats body) = object
process_object (process.Assignment object net instance value) = object
process_object (process.Connection port net) = port

-- the process that comes of an origin, if there is one
abbrev pub process_from : Elaborated → (sizes : List ℕ) → Option Origin → Option Process
process_from design sizes o = option_and_then (process_of design sizes) o

-- the processes that come of origins, in order
abbrev pub processes_from : Elaborated → (sizes : List ℕ) → List Origin → List Process
processes_from design sizes os = filter_map (process_of design sizes) os

-- the processes of a design, by the sizes of its expressions
abbrev pub processes_of : Elaborated → (sizes : List ℕ) → List Process
processes_of design sizes = processes_from design sizes (origins_of design)

-- the tables of a design
unfoldable pub tables_of : Elaborated → Tables
tables_of design = record {
  operands = operands_of design;
  widths = widths_of design;
  sizes = sizes_of design;
  actions = actions_of design (sizes_of design);
  processes = processes_of design (sizes_of design);
  awaited = (laid_of (awaits_of design (operands_of design))).0;
  awaited_ends = (laid_of (awaits_of design (operands_of design))).1;
}

-- the changes for which the statement at a place waits
unfoldable pub awaited_of : Tables → (place : ℕ) → List Awaited
awaited_of tables place = cut_at tables.awaited tables.awaited_ends place

-- the design is not refused, the tables are its, and the width of each object and the size of each expression is that of a vector
-- (profile)
pub record IsChecked (design : Elaborated) (tables : Tables) : Type 0 where
  pub accepted : refusal_of design ≡ None
  pub tables_are : tables ≡ tables_of design
  pub wide : list_all is_width tables.widths ≡ true
  pub fit : list_all is_width tables.sizes ≡ true

-- Why the names of a module are not right: what is declared twice, not declared, not to be assigned so, or not to be connected so.
use Rattle.std.specs.Prelude.{◌≡◌, ℕ, zero, suc, ◌+◌, nat_eq, not, ◌&&◌, ◌||◌, Bool, true, false, if◌then◌else◌, List, [], ◌∷◌, ◌++◌, length, Option, Some, None, option_map, slice_get}
use Rattle.std.specs.List.{flat_map, list_any}
use Rattle.std.specs.Option.{option_and_then, option_map_or}
use Rattle.std.specs.Str.{bytes_eq}
use Rattle.vp_source.specs.declared.expression.Expression.{Expression}
use Rattle.vp_source.specs.declared.expression.Expression.TheVariants as expression
use Rattle.vp_source.specs.declared.expression.Selection.TheVariants as selection_of
use Rattle.vp_source.specs.declared.statement.Statement.{Statement}
use Rattle.vp_source.specs.declared.statement.Statement.TheVariants as statement
use Rattle.vp_source.specs.Places.{earlier, earliest, line_at, word_at}
use Rattle.vp_source.specs.declared.source.Connection.{Connection}
use Rattle.vp_source.specs.declared.source.Direction.TheVariants as direction
use Rattle.vp_source.specs.declared.source.Source.{Source}
use Rattle.vp_source.specs.declared.source.Module as declared
use Rattle.vp_source.specs.declared.source.Item.{Item}
use Rattle.vp_source.specs.declared.source.Item.TheVariants as item
use Rattle.vp_modules.specs.declared.error.ElabError.{ElabError}
use Rattle.vp_modules.specs.declared.error.ElabError.TheVariants.{Duplicate, UnknownModule, Recursive, Undeclared, BadTarget, BadConnection, MultipleDrivers, TooManyObjects, ViewportUnknown}
use Rattle.vp_modules.specs.Items.{connections_of, definition_of, expressions_in, instantiated, is_among, is_input, is_net, is_operand, is_reg, is_signal, item_name, item_place, items_in, module_named, named_at, ports_in, statements_in, terms_in}

-- the first of two refusals that holds
abbrev pub first_of_two : Option ElabError → Option ElabError → Option ElabError
first_of_two None other = other
first_of_two (Some e) other = Some e

-- the first token of a text where a test of its modules holds
abbrev pub first_in : Source → (declared.Module → Option ℕ) → Option ℕ
first_in source at = earliest at source.modules

-- a refusal at the line of a place, if there is one
abbrev pub refused_at : Source → (ℕ → ElabError) → Option ℕ → Option ElabError
refused_at source because place = option_map (λ p. because (line_at source p)) place

-- ---- names that are declared twice

-- the first of these items whose name is among those before it (clause 12.7)
abbrev pub twice : Source → List (List ℕ) → List Item → Option ElabError
twice source names [] = None
twice source names (i ∷ is) =
    if is_among names (item_name source i) then Some (Duplicate (line_at source (item_place i)))
    else twice source (names ++ item_name source i ∷ []) is

-- the first name that is declared twice in these modules, or among the modules and these names before them
abbrev pub twice_in : Source → List (List ℕ) → List declared.Module → Option ElabError
twice_in source names [] = None
twice_in source names (m ∷ ms) =
    if is_among names (word_at source m.name) then Some (Duplicate (line_at source m.name))
    else first_of_two (twice source [] (items_in source m)) (twice_in source (names ++ word_at source m.name ∷ []) ms)

-- ---- names that are not declared (clause 4)

-- a place whose word does not name, in a module, what passes a test
abbrev pub unfit : Source → declared.Module → (Item → Bool) → Option ℕ → Option ℕ
unfit source m fits place = option_and_then (λ p. if option_map_or fits (named_at source m p) false then None else Some p) place

-- the place of the name in an expression that is one, or is selected from one (clause 5.2)
abbrev pub name_in : Expression → Option ℕ
name_in (expression.Name name selection) = Some name
name_in _ = None

-- the place of the name to which a statement assigns, at once or later (clause 9.2)
abbrev pub target_of : Statement → Option ℕ
target_of (statement.Assign target selection value) = Some target
target_of (statement.Nonblocking target selection value delay) = Some target
target_of _ = None

-- the place of the name to which a continuous assignment assigns (clause 6.1)
abbrev pub assigned_by : Item → Option ℕ
assigned_by (item.Assignment target value) = Some target
assigned_by _ = None

-- the first name in a module that is not declared, or that stands in an event and is no net or reg
abbrev pub undeclared : Source → declared.Module → Option ℕ
undeclared source m =
    earlier (earliest (λ s. unfit source m is_operand (target_of s)) (statements_in source m))
    (earlier (earliest (λ e. unfit source m is_operand (name_in e)) (expressions_in source m))
    (earlier (earliest (λ i. unfit source m is_operand (assigned_by i)) (items_in source m))
    (earliest (λ t. unfit source m is_signal (Some t.name)) (terms_in source m))))

-- ---- targets (clauses 6.1 and 9.2)

-- an item may be driven by a continuous assignment
abbrev pub is_assignable : Item → Bool
is_assignable i = is_net i && not (is_input i)

-- the first target in a module that may not be assigned so: a procedure assigns regs, a continuous assignment nets other than inputs
abbrev pub bad_target : Source → declared.Module → Option ℕ
bad_target source m =
    earlier (earliest (λ s. unfit source m is_reg (target_of s)) (statements_in source m))
    (earliest (λ i. unfit source m is_assignable (assigned_by i)) (items_in source m))

-- ---- connections of ports (clauses 12.3.5, 12.3.6 and 12.3.9)

-- an item, if it is a port
abbrev pub if_port : Item → Option Item
if_port (item.Port name direction range) = Some (item.Port name direction range)
if_port _ = None

-- the port of a module to which a connection with so many before it connects: that of its name, or of its position
abbrev pub port_of : Source → declared.Module → ℕ → Connection → Option Item
port_of source m before c =
    option_map_or (λ place. option_and_then if_port (named_at source m place)) c.port (slice_get (ports_in source m) before)

-- the net that an expression is, whole and without parentheses, which begins at a place
abbrev pub is_whole_net : Source → declared.Module → ℕ → Expression → Bool
is_whole_net source m place (expression.Name name selection_of.Whole) = nat_eq place name && option_map_or is_net (named_at source m name) false
is_whole_net source m place _ = false

-- a connection in a module may stand at this port: an output's value is a whole net, or there is none
abbrev pub suits : Source → declared.Module → Connection → Item → Bool
suits source m c port =
    is_input port
    || option_map_or (λ v. option_map_or (is_whole_net source m c.place) (slice_get source.expressions v) false) c.value true

-- these names, and one more where it is new
abbrev pub with_name : List (List ℕ) → List ℕ → List (List ℕ)
with_name names name = if not (is_among names name) then names ++ name ∷ [] else names

-- these names of ports, and that of the port that a connection names
abbrev pub with_port : Source → List (List ℕ) → Connection → List (List ℕ)
with_port source names c = option_map_or (λ p. with_name names (word_at source p)) c.port names

-- it is one of these names
abbrev pub is_named_in : Source → List (List ℕ) → Connection → Bool
is_named_in source names c = option_map_or (λ p. is_among names (word_at source p)) c.port false

-- the fault of a connection in a module to a port of another, after so many that name these ports: at the name of a port that there
-- is not or that was named before, at a position after the ports, or at an output's value that is no whole net
abbrev pub connection_fault : Source → declared.Module → declared.Module → List (List ℕ) → ℕ → Connection → Option ℕ
connection_fault source m target names before c =
    let named : ℕ = option_map_or (λ p. p) c.port c.place in
    option_map_or (λ port. if is_named_in source names c then Some named
    else if suits source m c port then None else Some c.place)
    (port_of source target before c) (Some named)

-- the first fault of connections after so many that name these ports
abbrev pub connections_fault : Source → declared.Module → declared.Module → List (List ℕ) → ℕ → List Connection → Option ℕ
connections_fault source m target names before [] = None
connections_fault source m target names before (c ∷ cs) =
    earlier (connection_fault source m target names before c)
    (connections_fault source m target (with_port source names c) (before + 1) cs)

-- the first fault of an instance's connections
abbrev pub instance_fault : Source → declared.Module → Item → Option ℕ
instance_fault source m i =
    option_and_then (λ target. connections_fault source m target [] 0 (connections_of source i)) (definition_of source i)

-- the first connection in a module that may not stand so
abbrev pub bad_connection : Source → declared.Module → Option ℕ
bad_connection source m = earliest (instance_fault source m) (items_in source m)

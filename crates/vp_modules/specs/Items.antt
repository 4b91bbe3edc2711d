-- The items of modules, what they declare, and what their names name.
use Rattle.std.specs.Prelude.{ℕ, not, ◌||◌, Bool, true, false, List, [], ◌++◌, Option, Some, None, slice_get, codes, decimal}
use Rattle.std.specs.List.{list_any, position}
use Rattle.std.specs.Option.{option_and_then, option_map_or}
use Rattle.std.specs.Str.{bytes_eq}
use Rattle.vp_text.specs.Lists.{range_of}
use Rattle.vp_source.specs.declared.expression.Expression.{Expression}
use Rattle.vp_source.specs.declared.statement.EventTerm.{EventTerm}
use Rattle.vp_source.specs.declared.statement.Statement.{Statement}
use Rattle.vp_source.specs.Places.{column_at, line_at, word_at}
use Rattle.vp_source.specs.declared.source.Connection.{Connection}
use Rattle.vp_source.specs.declared.source.Direction.TheVariants as direction
use Rattle.vp_source.specs.declared.source.Source.{Source}
use Rattle.vp_source.specs.declared.source.Module as declared
use Rattle.vp_source.specs.declared.source.Item.{Item}
use Rattle.vp_source.specs.declared.source.Item.TheVariants as item

-- a name is among these
abbrev pub is_among : List (List ℕ) → List ℕ → Bool
is_among names name = list_any (bytes_eq name) names

-- ---- parts of modules

-- the items of a module, its ports first, in the order of the text
abbrev pub items_in : Source → declared.Module → List Item
items_in source m = range_of source.items m.items.first m.items.end

-- the ports of a module, in order (clause 12.3.1)
abbrev pub ports_in : Source → declared.Module → List Item
ports_in source m = range_of source.items m.items.first m.ports

-- the statements of a module
abbrev pub statements_in : Source → declared.Module → List Statement
statements_in source m = range_of source.statements m.statements.first m.statements.end

-- the expressions of a module, those of its connections among them
abbrev pub expressions_in : Source → declared.Module → List Expression
expressions_in source m = range_of source.expressions m.expressions.first m.expressions.end

-- the terms of a module's events (clause 9.7.2)
abbrev pub terms_in : Source → declared.Module → List EventTerm
terms_in source m = range_of source.terms m.terms.first m.terms.end

-- ---- items

-- the place of a declaration: of its name, of the keyword of a process, or of the name to which a continuous assignment assigns (profile)
abbrev pub item_place : Item → ℕ
item_place (item.Port name direction range) = name
item_place (item.Net name range) = name
item_place (item.Reg name range) = name
item_place (item.LocalParameter name value) = name
item_place (item.Assignment target value) = target
item_place (item.Instance name definition first end) = name
item_place (item.Initial keyword body) = keyword
item_place (item.Always keyword body) = keyword

-- the name of a process: its keyword, its line and its column (profile)
abbrev pub process_name : List ℕ → Source → ℕ → List ℕ
process_name keyword source place =
    keyword ++ (codes "@" ++ (decimal (line_at source place) ++ (codes ":" ++ decimal (column_at source place))))

-- the name of what an item declares
abbrev pub item_name : Source → Item → List ℕ
item_name source (item.Assignment target value) = process_name (codes "assign") source target
item_name source (item.Initial keyword body) = process_name (codes "initial") source keyword
item_name source (item.Always keyword body) = process_name (codes "always") source keyword
item_name source i = word_at source (item_place i)

-- a port is an input, and so a net that is driven from outside
abbrev pub is_input : Item → Bool
is_input (item.Port name direction.Input range) = true
is_input _ = false

-- an item is a net
abbrev pub is_net : Item → Bool
is_net (item.Port name direction.OutputReg range) = false
is_net (item.Port name _ range) = true
is_net (item.Net name range) = true
is_net _ = false

-- an item is a reg
abbrev pub is_reg : Item → Bool
is_reg (item.Port name direction.OutputReg range) = true
is_reg (item.Reg name range) = true
is_reg _ = false

-- an item can be waited for in an event: a net or a reg, ports among them (clause 9.7.2)
abbrev pub is_signal : Item → Bool
is_signal i = is_net i || is_reg i

-- an item has a value: a net, a reg, or a local parameter (clause 4)
abbrev pub is_operand : Item → Bool
is_operand (item.Port name direction range) = true
is_operand (item.Net name range) = true
is_operand (item.Reg name range) = true
is_operand (item.LocalParameter name value) = true
is_operand _ = false

-- ---- names

-- an item has this name
abbrev pub has_name : Source → List ℕ → Item → Bool
has_name source name i = bytes_eq name (item_name source i)

-- the first of these items that has a name
abbrev pub item_named : Source → List Item → List ℕ → Option Item
item_named source items name = option_and_then (slice_get items) (position (has_name source name) items)

-- what the word at a place names in a module
abbrev pub named_at : Source → declared.Module → ℕ → Option Item
named_at source m place = item_named source (items_in source m) (word_at source place)

-- the number of the first module of a name, its index in the text
abbrev pub module_number : Source → List ℕ → Option ℕ
module_number source name = position (λ (m : declared.Module). bytes_eq name (word_at source m.name)) source.modules

-- the first module of a name
abbrev pub module_named : Source → List ℕ → Option declared.Module
module_named source name = option_and_then (slice_get source.modules) (module_number source name)

-- the name of the module that an item instantiates
abbrev pub instantiated : Source → Item → Option (List ℕ)
instantiated source (item.Instance name definition first end) = Some (word_at source definition)
instantiated source _ = None

-- the connections of an instance
abbrev pub connections_of : Source → Item → List Connection
connections_of source (item.Instance name definition first end) = range_of source.connections first end
connections_of source _ = []

-- the module that an item instantiates
abbrev pub definition_of : Source → Item → Option declared.Module
definition_of source i = option_and_then (module_named source) (instantiated source i)

-- the number of the module that an item instantiates
abbrev pub definition_number : Source → Item → Option ℕ
definition_number source i = option_and_then (module_number source) (instantiated source i)

-- an item instantiates a module of this name
abbrev pub instantiates : Source → List ℕ → Item → Bool
instantiates source name i = option_map_or (bytes_eq name) (instantiated source i) false

-- a module is a top module: no module of the text instantiates it (clause 12.1.1)
abbrev pub is_top : Source → declared.Module → Bool
is_top source m = not (list_any (instantiates source (word_at source m.name)) source.items)

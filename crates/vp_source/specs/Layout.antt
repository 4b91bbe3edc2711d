-- How a derivation lies in the flat lists of a source: each part after its own parts, and nothing else.
use Rattle.std.specs.Prelude.{◌≡◌, ℕ, List, [], ◌∷◌, ◌++◌, length, Option, Some, None, option_map}
use Rattle.vp_lex.specs.declared.token.Token.{Token}
use Rattle.vp_lex.specs.declared.token.Punctuator.TheVariants as punctuator
use Rattle.vp_source.specs.declared.symbol.Symbol.{Symbol}
use Rattle.vp_source.specs.declared.symbol.SymbolKind.TheVariants as symbol
use Rattle.vp_source.specs.Kinds.{symbol_at}
use Rattle.vp_source.specs.ExprGrammar.{Expr, Range}
use Rattle.vp_source.specs.ExprLayout.{put_range}
use Rattle.vp_source.specs.StmtGrammar.{Stmt}
use Rattle.vp_source.specs.StmtLayout as layout
use Rattle.vp_source.specs.StmtLayout.{put_stmt, put_value}
use Rattle.vp_source.specs.declared.source.Connection as connection
use Rattle.vp_source.specs.declared.source.DeclaredRange.{DeclaredRange}
use Rattle.vp_source.specs.declared.source.Direction as direction
use Rattle.vp_source.specs.declared.source.Direction.TheVariants as direction_of
use Rattle.vp_source.specs.declared.source.Ends.{Ends}
use Rattle.vp_source.specs.declared.source.Item as item
use Rattle.vp_source.specs.declared.source.Item.TheVariants as item_of
use Rattle.vp_source.specs.declared.source.Module as module_of
use Rattle.vp_source.specs.declared.source.Source.{Source}
use Rattle.vp_source.specs.Grammar.{Further, Connection, Ordered, Named, Connections, Unconnected, Connected, value_text, Declaration, Nets, Regs, LocalParameters, Assignments, Instances, Declarator, Plain, Valued, Instance, Item, Declares, Initial, Always, Direction, Input, Output, OutputReg, Port, Declared, Bare, Header, NoHeader, Ports, Module, Derivation}

-- the flat lists of a source: its items, the connections of its instances, and the parts that both name
pub record Lists : Type 0 where
  pub items : List item.Item
  pub connections : List connection.Connection
  pub parts : layout.Lists

-- no parts
abbrev pub no_parts : Lists
no_parts = record { items = []; connections = []; parts = layout.no_parts }

-- where the lists end of which each module has a part
abbrev pub ends_of : Lists → Ends
ends_of lists = record {
  items = length lists.items;
  statements = length lists.parts.statements;
  expressions = length lists.parts.expressions;
  terms = length lists.parts.terms;
  choices = length lists.parts.choices;
}

-- the range of a declaration
abbrev pub put_declared : Range → DeclaredRange
put_declared r = record { bracket = r.opening; range = put_range r }

-- one more item
abbrev pub with_item : item.Item → Lists → Lists
with_item i lists = record lists { items = lists.items ++ i ∷ [] }

-- one more connection
abbrev pub with_connection : connection.Connection → Lists → Lists
with_connection c lists = record lists { connections = lists.connections ++ c ∷ [] }

-- ---- connections

-- the place of the first symbol; 0 where there is none
abbrev pub first_place : List Symbol → ℕ
first_place [] = 0
first_place (s ∷ ts) = s.place

-- a connection and its value, if it has one, which begins at a place
abbrev pub put_connection_by : ℕ → Option ℕ → Option Expr → Lists → Lists
put_connection_by place port None lists = with_connection (record { place = place; port = port; value = None }) lists
put_connection_by place port (Some e) lists =
    let v = put_value e lists.parts in
    with_connection (record { place = place; port = port; value = Some v.0 }) (record lists { parts = v.1 })

-- a connection, after which this symbol stands: its value begins at the value's first symbol, or where it has none at that after it
abbrev pub put_connection : Symbol → Connection → Lists → Lists
put_connection following (Ordered value) lists = put_connection_by (first_place (value_text value (following ∷ []))) None value lists
put_connection following (Named period port opening value closing) lists =
    put_connection_by (first_place (value_text value (symbol_at (symbol.Punctuator punctuator.RightParenthesis) closing ∷ []))) (Some port) value lists

-- a comma
abbrev pub comma_at : ℕ → Symbol
comma_at place = symbol_at (symbol.Punctuator punctuator.Comma) place

-- a connection and further ones, up to the parenthesis at a place
abbrev pub put_connected : (closing : ℕ) → Connection → List (Further Connection) → Lists → Lists
put_connected closing c [] lists = put_connection (symbol_at (symbol.Punctuator punctuator.RightParenthesis) closing) c lists
put_connected closing c (f ∷ fs) lists = put_connected closing f.part fs (put_connection (comma_at f.comma) c lists)

-- connections, up to the parenthesis at a place
abbrev pub put_connections : (closing : ℕ) → Connections → Lists → Lists
put_connections closing Unconnected lists = lists
put_connections closing (Connected first further) lists = put_connected closing first further lists

-- ---- items

-- the items of a declarator: a net with a value is a net and a continuous assignment (6.1.1)
abbrev pub put_declarator : Declaration → Declarator → Lists → Lists
put_declarator (Nets place range) (Plain name) lists = with_item (item_of.Net name (option_map put_declared range)) lists
put_declarator (Nets place range) (Valued name equals value) lists =
    let v = put_value value lists.parts in
    with_item (item_of.Assignment name v.0) (with_item (item_of.Net name (option_map put_declared range)) (record lists { parts = v.1 }))
put_declarator (Regs place range) (Plain name) lists = with_item (item_of.Reg name (option_map put_declared range)) lists
put_declarator (LocalParameters place) (Valued name equals value) lists =
    let v = put_value value lists.parts in with_item (item_of.LocalParameter name v.0) (record lists { parts = v.1 })
put_declarator (Assignments place) (Valued name equals value) lists =
    let v = put_value value lists.parts in with_item (item_of.Assignment name v.0) (record lists { parts = v.1 })
put_declarator (Instances definition) (Instance name opening connections closing) lists =
    let after = put_connections closing connections lists in
    with_item (item_of.Instance name definition (length lists.connections) (length after.connections)) after
put_declarator _ _ lists = lists

-- the items of further declarators
abbrev pub put_further : Declaration → List (Further Declarator) → Lists → Lists
put_further declaration [] lists = lists
put_further declaration (f ∷ fs) lists = put_further declaration fs (put_declarator declaration f.part lists)

-- an item that has a statement, after that statement (9.9)
abbrev pub put_procedure : (ℕ → item.Item) → Stmt → Lists → Lists
put_procedure construct body lists =
    let b = put_stmt body lists.parts in with_item (construct b.0) (record lists { parts = b.1 })

-- the items of an item of the text: those of each of its declarators
abbrev pub put_item : Item → Lists → Lists
put_item (Declares declaration first further semicolon) lists = put_further declaration further (put_declarator declaration first lists)
put_item (Initial place body) lists = put_procedure (item_of.Initial place) body lists
put_item (Always place body) lists = put_procedure (item_of.Always place) body lists

-- the items of a module, in order
abbrev pub put_items : List Item → Lists → Lists
put_items [] lists = lists
put_items (i ∷ is) lists = put_items is (put_item i lists)

-- ---- ports

-- the direction of ports and their range
pub record PortType : Type 0 where
  pub direction : direction.Direction
  pub range : Option DeclaredRange

-- a direction
abbrev pub put_direction : Direction → direction.Direction
put_direction (Input place wire) = direction_of.Input
put_direction (Output place wire) = direction_of.Output
put_direction (OutputReg place reg) = direction_of.OutputReg

-- the direction and range of a port, after one of these (12.3.3)
abbrev pub port_type : PortType → Port → PortType
port_type before (Declared direction range name) = record { direction = put_direction direction; range = option_map put_declared range }
port_type before (Bare name) = before

-- the name of a port
abbrev pub port_name : Port → ℕ
port_name (Declared direction range name) = name
port_name (Bare name) = name

-- a port of a direction and range
abbrev pub put_port : PortType → ℕ → Lists → Lists
put_port type name lists = with_item (item_of.Port name type.direction type.range) lists

-- further ports, after one of this direction and range
abbrev pub put_ports : PortType → List (Further Port) → Lists → Lists
put_ports before [] lists = lists
put_ports before (f ∷ fs) lists =
    let type = port_type before f.part in put_ports type fs (put_port type (port_name f.part) lists)

-- a scalar input, which stands for the port before the first
abbrev pub scalar_input : PortType
scalar_input = record { direction = direction_of.Input; range = None }

-- the ports of a module
abbrev pub put_header : Header → Lists → Lists
put_header NoHeader lists = lists
put_header (Ports opening None closing) lists = lists
put_header (Ports opening (Some ports) closing) lists =
    let type = port_type scalar_input ports.first in put_ports type ports.further (put_port type (port_name ports.first) lists)

-- ---- modules and the whole

-- a module, by its name and by where its ports, and its other items, end
abbrev pub put_module : Module → Lists → module_of.Module × Lists
put_module m lists =
    let ports = put_header m.header lists in
    let after = put_items m.items ports in (
      record {
        name = m.name;
        items = record { first = length lists.items; end = length after.items };
        ports = length ports.items;
        statements = record { first = length lists.parts.statements; end = length after.parts.statements };
        expressions = record { first = length lists.parts.expressions; end = length after.parts.expressions };
        terms = record { first = length lists.parts.terms; end = length after.parts.terms };
        choices = record { first = length lists.parts.choices; end = length after.parts.choices };
      },
      after,
    )

-- the modules of a source, in order
abbrev pub put_modules : List Module → Lists → List module_of.Module × Lists
put_modules [] lists = ([], lists)
put_modules (m ∷ ms) lists = let x = put_module m lists in let y = put_modules ms x.1 in (x.0 ∷ y.0, y.1)

-- all parts of a derivation, with its modules
abbrev pub put_source : Derivation → List module_of.Module × Lists
put_source d = put_modules d no_parts

-- the flat lists of a source
abbrev pub lists_of : Source → Lists
lists_of s = record {
  items = s.items;
  connections = s.connections;
  parts = record {
    statements = s.statements;
    expressions = s.expressions;
    terms = s.terms;
    choices = s.choices;
  };
}

-- the source of a text with these tokens and this derivation
pub record IsSourceOf (text : List ℕ) (tokens : List Token) (d : Derivation) (s : Source) : Type 0 where
  pub of_text : s.text ≡ text
  pub of_tokens : s.tokens ≡ tokens
  pub parts : (s.modules, lists_of s) ≡ put_source d

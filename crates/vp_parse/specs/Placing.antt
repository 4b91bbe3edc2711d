-- Reading symbols straight into the flat lists of a source: what each function of the code gives.
use Rattle.std.specs.Prelude.{ℕ, zero, suc, ◌+◌, ◌==◌, Bool, List, [], ◌∷◌, ◌++◌, length, Option, Some, None, Result, Ok, Err, if◌then◌else◌}
use Rattle.vp_lex.specs.declared.keyword.Keyword.TheVariants as keyword
use Rattle.vp_lex.specs.declared.token.Punctuator.TheVariants as punctuator
use Rattle.vp_source.specs.declared.symbol.Symbol.{Symbol}
use Rattle.vp_source.specs.declared.symbol.SymbolKind.{SymbolKind}
use Rattle.vp_source.specs.declared.symbol.SymbolKind.TheVariants as symbol
use Rattle.vp_source.specs.Kinds.{same_kind}
use Rattle.vp_parse_expr.specs.Stopping.{Stop, Unexpected, ◌>>=◌, refused, is_next, terminal, following}
use Rattle.vp_parse_expr.specs.Placing.{range_into, literal_into}
use Rattle.vp_parse_stmt.specs.Placing.{Placer, lists_in as parts_in, stmt_into, value_into}
use Rattle.vp_parse.specs.declared.arena.Arena.{Arena}
use Rattle.vp_source.specs.declared.source.DeclaredRange.{DeclaredRange}
use Rattle.vp_source.specs.declared.source.Direction as direction
use Rattle.vp_source.specs.declared.source.Direction.TheVariants as direction_of
use Rattle.vp_source.specs.declared.source.Item as item
use Rattle.vp_source.specs.declared.source.Item.TheVariants as item_of
use Rattle.vp_source.specs.declared.source.Module as module_of
use Rattle.vp_parse.specs.declared.items.Declaration as declaration
use Rattle.vp_parse.specs.declared.items.Declaration.TheVariants as declaration_of
use Rattle.vp_parse.specs.declared.ports.PortType as ports
use Rattle.vp_source.specs.Layout.{Lists, PortType, first_place, with_item, with_connection, put_port}
use Rattle.vp_parse.specs.Reading.{is_end}

-- the lists of an arena
abbrev pub lists_in : Arena → Lists
lists_in a = record { items = a.items.items; connections = a.connections.items; parts = parts_in a.parts }

-- the lists with what is read, and the symbols that are left
abbrev pub Kept : Type 0
Kept = Lists × List Symbol

-- reads into lists, from these symbols
abbrev pub Keeper : Type 0
Keeper = Lists → List Symbol → Result Kept Stop

-- ---- lists with commas, ranges and values

-- further parts, each after a comma; a number bounds how many
unfoldable pub further_into : Keeper → ℕ → Keeper
further_into part zero lists ts = Ok (lists, ts)
further_into part (suc m) lists ts =
    if is_next (symbol.Punctuator punctuator.Comma) ts
    then (following (symbol.Punctuator punctuator.Comma) ts >>= λ rest. part lists rest >>= λ p. further_into part m p.0 p.1)
    else Ok (lists, ts)

-- the range of a declaration, if one is next (4.3.1)
unfoldable pub width_into : List Symbol → Result (Option DeclaredRange × List Symbol) Stop
width_into [] = Ok (None, [])
width_into (s ∷ ts) =
    if same_kind (symbol.Punctuator punctuator.LeftBracket) s.kind
    then (range_into (s ∷ ts) >>= λ r. Ok (Some (record { bracket = s.place; range = r.0 }), r.1))
    else Ok (None, s ∷ ts)

-- the place of a part, the lists with it, and the symbols that are left
abbrev pub Made : Type 0 → Type 0
Made A = A × Lists × List Symbol

-- what a reader into the parts of the lists gives
abbrev pub part_into : Placer → Lists → List Symbol → Result (Made ℕ) Stop
part_into placer lists ts = placer lists.parts ts >>= λ v. Ok (v.0, record lists { parts = v.1 }, v.2)

-- an expression that nests at most so deep, if a connection has one (12.3.5)
unfoldable pub optional_into : (limit : ℕ) → Lists → List Symbol → Result (Made (Option ℕ)) Stop
optional_into limit lists ts =
    if is_end ts then Ok (None, lists, ts) else (part_into (value_into limit) lists ts >>= λ v. Ok (Some v.0, v.1, v.2))

-- ---- connections

-- a connection by position (12.3.5)
unfoldable pub ordered_into : (limit : ℕ) → Keeper
ordered_into limit lists ts =
    optional_into limit lists ts >>= λ v. Ok (with_connection (record { place = first_place ts; port = None; value = v.0 }) v.1, v.2)

-- a connection by name (12.3.6)
unfoldable pub named_into : (limit : ℕ) → Keeper
named_into limit lists ts = do
  rest ← following (symbol.Punctuator punctuator.Period) ts
  port ← terminal symbol.Name rest
  rest ← following (symbol.Punctuator punctuator.LeftParenthesis) port.1
  value ← optional_into limit lists rest
  after ← following (symbol.Punctuator punctuator.RightParenthesis) value.2
  Ok (with_connection (record { place = first_place rest; port = Some port.0; value = value.0 }) value.1, after)

-- a connection, by name or by position
unfoldable pub connection_into : (limit : ℕ) → Bool → Keeper
connection_into limit named lists ts = if named then named_into limit lists ts else ordered_into limit lists ts

-- connections, all by name or all by position, as the first (12.1.2)
unfoldable pub connected_into : (limit : ℕ) → Bool → Keeper
connected_into limit named lists ts =
    connection_into limit named lists ts >>= λ c. further_into (connection_into limit named) (length c.1) c.0 c.1

-- the connections of an instance, up to its parenthesis (12.1.2)
unfoldable pub connections_into : (limit : ℕ) → Keeper
connections_into limit lists ts =
    if is_next (symbol.Punctuator punctuator.RightParenthesis) ts
    then Ok (lists, ts)
    else connected_into limit (is_next (symbol.Punctuator punctuator.Period) ts) lists ts

-- ---- declarators

-- a value, from after a name (6.1.2)
unfoldable pub valued_into : Placer → Lists → List Symbol → Result (Made ℕ) Stop
valued_into value lists ts = following (symbol.Punctuator punctuator.Equals) ts >>= λ rest. part_into value lists rest

-- a net, from after its name (6.1.1)
unfoldable pub net_into : (limit : ℕ) → Option DeclaredRange → (name : ℕ) → Keeper
net_into limit range name lists ts =
    if is_next (symbol.Punctuator punctuator.Equals) ts
    then (valued_into (value_into limit) lists ts >>= λ v. Ok (with_item (item_of.Assignment name v.0) (with_item (item_of.Net name range) v.1), v.2))
    else Ok (with_item (item_of.Net name range) lists, ts)

-- an instance of a module, from after its name (12.1.2)
unfoldable pub instance_into : (limit definition name : ℕ) → Keeper
instance_into limit definition name lists ts = do
  rest ← following (symbol.Punctuator punctuator.LeftParenthesis) ts
  connections ← connections_into limit lists rest
  rest ← following (symbol.Punctuator punctuator.RightParenthesis) connections.1
  Ok (with_item (item_of.Instance name definition (length lists.connections) (length connections.0.connections)) connections.0, rest)

-- a literal with a size (3.5.1)
abbrev pub sized_into : Placer
sized_into lists ts = literal_into lists.expressions ts >>= λ e. Ok (e.0, record lists { expressions = e.2 }, e.3)

-- a declarator of a declaration, from after its name
unfoldable pub declarator_by_into : (limit : ℕ) → declaration.Declaration → (name : ℕ) → Keeper
declarator_by_into limit (declaration_of.Nets range) name lists ts = net_into limit range name lists ts
declarator_by_into limit (declaration_of.Regs range) name lists ts = Ok (with_item (item_of.Reg name range) lists, ts)
declarator_by_into limit declaration_of.LocalParameters name lists ts =
    valued_into sized_into lists ts >>= λ v. Ok (with_item (item_of.LocalParameter name v.0) v.1, v.2)
declarator_by_into limit declaration_of.Assignments name lists ts =
    valued_into (value_into limit) lists ts >>= λ v. Ok (with_item (item_of.Assignment name v.0) v.1, v.2)
declarator_by_into limit (declaration_of.Instances definition) name lists ts = instance_into limit definition name lists ts

-- a declarator of a declaration
unfoldable pub declarator_into : (limit : ℕ) → declaration.Declaration → Keeper
declarator_into limit declaration lists ts = terminal symbol.Name ts >>= λ n. declarator_by_into limit declaration n.0 lists n.1

-- the declarators of a declaration, and its semicolon
unfoldable pub declarators_into : (limit : ℕ) → declaration.Declaration → Keeper
declarators_into limit declaration lists ts = do
  first ← declarator_into limit declaration lists ts
  further ← further_into (declarator_into limit declaration) (length first.1) first.0 first.1
  rest ← following (symbol.Punctuator punctuator.Semicolon) further.1
  Ok (further.0, rest)

-- ---- items

-- an initial or an always construct, from after its keyword (9.9.1, 9.9.2)
unfoldable pub procedure_into : Placer → (ℕ → item.Item) → Keeper
procedure_into statement construct lists ts =
    part_into statement lists ts >>= λ b. Ok (with_item (construct b.0) b.1, b.2)

-- an item, from after its first symbol, by that symbol's kind and place (12.1)
unfoldable pub item_by_into : (limit : ℕ) → Placer → SymbolKind → ℕ → Keeper
item_by_into limit statement (symbol.Keyword keyword.Wire) place lists ts =
    width_into ts >>= λ range. declarators_into limit (declaration_of.Nets range.0) lists range.1
item_by_into limit statement (symbol.Keyword keyword.Reg) place lists ts =
    width_into ts >>= λ range. declarators_into limit (declaration_of.Regs range.0) lists range.1
item_by_into limit statement (symbol.Keyword keyword.Localparam) place lists ts = declarators_into limit declaration_of.LocalParameters lists ts
item_by_into limit statement (symbol.Keyword keyword.Assign) place lists ts = declarators_into limit declaration_of.Assignments lists ts
item_by_into limit statement symbol.Name place lists ts = declarators_into limit (declaration_of.Instances place) lists ts
item_by_into limit statement (symbol.Keyword keyword.Initial) place lists ts = procedure_into statement (item_of.Initial place) lists ts
item_by_into limit statement (symbol.Keyword keyword.Always) place lists ts = procedure_into statement (item_of.Always place) lists ts
item_by_into limit statement _ place lists ts = Err (Unexpected (length ts + 1))

-- an item, with the reader of statements (12.1)
unfoldable pub item_into : (limit : ℕ) → Placer → Keeper
item_into limit statement lists [] = refused []
item_into limit statement lists (s ∷ ts) = item_by_into limit statement s.kind s.place lists ts

-- the items of a module, up to its endmodule; a number bounds how many (12.1)
unfoldable pub items_into : (limit : ℕ) → Placer → ℕ → Keeper
items_into limit statement zero lists ts = if is_next (symbol.Keyword keyword.Endmodule) ts then Ok (lists, ts) else refused ts
items_into limit statement (suc m) lists ts =
    if is_next (symbol.Keyword keyword.Endmodule) ts
    then Ok (lists, ts)
    else (item_into limit statement lists ts >>= λ i. items_into limit statement m i.0 i.1)

-- ---- ports

-- what is left after the keyword `wire`, if it is next (12.3.3)
unfoldable pub wire_into : List Symbol → Result (List Symbol) Stop
wire_into ts = if is_next (symbol.Keyword keyword.Wire) ts then following (symbol.Keyword keyword.Wire) ts else Ok ts

-- an output, from after its keyword (12.3.3)
unfoldable pub output_into : List Symbol → Result (direction.Direction × List Symbol) Stop
output_into ts =
    if is_next (symbol.Keyword keyword.Reg) ts
    then (following (symbol.Keyword keyword.Reg) ts >>= λ rest. Ok (direction_of.OutputReg, rest))
    else (wire_into ts >>= λ rest. Ok (direction_of.Output, rest))

-- a direction, by its keyword (12.3.3)
unfoldable pub direction_by_into : SymbolKind → List Symbol → Result (direction.Direction × List Symbol) Stop
direction_by_into (symbol.Keyword keyword.Input) ts = wire_into ts >>= λ rest. Ok (direction_of.Input, rest)
direction_by_into (symbol.Keyword keyword.Output) ts = output_into ts
direction_by_into _ ts = Err (Unexpected (length ts + 1))

-- a direction (12.3.3)
unfoldable pub direction_into : List Symbol → Result (direction.Direction × List Symbol) Stop
direction_into [] = refused []
direction_into (s ∷ ts) = direction_by_into s.kind ts

-- the direction and range of a port (12.3.3)
unfoldable pub port_type_into : List Symbol → Result (PortType × List Symbol) Stop
port_type_into ts = do
  direction ← direction_into ts
  range ← width_into direction.1
  Ok (record { direction = direction.0; range = range.0 }, range.1)

-- the direction and range of a port after another: those of that, where its name is next (12.3.3)
unfoldable pub next_type_into : PortType → List Symbol → Result (PortType × List Symbol) Stop
next_type_into before ts = if is_next symbol.Name ts then Ok (before, ts) else port_type_into ts

-- the direction and range that the code has of a port
abbrev pub type_shown : ports.PortType → PortType
type_shown t = record { direction = t.direction; range = t.range }

-- a port of a direction and a range, by its name (12.3.1)
unfoldable pub port_into : PortType → Keeper
port_into type lists ts = terminal symbol.Name ts >>= λ n. Ok (put_port type n.0 lists, n.1)

-- further ports, after one of this direction and range; a number bounds how many (12.3.1)
unfoldable pub ports_into : PortType → ℕ → Keeper
ports_into before zero lists ts = Ok (lists, ts)
ports_into before (suc m) lists ts =
    if is_next (symbol.Punctuator punctuator.Comma) ts
    then (following (symbol.Punctuator punctuator.Comma) ts >>= λ rest. next_type_into before rest >>= λ t.
    port_into t.0 lists t.1 >>= λ p. ports_into t.0 m p.0 p.1)
    else Ok (lists, ts)

-- the ports of a module, from after their parenthesis, up to the other (12.3.1)
unfoldable pub listed_into : Keeper
listed_into lists ts =
    if is_next (symbol.Punctuator punctuator.RightParenthesis) ts
    then Ok (lists, ts)
    else (port_type_into ts >>= λ t. port_into t.0 lists t.1 >>= λ p. ports_into t.0 (length p.1) p.0 p.1)

-- the parentheses of a module, with its ports (12.3.1)
unfoldable pub parentheses_into : Keeper
parentheses_into lists ts = do
  rest ← following (symbol.Punctuator punctuator.LeftParenthesis) ts
  ports ← listed_into lists rest
  rest ← following (symbol.Punctuator punctuator.RightParenthesis) ports.1
  Ok (ports.0, rest)

-- what stands after the name of a module (12.3.1)
unfoldable pub header_into : Keeper
header_into lists ts =
    if is_next (symbol.Punctuator punctuator.LeftParenthesis) ts then parentheses_into lists ts else Ok (lists, ts)

-- ---- modules and the whole

-- a module, whose statements and expressions nest at most so deep (12.1)
unfoldable pub module_into : ℕ → Lists → List Symbol → Result (Made module_of.Module) Stop
module_into limit lists ts = do
  rest ← following (symbol.Keyword keyword.Module) ts
  name ← terminal symbol.Name rest
  ports ← header_into lists name.1
  rest ← following (symbol.Punctuator punctuator.Semicolon) ports.1
  items ← items_into limit (stmt_into limit limit) (length rest) ports.0 rest
  rest ← following (symbol.Keyword keyword.Endmodule) items.1
  Ok (
    record {
      name = name.0;
      items = record { first = length lists.items; end = length items.0.items };
      ports = length ports.0.items;
      statements = record { first = length lists.parts.statements; end = length items.0.parts.statements };
      expressions = record { first = length lists.parts.expressions; end = length items.0.parts.expressions };
      terms = record { first = length lists.parts.terms; end = length items.0.parts.terms };
      choices = record { first = length lists.parts.choices; end = length items.0.parts.choices };
    },
    items.0,
    rest,
  )

-- all modules, after these; a number bounds how many (12.1)
unfoldable pub modules_into : (limit : ℕ) → ℕ → List module_of.Module → Lists → List Symbol → Result (List module_of.Module × Lists) Stop
modules_into limit zero modules lists ts = if length ts == 0 then Ok (modules, lists) else refused ts
modules_into limit (suc m) modules lists ts =
    if length ts == 0
    then Ok (modules, lists)
    else (module_into limit lists ts >>= λ x. modules_into limit m (modules ++ x.0 ∷ []) x.1 x.2)

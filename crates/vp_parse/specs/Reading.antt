-- Reading symbols from left to right: the derivation that they spell, or where it stops.
use Rattle.std.specs.Prelude.{ℕ, zero, suc, ◌+◌, ◌==◌, ◌||◌, Bool, if◌then◌else◌, List, [], ◌∷◌, length, Option, Some, None, Result, Ok, Err}
use Rattle.vp_lex.specs.declared.keyword.Keyword.TheVariants as keyword
use Rattle.vp_lex.specs.declared.token.Punctuator.TheVariants as punctuator
use Rattle.vp_source.specs.declared.source.TheConstants.{DEPTH_LIMIT}
use Rattle.vp_source.specs.declared.symbol.Symbol.{Symbol}
use Rattle.vp_source.specs.declared.symbol.SymbolKind.{SymbolKind}
use Rattle.vp_source.specs.declared.symbol.SymbolKind.TheVariants as symbol
use Rattle.vp_source.specs.ExprGrammar.{Expr, Range}
use Rattle.vp_parse_expr.specs.Stopping.{Stop, Unexpected, ◌>>=◌, Reader, refused, is_next, terminal}
use Rattle.vp_parse_expr.specs.Reading.{expr_at, range_at, literal_at}
use Rattle.vp_source.specs.StmtGrammar.{Stmt}
use Rattle.vp_parse_stmt.specs.Reading.{stmt_at}
use Rattle.vp_source.specs.Grammar.{Further, Connection, Ordered, Named, Connections, Unconnected, Connected, Declaration, Nets, Regs, LocalParameters, Assignments, Instances, Declarator, Plain, Valued, Instance, Item, Declares, Initial, Always, Direction, Input, Output, OutputReg, Port, Declared, Bare, PortList, Header, NoHeader, Ports, Module, Derivation}

-- ---- lists with commas, ranges and values

-- further parts, each after a comma; a number bounds how many
unfoldable pub further_at : {X : Type 0} → Reader X → ℕ → Reader (List (Further X))
further_at part zero ts = Ok ([], ts)
further_at part (suc m) ts =
    if is_next (symbol.Punctuator punctuator.Comma) ts
    then (terminal (symbol.Punctuator punctuator.Comma) ts >>= λ c. part c.1 >>= λ p.
    further_at part m p.1 >>= λ l. Ok (record { comma = c.0; part = p.0 } ∷ l.0, l.1))
    else Ok ([], ts)

-- a range, if one is next (4.3.1)
unfoldable pub width_at : Reader (Option Range)
width_at ts =
    if is_next (symbol.Punctuator punctuator.LeftBracket) ts
    then (range_at ts >>= λ r. Ok (Some r.0, r.1))
    else Ok (None, ts)

-- a connection ends here: a comma or a parenthesis is next (12.3.5)
abbrev pub is_end : List Symbol → Bool
is_end ts = is_next (symbol.Punctuator punctuator.Comma) ts || is_next (symbol.Punctuator punctuator.RightParenthesis) ts

-- an expression that nests at most so deep, if a connection has one (12.3.5)
unfoldable pub value_at : (limit : ℕ) → Reader (Option Expr)
value_at limit ts = if is_end ts then Ok (None, ts) else (expr_at limit 0 ts >>= λ e. Ok (Some e.0, e.1))

-- ---- connections

-- a connection by position (12.3.5)
unfoldable pub ordered_at : (limit : ℕ) → Reader Connection
ordered_at limit ts = value_at limit ts >>= λ v. Ok (Ordered v.0, v.1)

-- a connection by name (12.3.6)
unfoldable pub named_at : (limit : ℕ) → Reader Connection
named_at limit ts = do
  period ← terminal (symbol.Punctuator punctuator.Period) ts
  port ← terminal symbol.Name period.1
  opening ← terminal (symbol.Punctuator punctuator.LeftParenthesis) port.1
  value ← value_at limit opening.1
  closing ← terminal (symbol.Punctuator punctuator.RightParenthesis) value.1
  Ok (Named period.0 port.0 opening.0 value.0 closing.0, closing.1)

-- a connection, by name or by position
unfoldable pub connection_at : (limit : ℕ) → Bool → Reader Connection
connection_at limit named ts = if named then named_at limit ts else ordered_at limit ts

-- connections, all by name or all by position, as the first (12.1.2)
unfoldable pub connected_at : (limit : ℕ) → Bool → Reader Connections
connected_at limit named ts = do
  first ← connection_at limit named ts
  further ← further_at (connection_at limit named) (length first.1) first.1
  Ok (Connected first.0 further.0, further.1)

-- the connections of an instance, up to its parenthesis (12.1.2)
unfoldable pub connections_at : (limit : ℕ) → Reader Connections
connections_at limit ts =
    if is_next (symbol.Punctuator punctuator.RightParenthesis) ts
    then Ok (Unconnected, ts)
    else connected_at limit (is_next (symbol.Punctuator punctuator.Period) ts) ts

-- ---- declarators

-- a name with a value, from after the name (6.1.2)
unfoldable pub valued_at : Reader Expr → (name : ℕ) → Reader Declarator
valued_at value name ts = do
  equals ← terminal (symbol.Punctuator punctuator.Equals) ts
  value ← value equals.1
  Ok (Valued name equals.0 value.0, value.1)

-- a net, from after its name (6.1.1)
unfoldable pub net_at : (limit name : ℕ) → Reader Declarator
net_at limit name ts =
    if is_next (symbol.Punctuator punctuator.Equals) ts then valued_at (expr_at limit 0) name ts else Ok (Plain name, ts)

-- an instance, from after its name (12.1.2)
unfoldable pub instance_at : (limit name : ℕ) → Reader Declarator
instance_at limit name ts = do
  opening ← terminal (symbol.Punctuator punctuator.LeftParenthesis) ts
  connections ← connections_at limit opening.1
  closing ← terminal (symbol.Punctuator punctuator.RightParenthesis) connections.1
  Ok (Instance name opening.0 connections.0 closing.0, closing.1)

-- a declarator of a declaration, from after its name
unfoldable pub declarator_by : (limit : ℕ) → Declaration → (name : ℕ) → Reader Declarator
declarator_by limit (Nets place range) name ts = net_at limit name ts
declarator_by limit (Regs place range) name ts = Ok (Plain name, ts)
declarator_by limit (LocalParameters place) name ts = valued_at literal_at name ts
declarator_by limit (Assignments place) name ts = valued_at (expr_at limit 0) name ts
declarator_by limit (Instances module_name) name ts = instance_at limit name ts

-- a declarator of a declaration
unfoldable pub declarator_at : (limit : ℕ) → Declaration → Reader Declarator
declarator_at limit declaration ts = terminal symbol.Name ts >>= λ n. declarator_by limit declaration n.0 n.1

-- the declarators of a declaration, and its semicolon
unfoldable pub declarators_at : (limit : ℕ) → Declaration → Reader Item
declarators_at limit declaration ts = do
  first ← declarator_at limit declaration ts
  further ← further_at (declarator_at limit declaration) (length first.1) first.1
  semicolon ← terminal (symbol.Punctuator punctuator.Semicolon) further.1
  Ok (Declares declaration first.0 further.0 semicolon.0, semicolon.1)

-- ---- items

-- a declaration of nets or of regs, from after its keyword (4.2.1, 4.2.2)
unfoldable pub ranged_at : (limit : ℕ) → (Option Range → Declaration) → Reader Item
ranged_at limit declaration ts = width_at ts >>= λ range. declarators_at limit (declaration range.0) range.1

-- an initial or an always construct, from after its keyword (9.9.1, 9.9.2)
unfoldable pub procedure_at : Reader Stmt → (Stmt → Item) → Reader Item
procedure_at statement construct ts = do
  body ← statement ts
  Ok (construct body.0, body.1)

-- an item, from after its first symbol, by that symbol's kind and place (12.1)
unfoldable pub item_by : (limit : ℕ) → Reader Stmt → SymbolKind → ℕ → Reader Item
item_by limit statement (symbol.Keyword keyword.Wire) place ts = ranged_at limit (Nets place) ts
item_by limit statement (symbol.Keyword keyword.Reg) place ts = ranged_at limit (Regs place) ts
item_by limit statement (symbol.Keyword keyword.Localparam) place ts = declarators_at limit (LocalParameters place) ts
item_by limit statement (symbol.Keyword keyword.Assign) place ts = declarators_at limit (Assignments place) ts
item_by limit statement symbol.Name place ts = declarators_at limit (Instances place) ts
item_by limit statement (symbol.Keyword keyword.Initial) place ts = procedure_at statement (Initial place) ts
item_by limit statement (symbol.Keyword keyword.Always) place ts = procedure_at statement (Always place) ts
item_by limit statement _ place ts = Err (Unexpected (length ts + 1))

-- an item, with the reader of statements (12.1)
unfoldable pub item_at : (limit : ℕ) → Reader Stmt → Reader Item
item_at limit statement [] = refused []
item_at limit statement (s ∷ ts) = item_by limit statement s.kind s.place ts

-- the items of a module, up to its endmodule; a number bounds how many (12.1)
unfoldable pub items_at : (limit : ℕ) → Reader Stmt → ℕ → Reader (List Item)
items_at limit statement zero ts = if is_next (symbol.Keyword keyword.Endmodule) ts then Ok ([], ts) else refused ts
items_at limit statement (suc m) ts =
    if is_next (symbol.Keyword keyword.Endmodule) ts
    then Ok ([], ts)
    else (item_at limit statement ts >>= λ i. items_at limit statement m i.1 >>= λ l. Ok (i.0 ∷ l.0, l.1))

-- ---- ports

-- the keyword `wire`, if it is next (12.3.3)
unfoldable pub wire_at : Reader (Option ℕ)
wire_at ts =
    if is_next (symbol.Keyword keyword.Wire) ts
    then (terminal (symbol.Keyword keyword.Wire) ts >>= λ w. Ok (Some w.0, w.1))
    else Ok (None, ts)

-- an output, from after its keyword (12.3.3)
unfoldable pub output_at : ℕ → Reader Direction
output_at place ts =
    if is_next (symbol.Keyword keyword.Reg) ts
    then (terminal (symbol.Keyword keyword.Reg) ts >>= λ r. Ok (OutputReg place r.0, r.1))
    else (wire_at ts >>= λ w. Ok (Output place w.0, w.1))

-- a direction, by its keyword and that keyword's place (12.3.3)
unfoldable pub direction_by : SymbolKind → ℕ → Reader Direction
direction_by (symbol.Keyword keyword.Input) place ts = wire_at ts >>= λ w. Ok (Input place w.0, w.1)
direction_by (symbol.Keyword keyword.Output) place ts = output_at place ts
direction_by _ place ts = Err (Unexpected (length ts + 1))

-- a direction (12.3.3)
unfoldable pub direction_at : Reader Direction
direction_at [] = refused []
direction_at (s ∷ ts) = direction_by s.kind s.place ts

-- a port with its direction (12.3.3)
unfoldable pub declared_at : Reader Port
declared_at ts = do
  direction ← direction_at ts
  range ← width_at direction.1
  name ← terminal symbol.Name range.1
  Ok (Declared direction.0 range.0 name.0, name.1)

-- a port after another (12.3.3)
unfoldable pub port_at : Reader Port
port_at ts =
    if is_next symbol.Name ts
    then (terminal symbol.Name ts >>= λ n. Ok (Bare n.0, n.1))
    else declared_at ts

-- a port, and further ones (12.3.1)
unfoldable pub ports_at : Reader (Option PortList)
ports_at ts = do
  first ← declared_at ts
  further ← further_at port_at (length first.1) first.1
  Ok (Some (record { first = first.0; further = further.0 }), further.1)

-- the ports of a module, up to their parenthesis (12.3.1)
unfoldable pub listed_at : Reader (Option PortList)
listed_at ts = if is_next (symbol.Punctuator punctuator.RightParenthesis) ts then Ok (None, ts) else ports_at ts

-- the parentheses of a module, with its ports (12.3.1)
unfoldable pub parentheses_at : Reader Header
parentheses_at ts = do
  opening ← terminal (symbol.Punctuator punctuator.LeftParenthesis) ts
  ports ← listed_at opening.1
  closing ← terminal (symbol.Punctuator punctuator.RightParenthesis) ports.1
  Ok (Ports opening.0 ports.0 closing.0, closing.1)

-- what stands after the name of a module (12.3.1)
unfoldable pub header_at : Reader Header
header_at ts =
    if is_next (symbol.Punctuator punctuator.LeftParenthesis) ts then parentheses_at ts else Ok (NoHeader, ts)

-- ---- modules

-- a module, whose statements and expressions nest at most so deep (12.1)
unfoldable pub module_at : ℕ → Reader Module
module_at limit ts = do
  first ← terminal (symbol.Keyword keyword.Module) ts
  name ← terminal symbol.Name first.1
  header ← header_at name.1
  semicolon ← terminal (symbol.Punctuator punctuator.Semicolon) header.1
  items ← items_at limit (stmt_at limit limit) (length semicolon.1) semicolon.1
  last ← terminal (symbol.Keyword keyword.Endmodule) items.1
  Ok (
    record {
      keyword = first.0;
      name = name.0;
      header = header.0;
      semicolon = semicolon.0;
      items = items.0;
      endmodule = last.0;
    },
    last.1,
  )

-- all modules; a number bounds how many (12.1)
unfoldable pub modules_at : (limit : ℕ) → ℕ → List Symbol → Result Derivation Stop
modules_at limit zero ts = if length ts == 0 then Ok [] else refused ts
modules_at limit (suc m) ts =
    if length ts == 0 then Ok [] else (module_at limit ts >>= λ x. modules_at limit m x.1 >>= λ l. Ok (x.0 ∷ l))

-- all symbols, with statements and expressions that nest at most so deep (12.1)
unfoldable pub source_at : ℕ → List Symbol → Result Derivation Stop
source_at limit ts = modules_at limit (length ts) ts

-- all symbols, within the limit of 64 (profile)
abbrev pub read : List Symbol → Result Derivation Stop
read symbols = source_at DEPTH_LIMIT symbols

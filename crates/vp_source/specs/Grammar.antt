-- The grammar of modules and their items: derivations, and the symbols that each spells. A derivation holds the places of
-- its terminals.
use Rattle.std.specs.Prelude.{◌≡◌, ℕ, ◌≤◌, max, Bool, true, false, List, [], ◌∷◌, Option, Some, None, IfSome}
use Rattle.vp_lex.specs.declared.keyword.Keyword.TheVariants as keyword
use Rattle.vp_lex.specs.declared.token.Punctuator.TheVariants as punctuator
use Rattle.vp_source.specs.declared.source.TheConstants.{DEPTH_LIMIT}
use Rattle.vp_source.specs.declared.symbol.Symbol.{Symbol}
use Rattle.vp_source.specs.declared.symbol.SymbolKind.TheVariants as symbol
use Rattle.vp_source.specs.Kinds.{symbol_at}
use Rattle.vp_source.specs.ExprGrammar.{Expr, Range, expr_text, expr_depth, is_sized, IsExpr, range_text, IsRange}
use Rattle.vp_source.specs.StmtGrammar.{Stmt, stmt_text, IsStmt, stmt_depth, stmt_height}

-- ---- lists with commas, ranges and values

-- a further part of a list: the place of its comma, and itself
pub record Further (X : Type 0) : Type 0 where
  pub comma : ℕ
  pub part : X

-- the symbols of further parts, by those of one, and then these
abbrev pub further_text : {X : Type 0} → (X → List Symbol → List Symbol) → List (Further X) → List Symbol → List Symbol
further_text text [] rest = rest
further_text text (f ∷ fs) rest =
    symbol_at (symbol.Punctuator punctuator.Comma) f.comma ∷ text f.part (further_text text fs rest)

-- this holds of each further part
abbrev pub AreFurther : {X : Type 0} → (X → Type 0) → List (Further X) → Type 0
AreFurther P [] = Unit {0}
AreFurther P (f ∷ fs) = P f.part × AreFurther P fs

-- how deep the deepest of further parts nests
abbrev pub further_height : {X : Type 0} → (X → ℕ) → List (Further X) → ℕ
further_height height [] = 0
further_height height (f ∷ fs) = max (height f.part) (further_height height fs)

-- the symbols of a range, if there is one, and then these (4.3.1)
abbrev pub width_text : Option Range → List Symbol → List Symbol
width_text None rest = rest
width_text (Some range) rest = range_text range rest

-- the symbols of an expression, if there is one, and then these (5)
abbrev pub value_text : Option Expr → List Symbol → List Symbol
value_text None rest = rest
value_text (Some e) rest = expr_text e rest

-- how deep an expression nests, if there is one (profile)
abbrev pub value_height : Option Expr → ℕ
value_height None = 0
value_height (Some e) = expr_depth e

-- ---- connections

-- a connection of a port of an instance: by the port's position, or by its name; the expression may be missing (12.3.5, 12.3.6)
pub data Connection : Type 0 where
  Ordered : Option Expr → Connection
  Named : (period port opening : ℕ) → Option Expr → (closing : ℕ) → Connection

-- the connections of an instance: none, or a first and further (12.1.2)
pub data Connections : Type 0 where
  Unconnected : Connections
  Connected : Connection → List (Further Connection) → Connections

-- a connection's symbols, and then these (12.3.5, 12.3.6)
abbrev pub connection_text : Connection → List Symbol → List Symbol
connection_text (Ordered value) rest = value_text value rest
connection_text (Named period port opening value closing) rest =
    symbol_at (symbol.Punctuator punctuator.Period) period ∷ symbol_at symbol.Name port
    ∷ symbol_at (symbol.Punctuator punctuator.LeftParenthesis) opening
    ∷ value_text value (symbol_at (symbol.Punctuator punctuator.RightParenthesis) closing ∷ rest)

-- the symbols of connections, and then these (12.1.2)
abbrev pub connections_text : Connections → List Symbol → List Symbol
connections_text Unconnected rest = rest
connections_text (Connected first further) rest = connection_text first (further_text connection_text further rest)

-- a connection is by name
abbrev pub is_named : Connection → Bool
is_named (Ordered value) = false
is_named (Named period port opening value closing) = true

-- a connection has no symbols
abbrev pub is_blank : Connection → Bool
is_blank (Ordered None) = true
is_blank _ = false

-- the expression of a connection is one (5)
abbrev pub IsConnection : Connection → Type 0
IsConnection (Ordered value) = IfSome value IsExpr
IsConnection (Named period port opening value closing) = IfSome value IsExpr

-- a further connection is one, by name where the first is
abbrev pub IsAlike : Bool → Connection → Type 0
IsAlike named c = IsConnection c × (is_named c ≡ named)

-- connections are all by position, or all by name; of no symbols there are none (12.3.5, 12.3.6)
abbrev pub AreConnections : Connections → Type 0
AreConnections Unconnected = Unit {0}
AreConnections (Connected first []) = IsConnection first × (is_blank first ≡ false)
AreConnections (Connected first (f ∷ fs)) = IsConnection first × AreFurther (IsAlike (is_named first)) (f ∷ fs)

-- how deep the expression of a connection nests (profile)
abbrev pub connection_height : Connection → ℕ
connection_height (Ordered value) = value_height value
connection_height (Named period port opening value closing) = value_height value

-- how deep the deepest expression of connections nests (profile)
abbrev pub connections_height : Connections → ℕ
connections_height Unconnected = 0
connections_height (Connected first further) = max (connection_height first) (further_height connection_height further)

-- ---- declarations

-- what a declaration declares: nets or regs, with a range or without (4.2.1, 4.2.2); local parameters (4.10.2); continuous assignments
-- (6.1.2); instances of a module, by its name (12.1.2)
pub data Declaration : Type 0 where
  Nets : (keyword : ℕ) → Option Range → Declaration
  Regs : (keyword : ℕ) → Option Range → Declaration
  LocalParameters : (keyword : ℕ) → Declaration
  Assignments : (keyword : ℕ) → Declaration
  Instances : (name : ℕ) → Declaration

-- one of what is declared: a name; a name with a value, which a continuous assignment gives it; an instance
pub data Declarator : Type 0 where
  Plain : (name : ℕ) → Declarator
  Valued : (name equals : ℕ) → Expr → Declarator
  Instance : (name opening : ℕ) → Connections → (closing : ℕ) → Declarator

-- the symbols before the first declarator, and then these
abbrev pub declaration_text : Declaration → List Symbol → List Symbol
declaration_text (Nets place range) rest = symbol_at (symbol.Keyword keyword.Wire) place ∷ width_text range rest
declaration_text (Regs place range) rest = symbol_at (symbol.Keyword keyword.Reg) place ∷ width_text range rest
declaration_text (LocalParameters place) rest = symbol_at (symbol.Keyword keyword.Localparam) place ∷ rest
declaration_text (Assignments place) rest = symbol_at (symbol.Keyword keyword.Assign) place ∷ rest
declaration_text (Instances name) rest = symbol_at symbol.Name name ∷ rest

-- a declarator's symbols, and then these
abbrev pub declarator_text : Declarator → List Symbol → List Symbol
declarator_text (Plain name) rest = symbol_at symbol.Name name ∷ rest
declarator_text (Valued name equals value) rest =
    symbol_at symbol.Name name ∷ symbol_at (symbol.Punctuator punctuator.Equals) equals ∷ expr_text value rest
declarator_text (Instance name opening connections closing) rest =
    symbol_at symbol.Name name ∷ symbol_at (symbol.Punctuator punctuator.LeftParenthesis) opening
    ∷ connections_text connections (symbol_at (symbol.Punctuator punctuator.RightParenthesis) closing ∷ rest)

-- the range of a declaration is one (4.3.1)
abbrev pub IsDeclaration : Declaration → Type 0
IsDeclaration (Nets place range) = IfSome range IsRange
IsDeclaration (Regs place range) = IfSome range IsRange
IsDeclaration _ = Unit {0}

-- which declarators a declaration has: a net may have a value; a reg has none; that of a local parameter is a literal with a
-- size (profile)
abbrev pub IsDeclarator : Declaration → Declarator → Type 0
IsDeclarator (Nets place range) (Plain name) = Unit {0}
IsDeclarator (Nets place range) (Valued name equals value) = IsExpr value
IsDeclarator (Regs place range) (Plain name) = Unit {0}
IsDeclarator (LocalParameters place) (Valued name equals value) = IsExpr value × (is_sized value ≡ true)
IsDeclarator (Assignments place) (Valued name equals value) = IsExpr value
IsDeclarator (Instances module_name) (Instance name opening connections closing) = AreConnections connections
IsDeclarator _ _ = ⊥

-- how deep the deepest expression of a declarator nests (profile)
abbrev pub declarator_height : Declarator → ℕ
declarator_height (Plain name) = 0
declarator_height (Valued name equals value) = expr_depth value
declarator_height (Instance name opening connections closing) = connections_height connections

-- ---- items

-- an item of a module: a declaration with its declarators, an initial construct (9.9.1), or an always construct (9.9.2)
pub data Item : Type 0 where
  Declares : Declaration → Declarator → List (Further Declarator) → (semicolon : ℕ) → Item
  Initial : (place : ℕ) → Stmt → Item
  Always : (place : ℕ) → Stmt → Item

-- an item's symbols, and then these (12.1)
abbrev pub item_text : Item → List Symbol → List Symbol
item_text (Declares declaration first further semicolon) rest =
    declaration_text declaration (declarator_text first
    (further_text declarator_text further (symbol_at (symbol.Punctuator punctuator.Semicolon) semicolon ∷ rest)))
item_text (Initial place body) rest = symbol_at (symbol.Keyword keyword.Initial) place ∷ stmt_text body rest
item_text (Always place body) rest = symbol_at (symbol.Keyword keyword.Always) place ∷ stmt_text body rest

-- the symbols of a module's items, and then these (12.1)
abbrev pub items_text : List Item → List Symbol → List Symbol
items_text [] rest = rest
items_text (i ∷ is) rest = item_text i (items_text is rest)

-- the parts of an item belong together (4.2, 6.1.2, 12.1.2)
abbrev pub IsItem : Item → Type 0
IsItem (Declares declaration first further semicolon) =
    IsDeclaration declaration × IsDeclarator declaration first × AreFurther (IsDeclarator declaration) further
IsItem (Initial place body) = IsStmt body
IsItem (Always place body) = IsStmt body

-- the parts of each of a module's items belong together
abbrev pub AreItems : List Item → Type 0
AreItems [] = Unit {0}
AreItems (i ∷ is) = IsItem i × AreItems is

-- how deep the statement of an item nests, 0 without one (profile)
abbrev pub item_depth : Item → ℕ
item_depth (Declares declaration first further semicolon) = 0
item_depth (Initial place body) = stmt_depth body
item_depth (Always place body) = stmt_depth body

-- how deep the deepest statement of a module nests (profile)
abbrev pub items_depth : List Item → ℕ
items_depth [] = 0
items_depth (i ∷ is) = max (item_depth i) (items_depth is)

-- how deep the deepest expression of an item nests, 0 without one (profile)
abbrev pub item_height : Item → ℕ
item_height (Declares declaration first further semicolon) = max (declarator_height first) (further_height declarator_height further)
item_height (Initial place body) = stmt_height body
item_height (Always place body) = stmt_height body

-- how deep the deepest expression of a module nests (profile)
abbrev pub items_height : List Item → ℕ
items_height [] = 0
items_height (i ∷ is) = max (item_height i) (items_height is)

-- ---- ports

-- the direction of a port, and what it declares: a net, with `wire` or without, or a reg (12.3.3)
pub data Direction : Type 0 where
  Input : (keyword : ℕ) → (wire : Option ℕ) → Direction
  Output : (keyword : ℕ) → (wire : Option ℕ) → Direction
  OutputReg : (keyword reg : ℕ) → Direction

-- a port: with its direction and perhaps a range, or by its name alone, and then as the port before it (12.3.3)
pub data Port : Type 0 where
  Declared : Direction → Option Range → (name : ℕ) → Port
  Bare : (name : ℕ) → Port

-- a port, and further ones (12.3.1)
pub record PortList : Type 0 where
  pub first : Port
  pub further : List (Further Port)

-- what stands after a module's name: nothing, or parentheses with ports or without (12.3.1)
pub data Header : Type 0 where
  NoHeader : Header
  Ports : (opening : ℕ) → Option PortList → (closing : ℕ) → Header

-- the keyword `wire`, if it is there, and then these symbols (12.3.3)
abbrev pub wire_text : Option ℕ → List Symbol → List Symbol
wire_text None rest = rest
wire_text (Some place) rest = symbol_at (symbol.Keyword keyword.Wire) place ∷ rest

-- a direction's symbols, and then these (12.3.3)
abbrev pub direction_text : Direction → List Symbol → List Symbol
direction_text (Input place wire) rest = symbol_at (symbol.Keyword keyword.Input) place ∷ wire_text wire rest
direction_text (Output place wire) rest = symbol_at (symbol.Keyword keyword.Output) place ∷ wire_text wire rest
direction_text (OutputReg place reg) rest =
    symbol_at (symbol.Keyword keyword.Output) place ∷ symbol_at (symbol.Keyword keyword.Reg) reg ∷ rest

-- a port's symbols, and then these (12.3.3)
abbrev pub port_text : Port → List Symbol → List Symbol
port_text (Declared direction range name) rest = direction_text direction (width_text range (symbol_at symbol.Name name ∷ rest))
port_text (Bare name) rest = symbol_at symbol.Name name ∷ rest

-- the symbols of ports, if there are any, and then these (12.3.1)
abbrev pub ports_text : Option PortList → List Symbol → List Symbol
ports_text None rest = rest
ports_text (Some ports) rest = port_text ports.first (further_text port_text ports.further rest)

-- the symbols after a module's name, and then these (12.3.1)
abbrev pub header_text : Header → List Symbol → List Symbol
header_text NoHeader rest = rest
header_text (Ports opening ports closing) rest =
    symbol_at (symbol.Punctuator punctuator.LeftParenthesis) opening
    ∷ ports_text ports (symbol_at (symbol.Punctuator punctuator.RightParenthesis) closing ∷ rest)

-- a port has a direction of its own
abbrev pub is_declared : Port → Bool
is_declared (Declared direction range name) = true
is_declared (Bare name) = false

-- the range of a port is one (4.3.1)
abbrev pub IsPort : Port → Type 0
IsPort (Declared direction range name) = IfSome range IsRange
IsPort (Bare name) = Unit {0}

-- the first port has a direction of its own (profile)
abbrev pub ArePorts : Option PortList → Type 0
ArePorts None = Unit {0}
ArePorts (Some ports) = (is_declared ports.first ≡ true) × IsPort ports.first × AreFurther IsPort ports.further

-- the ports of a module are some
abbrev pub IsHeader : Header → Type 0
IsHeader NoHeader = Unit {0}
IsHeader (Ports opening ports closing) = ArePorts ports

-- ---- modules

-- a module definition: the places of its terminals, its ports and its items (12.1)
pub record Module : Type 0 where
  pub keyword : ℕ
  pub name : ℕ
  pub header : Header
  pub semicolon : ℕ
  pub items : List Item
  pub endmodule : ℕ

-- a module's symbols, and then these (12.1)
abbrev pub module_text : Module → List Symbol → List Symbol
module_text m rest =
    symbol_at (symbol.Keyword keyword.Module) m.keyword ∷ symbol_at symbol.Name m.name
    ∷ header_text m.header (symbol_at (symbol.Punctuator punctuator.Semicolon) m.semicolon
    ∷ items_text m.items (symbol_at (symbol.Keyword keyword.Endmodule) m.endmodule ∷ rest))

-- the parts of a module belong together
abbrev pub IsModule : Module → Type 0
IsModule m = IsHeader m.header × AreItems m.items

-- a source is its modules, in order (12.1)
abbrev pub Derivation : Type 0
Derivation = List Module

-- all symbols of a source (12.1)
abbrev pub source_text : Derivation → List Symbol
source_text [] = []
source_text (m ∷ ms) = module_text m (source_text ms)

-- the parts of each module of a source belong together
abbrev pub IsSource : Derivation → Type 0
IsSource [] = Unit {0}
IsSource (m ∷ ms) = IsModule m × IsSource ms

-- how deep the deepest statement of a source nests (profile)
abbrev pub source_depth : Derivation → ℕ
source_depth [] = 0
source_depth (m ∷ ms) = max (items_depth m.items) (source_depth ms)

-- how deep the deepest expression of a source nests (profile)
abbrev pub source_height : Derivation → ℕ
source_height [] = 0
source_height (m ∷ ms) = max (items_height m.items) (source_height ms)

-- the symbols are those of this derivation, whose statements, and whose expressions, nest at most so deep (profile)
pub record Derives (limit : ℕ) (d : Derivation) (symbols : List Symbol) : Type 0 where
  pub spelled : symbols ≡ source_text d
  pub is : IsSource d
  pub fits : source_depth d ≤ limit
  pub shallow : source_height d ≤ limit

-- the symbols are those of this derivation (annex A), within the limit of 64 (profile)
abbrev pub IsDerivation : Derivation → List Symbol → Type 0
IsDerivation d symbols = Derives DEPTH_LIMIT d symbols

-- Where the parts of a derivation stand in its source: its statements, its expressions, its connections and its items.
use Rattle.std.specs.Prelude.{◌≡◌, ◌≤◌, ◌<◌, ℕ, ◌+◌, List, [], ◌∷◌, ◌++◌, length, map, slice_get, Option, Some, None}
use Rattle.vp_source.specs.declared.expression.Expression as node
use Rattle.vp_source.specs.ExprGrammar.{Expr}
use Rattle.vp_source.specs.ExprLayout.{put_expr}
use Rattle.vp_source.specs.StmtGrammar.{Stmt}
use Rattle.vp_source.specs.StmtLayout.{Lists, put_stmt}
use Rattle.vp_source.specs.declared.source.Connection as connection
use Rattle.vp_source.specs.declared.source.Item as source
use Rattle.vp_source.specs.declared.source.Item.TheVariants as item
use Rattle.vp_source.specs.declared.source.Module as module_of
use Rattle.vp_source.specs.declared.source.Source.{Source}
use Rattle.vp_source.specs.Grammar.{AreFurther, Connection, Ordered, Named, Connections, Unconnected, Connected, Declaration, Nets, LocalParameters, Assignments, Instances, Declarator, Valued, Instance, Item, Declares, Initial, Always, Module, Derivation}

-- ---- statements

-- the derivation of a statement stands at a place of a source, in a module: its parts are laid out after others, its statements and
-- expressions in the spans of the module, and the whole has this place
pub record StatementStandsAt (text : Source) (m : module_of.Module) (place : ℕ) (s : Stmt) : Type 0 where
  pub number : ℕ
  pub one : slice_get text.modules number ≡ Some m
  pub before : Lists
  pub following : Lists
  pub statements : text.statements ≡ (put_stmt s before).1.statements ++ following.statements
  pub expressions : text.expressions ≡ (put_stmt s before).1.expressions ++ following.expressions
  pub terms : text.terms ≡ (put_stmt s before).1.terms ++ following.terms
  pub choices : text.choices ≡ (put_stmt s before).1.choices ++ following.choices
  pub there : place ≡ (put_stmt s before).0
  pub statements_from : m.statements.first ≤ length before.statements
  pub statements_to : length (put_stmt s before).1.statements ≤ m.statements.end
  pub expressions_from : m.expressions.first ≤ length before.expressions
  pub expressions_to : length (put_stmt s before).1.expressions ≤ m.expressions.end

-- a module has an item for a procedure, which names the place where the procedure's statement stands (clause 9.9)
pub record ProcedureStands (text : Source) (m : module_of.Module) (construct : ℕ → source.Item) (body : Stmt) : Type 0 where
  pub number : ℕ
  pub from : m.items.first ≤ number
  pub to : number < m.items.end
  pub place : ℕ
  pub is : slice_get text.items number ≡ Some (construct place)
  pub stands : StatementStandsAt text m place body

-- ---- expressions

-- the derivation of an expression stands at a place of a source, in a module: its parts are laid out after others, all of them in the
-- span of the module, and the whole has this place (clause 5)
pub record ExpressionStandsAt (text : Source) (m : module_of.Module) (place : ℕ) (e : Expr) : Type 0 where
  pub number : ℕ
  pub one : slice_get text.modules number ≡ Some m
  pub before : List node.Expression
  pub following : List node.Expression
  pub laid : text.expressions ≡ (put_expr e before).1 ++ following
  pub there : place ≡ (put_expr e before).0
  pub from : m.expressions.first ≤ length before
  pub to : place < m.expressions.end

-- an expression that may be missing stands at a place; the place is missing where the expression is (clause 12.3.5)
abbrev pub OptionStandsAt : Source → module_of.Module → (place : Option ℕ) → Option Expr → Type 0
OptionStandsAt text m None None = Unit {0}
OptionStandsAt text m (Some place) (Some e) = ExpressionStandsAt text m place e
OptionStandsAt text m _ _ = ⊥

-- a module has an item for a value, which names the place where the value stands (clauses 4.10.2 and 6.1)
pub record ValueStands (text : Source) (m : module_of.Module) (construct : ℕ → source.Item) (value : Expr) : Type 0 where
  pub number : ℕ
  pub from : m.items.first ≤ number
  pub to : number < m.items.end
  pub place : ℕ
  pub is : slice_get text.items number ≡ Some (construct place)
  pub stands : ExpressionStandsAt text m place value

-- ---- instances

-- the name of the port to which a connection is; a connection by position has none (clauses 12.3.5 and 12.3.6)
abbrev pub connection_port : Connection → Option ℕ
connection_port (Ordered value) = None
connection_port (Named period port opening value closing) = Some port

-- the expression of a connection, if it has one (clauses 12.3.5 and 12.3.6)
abbrev pub connection_value : Connection → Option Expr
connection_value (Ordered value) = value
connection_value (Named period port opening value closing) = value

-- the source's connection of this number has the port of a connection of the text, and names the place where its expression stands
-- (clauses 12.3.5 and 12.3.6)
pub record ConnectionStands (text : Source) (m : module_of.Module) (number : ℕ) (c : Connection) : Type 0 where
  pub one : connection.Connection
  pub is : slice_get text.connections number ≡ Some one
  pub port : one.port ≡ connection_port c
  pub stands : OptionStandsAt text m one.value (connection_value c)

-- the connections of an instance, in the order of the text (clause 12.1.2)
abbrev pub connections_of : Connections → List Connection
connections_of Unconnected = []
connections_of (Connected first further) = first ∷ map (λ f. f.part) further

-- a module has an item for an instance of a definition, which names where the source's connections for it begin and end: these are as
-- many as in the text, and each connection of the text stands as the one with its position among them (clause 12.1.2)
pub record InstanceStands (text : Source) (m : module_of.Module) (name definition : ℕ) (connections : Connections) : Type 0 where
  pub number : ℕ
  pub from : m.items.first ≤ number
  pub to : number < m.items.end
  pub first : ℕ
  pub end : ℕ
  pub is : slice_get text.items number ≡ Some (item.Instance name definition first end)
  pub count : end ≡ first + length (connections_of connections)
  pub stand : (position : ℕ) (c : Connection)
      → slice_get (connections_of connections) position ≡ Some c
      → ConnectionStands text m (first + position) c

-- ---- items

-- a declarator of a declaration stands in a module of the source, if it has a value or connections: the value of a net or of a continuous
-- assignment as that of an assignment (clause 6.1), that of a local parameter (clause 4.10.2), and an instance (clause 12.1.2)
abbrev pub DeclaratorStands : Source → module_of.Module → Declaration → Declarator → Type 0
DeclaratorStands text m (Nets keyword range) (Valued name equals value) =
    ValueStands text m (item.Assignment name) value
DeclaratorStands text m (Assignments keyword) (Valued name equals value) =
    ValueStands text m (item.Assignment name) value
DeclaratorStands text m (LocalParameters keyword) (Valued name equals value) =
    ValueStands text m (item.LocalParameter name) value
DeclaratorStands text m (Instances definition) (Instance name opening connections closing) =
    InstanceStands text m name definition connections
DeclaratorStands text m _ _ = Unit {0}

-- an item of a text stands in a module of the source: each of its declarators (clauses 4.2, 6.1 and 12.1.2), or its procedure (clause 9.9)
abbrev pub ItemStands : Source → module_of.Module → Item → Type 0
ItemStands text m (Declares declaration first further semicolon) =
    DeclaratorStands text m declaration first × AreFurther (DeclaratorStands text m declaration) further
ItemStands text m (Initial keyword body) = ProcedureStands text m (item.Initial keyword) body
ItemStands text m (Always keyword body) = ProcedureStands text m (item.Always keyword) body

-- each item of a derivation stands in the module of the source that has the number of its own (clause 12.1)
abbrev pub ItemsStand : Source → Derivation → Type 0
ItemsStand text d =
    (number place : ℕ) (told : Module) (m : module_of.Module) (i : Item)
    → slice_get d number ≡ Some told → slice_get text.modules number ≡ Some m
    → slice_get told.items place ≡ Some i → ItemStands text m i

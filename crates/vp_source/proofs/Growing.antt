-- A derivation is laid out after what is there: each list keeps what it had, and modules follow each other without a gap.
use Rattle.std.proofs.Common.{◌≡◌, ℕ, ◌≤◌, List, [], ◌∷◌, length, map, Option, Some, None, option_map, refl, sym, subst}
use Rattle.vp_lex.specs.declared.token.Token.{Token}
use Rattle.vp_lex.specs.declared.token.Punctuator.TheVariants as punctuator
use Rattle.vp_source.specs.declared.symbol.Symbol.{Symbol}
use Rattle.vp_source.specs.declared.symbol.SymbolKind.TheVariants as symbol
use Rattle.vp_source.specs.Kinds.{symbol_at}
use Rattle.vp_source.specs.ExprGrammar.{Expr}
use Rattle.vp_source.specs.declared.statement.Span.{Span}
use Rattle.vp_source.specs.StmtGrammar.{Stmt}
use Rattle.vp_source.specs.StmtLayout as layout
use Rattle.vp_source.specs.StmtLayout.{put_stmt, put_value}
use Rattle.vp_source.specs.declared.source.Item as source
use Rattle.vp_source.specs.declared.source.Item.TheVariants as item_of
use Rattle.vp_source.specs.declared.source.Module as module_of
use Rattle.vp_source.specs.declared.source.Source.{Source}
use Rattle.vp_source.specs.Grammar.{Further, Connection, Ordered, Named, Connections, Unconnected, Connected, value_text, Declaration, Nets, Regs, LocalParameters, Assignments, Instances, Declarator, Plain, Valued, Instance, Item, Declares, Initial, Always, Port, Header, NoHeader, Ports, Module, Derivation}
use Rattle.vp_source.specs.Layout.{IsSourceOf, Lists, PortType, comma_at, first_place, lists_of, no_parts, port_name, port_type, put_connected, put_connection, put_connection_by, put_connections, put_declared, put_declarator, put_further, put_header, put_item, put_items, put_module, put_modules, put_port, put_ports, put_procedure, scalar_input, with_item}
use Rattle.vp_source.specs.Whole.{AreGapless, AreWhole}
use Rattle.vp_source.proofs.GrowingParts.{Extends, Grows, longer, onward, pushed, same, stmt_grows, twice, unchanged, value_grows}

-- lists that have others at their heads
pub record AllGrow (first all : Lists) : Type 0 where
  pub items : Extends first.items all.items
  pub connections : Extends first.connections all.connections
  pub parts : Grows first.parts all.parts

pub all_kept : (lists : Lists) → AllGrow lists lists
all_kept lists = record { items = same lists.items; connections = same lists.connections; parts = unchanged lists.parts }

pub further_on : {a b c : Lists} → AllGrow a b → AllGrow b c → AllGrow a c
further_on h k = record {
  items = twice h.items k.items;
  connections = twice h.connections k.connections;
  parts = onward h.parts k.parts;
}

-- ---- items

connection_by_grows : (place : ℕ) (port : Option ℕ) (value : Option Expr) (lists : Lists) → AllGrow lists (put_connection_by place port value lists)
connection_by_grows place port None lists = record {
  items = same lists.items;
  connections = pushed lists.connections _;
  parts = unchanged lists.parts;
}
connection_by_grows place port (Some e) lists = record {
  items = same lists.items;
  connections = pushed lists.connections _;
  parts = value_grows e lists.parts;
}

pub connection_grows : (following : Symbol) (c : Connection) (lists : Lists) → AllGrow lists (put_connection following c lists)
connection_grows following (Ordered value) lists = connection_by_grows (first_place (value_text value (following ∷ []))) None value lists
connection_grows following (Named period port opening value closing) lists =
    connection_by_grows (first_place (value_text value (symbol_at (symbol.Punctuator punctuator.RightParenthesis) closing ∷ []))) (Some port) value lists

pub connected_grows : (closing : ℕ) (c : Connection) (fs : List (Further Connection)) (lists : Lists) → AllGrow lists (put_connected closing c fs lists)
connected_grows closing c [] lists = connection_grows (symbol_at (symbol.Punctuator punctuator.RightParenthesis) closing) c lists
connected_grows closing c (f ∷ fs) lists =
    further_on (connection_grows (comma_at f.comma) c lists) (connected_grows closing f.part fs (put_connection (comma_at f.comma) c lists))

pub connections_grow : (closing : ℕ) (cs : Connections) (lists : Lists) → AllGrow lists (put_connections closing cs lists)
connections_grow closing Unconnected lists = all_kept lists
connections_grow closing (Connected first further) lists = connected_grows closing first further lists

-- one more item
pub with_item_grows : (i : source.Item) (lists : Lists) → AllGrow lists (with_item i lists)
with_item_grows i lists = record { items = pushed lists.items i; connections = same lists.connections; parts = unchanged lists.parts }

-- the parts have grown
pub parts_grow : (lists : Lists) (parts : layout.Lists) → Grows lists.parts parts → AllGrow lists (record lists { parts = parts })
parts_grow lists parts h = record { items = same lists.items; connections = same lists.connections; parts = h }

-- one more item after a value
valued_grows : (i : ℕ → source.Item) (e : Expr) (lists : Lists) → (let v = put_value e lists.parts in AllGrow lists (with_item (i v.0) (record lists { parts = v.1 })))
valued_grows i e lists =
    let v = put_value e lists.parts in
    further_on (parts_grow lists v.1 (value_grows e lists.parts)) (with_item_grows (i v.0) (record lists { parts = v.1 }))

pub declarator_grows : (declaration : Declaration) (x : Declarator) (lists : Lists) → AllGrow lists (put_declarator declaration x lists)
declarator_grows (Nets place range) (Plain name) lists = with_item_grows _ lists
declarator_grows (Nets place range) (Valued name equals value) lists =
    let v = put_value value lists.parts in
    let before : Lists = record lists { parts = v.1 } in
    let net = item_of.Net name (option_map put_declared range) in
    further_on (parts_grow lists v.1 (value_grows value lists.parts)) (further_on (with_item_grows net before) (with_item_grows (item_of.Assignment name v.0) (with_item net before)))
declarator_grows (Regs place range) (Plain name) lists = with_item_grows _ lists
declarator_grows (LocalParameters place) (Valued name equals value) lists = valued_grows (item_of.LocalParameter name) value lists
declarator_grows (Assignments place) (Valued name equals value) lists = valued_grows (item_of.Assignment name) value lists
declarator_grows (Instances definition) (Instance name opening connections closing) lists =
    further_on (connections_grow closing connections lists) (with_item_grows _ (put_connections closing connections lists))
declarator_grows _ _ lists = all_kept lists

pub further_grow : (declaration : Declaration) (fs : List (Further Declarator)) (lists : Lists) → AllGrow lists (put_further declaration fs lists)
further_grow declaration [] lists = all_kept lists
further_grow declaration (f ∷ fs) lists = further_on (declarator_grows declaration f.part lists) (further_grow declaration fs (put_declarator declaration f.part lists))

procedure_grows : (construct : ℕ → source.Item) (body : Stmt) (lists : Lists) → AllGrow lists (put_procedure construct body lists)
procedure_grows construct body lists =
    let b = put_stmt body lists.parts in
    further_on (parts_grow lists b.1 (stmt_grows body lists.parts)) (with_item_grows (construct b.0) (record lists { parts = b.1 }))

pub item_grows : (i : Item) (lists : Lists) → AllGrow lists (put_item i lists)
item_grows (Declares declaration first further semicolon) lists =
    further_on (declarator_grows declaration first lists) (further_grow declaration further (put_declarator declaration first lists))
item_grows (Initial place body) lists = procedure_grows (item_of.Initial place) body lists
item_grows (Always place body) lists = procedure_grows (item_of.Always place) body lists

pub items_grow : (is : List Item) (lists : Lists) → AllGrow lists (put_items is lists)
items_grow [] lists = all_kept lists
items_grow (i ∷ is) lists = further_on (item_grows i lists) (items_grow is (put_item i lists))

-- ---- modules

ports_grow : (before : PortType) (fs : List (Further Port)) (lists : Lists) → AllGrow lists (put_ports before fs lists)
ports_grow before [] lists = all_kept lists
ports_grow before (f ∷ fs) lists =
    let type = port_type before f.part in
    let x : Lists = put_port type (port_name f.part) lists in
    further_on (with_item_grows _ lists) (ports_grow type fs x)

pub header_grows : (h : Header) (lists : Lists) → AllGrow lists (put_header h lists)
header_grows NoHeader lists = all_kept lists
header_grows (Ports opening None closing) lists = all_kept lists
header_grows (Ports opening (Some ports) closing) lists =
    let type = port_type scalar_input ports.first in
    further_on (with_item_grows _ lists) (ports_grow type ports.further (put_port type (port_name ports.first) lists))

pub module_grows : (m : Module) (lists : Lists) → AllGrow lists (put_module m lists).1
module_grows m lists = further_on (header_grows m.header lists) (items_grow m.items (put_header m.header lists))

pub modules_grow : (ms : List Module) (lists : Lists) → AllGrow lists (put_modules ms lists).1
modules_grow [] lists = all_kept lists
modules_grow (m ∷ ms) lists = further_on (module_grows m lists) (modules_grow ms (put_module m lists).1)

-- a list of which each module holds the part after that of the module before it, and which becomes no shorter
module _ (span : module_of.Module → Span) (size : Lists → ℕ)
    (starts : (m : Module) (lists : Lists) → (span (put_module m lists).0).first ≡ size lists)
    (ends : (m : Module) (lists : Lists) → (span (put_module m lists).0).end ≡ size (put_module m lists).1)
    (grows : (m : Module) (lists : Lists) → size lists ≤ size (put_module m lists).1) where
  gapless : (ms : List Module) (lists : Lists) → AreGapless (size lists) (map span (put_modules ms lists).0) (size (put_modules ms lists).1)
  gapless [] lists = refl
  gapless (m ∷ ms) lists = rw (starts m lists, ends m lists) (refl, grows m lists, gapless ms (put_module m lists).1)

  gapless_source : (text : List ℕ) (tokens : List Token) (d : Derivation) (s : Source) → IsSourceOf text tokens d s → AreGapless (size no_parts) (map span s.modules) (size (lists_of s))
  gapless_source text tokens d s is =
      subst (λ (x : List module_of.Module × Lists). AreGapless (size no_parts) (map span x.0) (size x.1)) (sym is.parts) (gapless d no_parts)

-- the source of a derivation is whole
pub source_whole : (text : List ℕ) (tokens : List Token) (d : Derivation) (s : Source) → IsSourceOf text tokens d s → AreWhole s
source_whole text tokens d s is = record {
  expressions = gapless_source (λ m. m.expressions) (λ l. length l.parts.expressions) (λ m l. refl) (λ m l. refl) (λ m l. longer (module_grows m l).parts.expressions) text tokens d s is;
  statements = gapless_source (λ m. m.statements) (λ l. length l.parts.statements) (λ m l. refl) (λ m l. refl) (λ m l. longer (module_grows m l).parts.statements) text tokens d s is;
  terms = gapless_source (λ m. m.terms) (λ l. length l.parts.terms) (λ m l. refl) (λ m l. refl) (λ m l. longer (module_grows m l).parts.terms) text tokens d s is;
  choices = gapless_source (λ m. m.choices) (λ l. length l.parts.choices) (λ m l. refl) (λ m l. refl) (λ m l. longer (module_grows m l).parts.choices) text tokens d s is;
}

-- The items of a derivation stand in its source.
use Rattle.std.proofs.Common.{◌≡◌, ◌∙◌, ℕ, zero, suc, ◌+◌, ◌≤◌, ◌<◌, List, [], ◌∷◌, ◌++◌, length, slice_get, Some, None, option_map, refl, sym, subst, ap, append_assoc, arith}
use Rattle.std.proofs.lemmas.List.{length-append, length_push}
use Rattle.std.proofs.lemmas.Option.{slice_get-get_or}
use Rattle.std.proofs.Math.Seq.{get_or-append_seam}
use Rattle.vp_lex.specs.declared.token.Token.{Token}
use Rattle.vp_lex.specs.declared.token.Punctuator.TheVariants as punctuator
use Rattle.vp_source.specs.declared.symbol.Symbol.{Symbol}
use Rattle.vp_source.specs.declared.symbol.SymbolKind.TheVariants as symbol
use Rattle.vp_source.specs.Kinds.{symbol_at}
use Rattle.vp_source.specs.ExprGrammar.{Expr}
use Rattle.vp_source.specs.StmtGrammar.{Stmt}
use Rattle.vp_source.specs.StmtLayout as layout
use Rattle.vp_source.specs.StmtLayout.{put_stmt, put_value}
use Rattle.vp_source.specs.declared.source.Connection as connection
use Rattle.vp_source.specs.declared.source.Item as source
use Rattle.vp_source.specs.declared.source.Item.TheVariants as item
use Rattle.vp_source.specs.declared.source.Module as module_of
use Rattle.vp_source.specs.declared.source.Source.{Source}
use Rattle.vp_source.specs.Grammar.{AreFurther, Further, Connection, Ordered, Named, Connections, Unconnected, Connected, Declaration, Nets, LocalParameters, Assignments, Instances, Declarator, Valued, Instance, Item, Declares, Initial, Always, Module, Derivation}
use Rattle.vp_source.specs.Layout.{IsSourceOf, Lists, comma_at, lists_of, no_parts, put_connected, put_connection, put_connections, put_declared, put_declarator, put_further, put_header, put_item, put_items, put_module, put_modules, put_procedure, with_connection, with_item}
use Rattle.vp_source.specs.Standing.{ConnectionStands, DeclaratorStands, ExpressionStandsAt, InstanceStands, ItemStands, ItemsStand, ProcedureStands, StatementStandsAt, ValueStands, connections_of}
use Rattle.vp_source.proofs.Growing.{AllGrow, all_kept, connected_grows, connection_grows, connections_grow, declarator_grows, further_grow, further_on, header_grows, item_grows, items_grow, modules_grow, parts_grow, with_item_grows}
use Rattle.vp_source.proofs.GrowingParts.{Extends, Grows, expr_last, longer, onward, stmt_grows, value_grows}

-- what stands after so many
stands_after : {X : Type 0} (xs : List X) (y : X) (ys : List X) → slice_get (xs ++ y ∷ ys) (length xs) ≡ Some y
stands_after xs y ys =
    slice_get-get_or (xs ++ y ∷ ys) (length xs) y (let n = length-append xs (y ∷ ys) in omega arith)
    ∙ ap (λ x. Some x) (get_or-append_seam xs y ys y)

-- an element stands after a list, in each list that has both at its head
stands_in : {X : Type 0} (xs : List X) (y : X) (all : List X) → Extends (xs ++ y ∷ []) all → slice_get all (length xs) ≡ Some y
stands_in xs y all h =
    ap (λ l. slice_get l (length xs)) (h.is ∙ append_assoc xs (y ∷ []) h.more)
    ∙ stands_after xs y h.more

-- the module of a number lies after some lists, and others after it
record AtModule (told : Module) (m : module_of.Module) (all : Lists) : Type 0 where
  before : Lists
  is : m ≡ (put_module told before).0
  more : AllGrow (put_module told before).1 all

at_module : (ms : List Module) (lists : Lists) (number : ℕ) (told : Module) (m : module_of.Module) → slice_get ms number ≡ Some told → slice_get (put_modules ms lists).0 number ≡ Some m → AtModule told m (put_modules ms lists).1
at_module [] lists number told m h k = absurd cc
at_module (x ∷ ms) lists zero told m h k =
    let same : x ≡ told = cc in
    let made : (put_module x lists).0 ≡ m = cc in
    subst (λ (y : Module). AtModule y m (put_modules ms (put_module x lists).1).1) same
    (record { before = lists; is = sym made; more = modules_grow ms (put_module x lists).1 })
at_module (x ∷ ms) lists (suc number) told m h k = at_module ms (put_module x lists).1 number told m h k

-- so does an item of a module
record AtItem (i : Item) (first all : Lists) : Type 0 where
  before : Lists
  low : AllGrow first before
  more : AllGrow (put_item i before) all

at_item : (is : List Item) (lists : Lists) (place : ℕ) (i : Item) → slice_get is place ≡ Some i → AtItem i lists (put_items is lists)
at_item [] lists place i h = absurd cc
at_item (x ∷ is) lists zero i h =
    let same : x ≡ i = cc in
    subst (λ (y : Item). AtItem y lists (put_items is (put_item x lists))) same
    (record { before = lists; low = all_kept lists; more = items_grow is (put_item x lists) })
at_item (x ∷ is) lists (suc place) i h =
    let rest = at_item is (put_item x lists) place i h in
    record { before = rest.before; low = further_on (item_grows x lists) rest.low; more = rest.more }

-- ---- connections, counted

-- a connection is one more
connection_count : (following : Symbol) (c : Connection) (lists : Lists) → length (put_connection following c lists).connections ≡ length lists.connections + 1
connection_count following (Ordered None) lists = length_push lists.connections _
connection_count following (Ordered (Some e)) lists = length_push lists.connections _
connection_count following (Named period port opening None closing) lists = length_push lists.connections _
connection_count following (Named period port opening (Some e) closing) lists = length_push lists.connections _

-- a connection and further ones are as many more
connected_count : (closing : ℕ) (c : Connection) (fs : List (Further Connection)) (lists : Lists) → length (put_connected closing c fs lists).connections ≡ length lists.connections + length (connections_of (Connected c fs))
connected_count closing c [] lists = connection_count (symbol_at (symbol.Punctuator punctuator.RightParenthesis) closing) c lists
connected_count closing c (f ∷ fs) lists =
    let one = connection_count (comma_at f.comma) c lists in
    let others = connected_count closing f.part fs (put_connection (comma_at f.comma) c lists) in
    omega arith

-- connections are as many more
connections_count : (closing : ℕ) (cs : Connections) (lists : Lists) → length (put_connections closing cs lists).connections ≡ length lists.connections + length (connections_of cs)
connections_count closing Unconnected lists = omega arith
connections_count closing (Connected first further) lists = connected_count closing first further lists

-- ---- a module of a source

module _ (text : Source) (number : ℕ) (told : Module) (m : module_of.Module) (one : slice_get text.modules number ≡ Some m) (at : AtModule told m (lists_of text)) where
  -- the lists with the ports of the module
  abbrev header : Lists
  header = put_header told.header at.before

  -- the lists with its items too
  abbrev after : Lists
  after = put_items told.items header

  -- an item in the module's span
  record HasItem (i : source.Item) : Type 0 where
    place : ℕ
    from : m.items.first ≤ place
    to : place < m.items.end
    is : slice_get text.items place ≡ Some i

  -- an item that is laid out among those of the module
  has_item : (i : source.Item) (before : Lists) → AllGrow header before → AllGrow (with_item i before) after → HasItem i
  has_item i before low more =
      let all = further_on more at.more in
      let start = further_on (header_grows told.header at.before) low in
      let long = length_push before.items i in
      let items_first = ap (λ (y : module_of.Module). y.items.first) at.is in
      let items_end = ap (λ (y : module_of.Module). y.items.end) at.is in
      let items_low = longer start.items in
      let items_high = longer more.items in
      record { place = length before.items; from = omega arith; to = omega arith; is = stands_in before.items i text.items all.items }

  -- ---- procedures

  -- a statement that is laid out among those of the module
  statement_stands : (body : Stmt) (before : layout.Lists) → Grows header.parts before → Grows (put_stmt body before).1 after.parts → StatementStandsAt text m (put_stmt body before).0 body
  statement_stands body before low more =
      let all = onward more at.more.parts in
      let start = onward (header_grows told.header at.before).parts low in
      let statements_first = ap (λ (y : module_of.Module). y.statements.first) at.is in
      let statements_end = ap (λ (y : module_of.Module). y.statements.end) at.is in
      let expressions_first = ap (λ (y : module_of.Module). y.expressions.first) at.is in
      let expressions_end = ap (λ (y : module_of.Module). y.expressions.end) at.is in
      let statements_low = longer start.statements in
      let statements_high = longer more.statements in
      let expressions_low = longer start.expressions in
      let expressions_high = longer more.expressions in
      record {
        number = number;
        one = one;
        before = before;
        following = record {
          statements = all.statements.more;
          expressions = all.expressions.more;
          terms = all.terms.more;
          choices = all.choices.more;
        };
        statements = all.statements.is;
        expressions = all.expressions.is;
        terms = all.terms.is;
        choices = all.choices.is;
        there = refl;
        statements_from = omega arith;
        statements_to = omega arith;
        expressions_from = omega arith;
        expressions_to = omega arith;
      }

  -- a procedure that is laid out after its statement
  procedure_stands : (construct : ℕ → source.Item) (body : Stmt) (before : Lists) → AllGrow header before → AllGrow (put_procedure construct body before) after → ProcedureStands text m construct body
  procedure_stands construct body before low more =
      let b = put_stmt body before.parts in
      let following : Lists = record before { parts = b.1 } in
      let i = has_item (construct b.0) following (further_on low (parts_grow before b.1 (stmt_grows body before.parts))) more in
      record {
        number = i.place;
        from = i.from;
        to = i.to;
        place = b.0;
        is = i.is;
        stands = statement_stands body before.parts low.parts more.parts;
      }

  -- ---- values

  -- an expression that is laid out among those of the module
  expression_stands : (e : Expr) (before : layout.Lists) → Grows header.parts before → Grows (put_value e before).1 after.parts → ExpressionStandsAt text m (put_value e before).0 e
  expression_stands e before low more =
      let all = onward more at.more.parts in
      let start = onward (header_grows told.header at.before).parts low in
      let last = expr_last e before.expressions in
      let expressions_first = ap (λ (y : module_of.Module). y.expressions.first) at.is in
      let expressions_end = ap (λ (y : module_of.Module). y.expressions.end) at.is in
      let expressions_low = longer start.expressions in
      let expressions_high = longer more.expressions in
      record {
        number = number;
        one = one;
        before = before.expressions;
        following = all.expressions.more;
        laid = all.expressions.is;
        there = refl;
        from = omega arith;
        to = omega arith;
      }

  -- a value that is laid out, and an item for it after other items
  value_stands : (construct : ℕ → source.Item) (value : Expr) (before last : Lists) → AllGrow header before → AllGrow (record before { parts = (put_value value before.parts).1 }) last → AllGrow (with_item (construct (put_value value before.parts).0) last) after → ValueStands text m construct value
  value_stands construct value before last low on more =
      let v = put_value value before.parts in
      let growth = parts_grow before v.1 (value_grows value before.parts) in
      let i = has_item (construct v.0) last (further_on low (further_on growth on)) more in
      let rest = further_on on (further_on (with_item_grows (construct v.0) last) more) in
      record {
        number = i.place;
        from = i.from;
        to = i.to;
        place = v.0;
        is = i.is;
        stands = expression_stands value before.parts low.parts rest.parts;
      }

  -- ---- instances

  -- a connection that is laid out is the source's connection of that number
  has_connection : (c : connection.Connection) (before : Lists) → AllGrow (with_connection c before) after → slice_get text.connections (length before.connections) ≡ Some c
  has_connection c before more =
      stands_in before.connections c text.connections (further_on more at.more).connections

  -- a connection that is laid out stands after those before it
  connection_stands : (following : Symbol) (c : Connection) (before : Lists) → AllGrow header before → AllGrow (put_connection following c before) after → ConnectionStands text m (length before.connections) c
  connection_stands following (Ordered None) before low more =
      record { one = _; is = has_connection _ before more; port = refl; stands = tt }
  connection_stands following (Ordered (Some e)) before low more =
      let v = put_value e before.parts in
      record {
        one = _;
        is = has_connection _ (record before { parts = v.1 }) more;
        port = refl;
        stands = expression_stands e before.parts low.parts more.parts;
      }
  connection_stands following (Named period port opening None closing) before low more =
      record { one = _; is = has_connection _ before more; port = refl; stands = tt }
  connection_stands following (Named period port opening (Some e) closing) before low more =
      let v = put_value e before.parts in
      record {
        one = _;
        is = has_connection _ (record before { parts = v.1 }) more;
        port = refl;
        stands = expression_stands e before.parts low.parts more.parts;
      }

  -- the first of connections stands where they begin
  first_stands : (following : Symbol) (c x : Connection) (before : Lists) → AllGrow header before → AllGrow (put_connection following c before) after → c ≡ x → ConnectionStands text m (length before.connections + 0) x
  first_stands following c x before low more same =
      let begin : length before.connections ≡ length before.connections + 0 = omega arith in
      subst (λ (n : ℕ). ConnectionStands text m n x) begin
      (subst (λ (y : Connection). ConnectionStands text m (length before.connections) y) same (connection_stands following c before low more))

  -- each of a connection and further ones stands after those before it
  connected_stand : (closing : ℕ) (c : Connection) (fs : List (Further Connection)) (before : Lists) → AllGrow header before → AllGrow (put_connected closing c fs before) after → (position : ℕ) (x : Connection) → slice_get (connections_of (Connected c fs)) position ≡ Some x → ConnectionStands text m (length before.connections + position) x
  connected_stand closing c [] before low more zero x h =
      first_stands (symbol_at (symbol.Punctuator punctuator.RightParenthesis) closing) c x before low more cc
  connected_stand closing c [] before low more (suc position) x h = absurd cc
  connected_stand closing c (f ∷ fs) before low more zero x h =
      first_stands (comma_at f.comma) c x before low (further_on (connected_grows closing f.part fs (put_connection (comma_at f.comma) c before)) more) cc
  connected_stand closing c (f ∷ fs) before low more (suc position) x h =
      let next = put_connection (comma_at f.comma) c before in
      let count = connection_count (comma_at f.comma) c before in
      let there : length next.connections + position ≡ length before.connections + suc position = omega arith in
      subst (λ (n : ℕ). ConnectionStands text m n x) there
      (connected_stand closing f.part fs next (further_on low (connection_grows (comma_at f.comma) c before)) more position x h)

  -- each of connections stands after those before it
  connections_stand : (closing : ℕ) (cs : Connections) (before : Lists) → AllGrow header before → AllGrow (put_connections closing cs before) after → (position : ℕ) (x : Connection) → slice_get (connections_of cs) position ≡ Some x → ConnectionStands text m (length before.connections + position) x
  connections_stand closing Unconnected before low more position x h = absurd cc
  connections_stand closing (Connected first further) before low more position x h =
      connected_stand closing first further before low more position x h

  -- an instance that is laid out after its connections
  instance_stands : (name definition closing : ℕ) (cs : Connections) (before : Lists) → AllGrow header before → (let last = put_connections closing cs before in AllGrow (with_item (item.Instance name definition (length before.connections) (length last.connections)) last) after) → InstanceStands text m name definition cs
  instance_stands name definition closing cs before low more =
      let last = put_connections closing cs before in
      let instance = item.Instance name definition (length before.connections) (length last.connections) in
      let i = has_item instance last (further_on low (connections_grow closing cs before)) more in
      record {
        number = i.place;
        from = i.from;
        to = i.to;
        first = length before.connections;
        end = length last.connections;
        is = i.is;
        count = connections_count closing cs before;
        stand = connections_stand closing cs before low (further_on (with_item_grows instance last) more);
      }

  -- ---- declarators and items

  -- a declarator that is laid out among those of the module
  declarator_stands : (declaration : Declaration) (x : Declarator) (before : Lists) → AllGrow header before → AllGrow (put_declarator declaration x before) after → DeclaratorStands text m declaration x
  declarator_stands (Nets place range) (Valued name equals value) before low more =
      let v = put_value value before.parts in
      let net = item.Net name (option_map put_declared range) in
      let following : Lists = record before { parts = v.1 } in
      value_stands (item.Assignment name) value before (with_item net following) low (with_item_grows net following) more
  declarator_stands (LocalParameters place) (Valued name equals value) before low more =
      let v = put_value value before.parts in
      let following : Lists = record before { parts = v.1 } in
      value_stands (item.LocalParameter name) value before following low (all_kept following) more
  declarator_stands (Assignments place) (Valued name equals value) before low more =
      let v = put_value value before.parts in
      let following : Lists = record before { parts = v.1 } in
      value_stands (item.Assignment name) value before following low (all_kept following) more
  declarator_stands (Instances definition) (Instance name opening connections closing) before low more =
      instance_stands name definition closing connections before low more
  declarator_stands _ _ before low more = tt

  -- further declarators of a declaration
  further_stand : (declaration : Declaration) (fs : List (Further Declarator)) (before : Lists) → AllGrow header before → AllGrow (put_further declaration fs before) after → AreFurther (DeclaratorStands text m declaration) fs
  further_stand declaration [] before low more = tt
  further_stand declaration (f ∷ fs) before low more =
      let next = put_declarator declaration f.part before in (
        declarator_stands declaration f.part before low (further_on (further_grow declaration fs next) more),
        further_stand declaration fs next (further_on low (declarator_grows declaration f.part before)) more,
      )

  -- an item of the text
  item_stands : (i : Item) → AtItem i header after → ItemStands text m i
  item_stands (Declares declaration first further semicolon) h =
      let next = put_declarator declaration first h.before in (
        declarator_stands declaration first h.before h.low (further_on (further_grow declaration further next) h.more),
        further_stand declaration further next (further_on h.low (declarator_grows declaration first h.before)) h.more,
      )
  item_stands (Initial keyword body) h = procedure_stands (item.Initial keyword) body h.before h.low h.more
  item_stands (Always keyword body) h = procedure_stands (item.Always keyword) body h.before h.low h.more

-- each item of a derivation stands in its source
pub items_stand : (text : List ℕ) (tokens : List Token) (d : Derivation) (s : Source) → IsSourceOf text tokens d s → ItemsStand s d
items_stand text tokens d s is = λ number place told m i h k l.
    let modules = ap (λ (x : List module_of.Module × Lists). x.0) is.parts in
    let lists = ap (λ (x : List module_of.Module × Lists). x.1) is.parts in
    let at = at_module d no_parts number told m h (sym (ap (λ (ms : List module_of.Module). slice_get ms number) modules) ∙ k) in
    let there = subst (λ (all : Lists). AtModule told m all) (sym lists) at in
    item_stands s number told m k there i (at_item told.items (put_header told.header there.before) place i l)

-- What is spelled by a well-formed derivation is read as that derivation.
use Rattle.std.proofs.Common.{◌≡◌, ℕ, zero, suc, ◌≤◌, ◌<◌, List, [], ◌∷◌, length, eqb, Bool, true, false, Option, Some, None, Ok, refl, arith}
use Rattle.std.specs.Prelude.{IfSome, max, ◌||◌}
use Rattle.std.proofs.lemmas.Bool.{ne_eqb}
use Rattle.vp_lex.specs.declared.keyword.Keyword.TheVariants as keyword
use Rattle.vp_lex.specs.declared.token.Punctuator.TheVariants as punctuator
use Rattle.vp_source.specs.declared.operator.UnaryOperator.{UnaryOperator}
use Rattle.vp_source.specs.declared.operator.UnaryOperator.TheVariants as unary
use Rattle.vp_source.specs.declared.symbol.Symbol.{Symbol}
use Rattle.vp_source.specs.declared.symbol.SymbolKind.{SymbolKind}
use Rattle.vp_source.specs.declared.symbol.SymbolKind.TheVariants as symbol
use Rattle.vp_source.specs.Kinds.{symbol_at}
use Rattle.vp_source.specs.Operators.{unary_sign, binary_sign}
use Rattle.vp_source.specs.ExprGrammar.{Expr, Name, Sized, Based, Number, Group, Unary, Binary, Conditional, Concatenation, Replication, Range, expr_text, IsExpr, IsRange}
use Rattle.vp_parse_expr.specs.Stopping.{Reader, is_next, terminal}
use Rattle.vp_parse_expr.specs.laws.Takes.{expr_longer}
use Rattle.vp_parse_expr.specs.Meaning.{Stops}
use Rattle.vp_parse_expr.specs.laws.Again.{expr_again, range_again, literal_again}
use Rattle.vp_source.specs.StmtGrammar.{Stmt}
use Rattle.vp_parse_stmt.specs.Reading.{stmt_at, is_else}
use Rattle.vp_parse_stmt.specs.laws.Following.{end_follows}
use Rattle.vp_parse_stmt.specs.laws.Again.{CompleteStmt, stmt_longer, stmt_again}
use Rattle.vp_source.specs.Grammar.{Further, further_text, AreFurther, further_height, width_text, value_text, value_height, Connection, Ordered, Named, Connections, Unconnected, Connected, connection_text, connections_text, is_named, is_blank, IsConnection, IsAlike, AreConnections, connection_height, connections_height, Declaration, Nets, Regs, LocalParameters, Assignments, Instances, Declarator, Plain, Valued, Instance, declaration_text, declarator_text, IsDeclarator, declarator_height, Item, Declares, Initial, Always, item_text, items_text, IsItem, AreItems, item_depth, items_depth, item_height, items_height, Direction, Input, Output, OutputReg, Port, Declared, Bare, PortList, Header, NoHeader, Ports, direction_text, port_text, ports_text, header_text, IsPort, ArePorts, IsHeader, Module, module_text, IsModule, Derivation, source_text, IsSource, source_depth, source_height}
use Rattle.vp_parse.specs.Reading.{further_at, width_at, is_end, value_at, ordered_at, named_at, connection_at, connected_at, connections_at, valued_at, net_at, instance_at, declarator_by, declarator_at, declarators_at, ranged_at, procedure_at, item_by, item_at, items_at, wire_at, output_at, direction_by, direction_at, declared_at, port_at, ports_at, listed_at, parentheses_at, header_at, module_at, modules_at, source_at}

abbrev comma_kind : SymbolKind
comma_kind = symbol.Punctuator punctuator.Comma

abbrev right_kind : SymbolKind
right_kind = symbol.Punctuator punctuator.RightParenthesis

-- ---- what an expression begins with

unary_no_end : (o : UnaryOperator) (place : ℕ) (rest : List Symbol) → is_end (symbol_at (symbol.Punctuator (unary_sign o)) place ∷ rest) ≡ false
unary_no_end unary.Plus place rest = refl
unary_no_end _ place rest = refl

-- an expression begins with no comma, no parenthesis that closes and no period
expr_no_end : (e : Expr) (rest : List Symbol) → is_end (expr_text e rest) ≡ false
expr_no_end (Name place s) rest = refl
expr_no_end (Sized place size kind digits) rest = refl
expr_no_end (Based digits) rest = refl
expr_no_end (Number place value) rest = refl
expr_no_end (Group opening e closing) rest = refl
expr_no_end (Unary o place e) rest = unary_no_end o place (expr_text e rest)
expr_no_end (Binary o a place b) rest = expr_no_end a (symbol_at (symbol.Punctuator (binary_sign o)) place ∷ expr_text b rest)
expr_no_end (Conditional c question a colon b) rest = expr_no_end c (symbol_at (symbol.Punctuator punctuator.Conditional) question ∷ expr_text a (symbol_at (symbol.Punctuator punctuator.Colon) colon ∷ expr_text b rest))
expr_no_end (Concatenation opening l closing) rest = refl
expr_no_end (Replication opening count_place count inner_opening l inner_closing closing) rest = refl

unary_no_period : (o : UnaryOperator) (place : ℕ) (rest : List Symbol) → is_next (symbol.Punctuator punctuator.Period) (symbol_at (symbol.Punctuator (unary_sign o)) place ∷ rest) ≡ false
unary_no_period unary.Plus place rest = refl
unary_no_period _ place rest = refl

expr_no_period : (e : Expr) (rest : List Symbol) → is_next (symbol.Punctuator punctuator.Period) (expr_text e rest) ≡ false
expr_no_period (Name place s) rest = refl
expr_no_period (Sized place size kind digits) rest = refl
expr_no_period (Based digits) rest = refl
expr_no_period (Number place value) rest = refl
expr_no_period (Group opening e closing) rest = refl
expr_no_period (Unary o place e) rest = unary_no_period o place (expr_text e rest)
expr_no_period (Binary o a place b) rest = expr_no_period a (symbol_at (symbol.Punctuator (binary_sign o)) place ∷ expr_text b rest)
expr_no_period (Conditional c question a colon b) rest = expr_no_period c (symbol_at (symbol.Punctuator punctuator.Conditional) question ∷ expr_text a (symbol_at (symbol.Punctuator punctuator.Colon) colon ∷ expr_text b rest))
expr_no_period (Concatenation opening l closing) rest = refl
expr_no_period (Replication opening count_place count inner_opening l inner_closing closing) rest = refl

-- ---- lists with commas, ranges and values

-- a part of a list ends here: no expression goes on, and no value follows
pub record Ends (ts : List Symbol) : Type 0 where
  pub stops : Stops 0 ts
  pub no_value : is_next (symbol.Punctuator punctuator.Equals) ts ≡ false
  pub is_end : is_end ts ≡ true

ends_comma : (place : ℕ) (rest : List Symbol) → Ends (symbol_at comma_kind place ∷ rest)
ends_comma place rest = record { stops = record { no_operator = refl; no_choice = refl; no_bracket = refl; no_base = refl }; no_value = refl; is_end = refl }

module _ {X : Type 0} (text : X → List Symbol → List Symbol) (P : X → Type 0) (height : X → ℕ) (limit : ℕ) (part : Reader X) (E : List Symbol → Type 0)
    (complete : (x : X) (rest : List Symbol) → P x → height x ≤ limit → E rest → part (text x rest) ≡ Ok (x, rest))
    (longer : (x : X) (rest : List Symbol) → length rest ≤ length (text x rest))
    (at_comma : (place : ℕ) (rest : List Symbol) → E (symbol_at comma_kind place ∷ rest)) where
  further_longer : (fs : List (Further X)) (rest : List Symbol) → length rest ≤ length (further_text text fs rest)
  further_longer [] rest = omega arith
  further_longer (f ∷ fs) rest = let h = further_longer fs rest in let k = longer f.part (further_text text fs rest) in omega arith

  -- further parts end where a part does
  further_ends : (fs : List (Further X)) (rest : List Symbol) → E rest → E (further_text text fs rest)
  further_ends [] rest e = e
  further_ends (f ∷ fs) rest e = at_comma f.comma (text f.part (further_text text fs rest))

  further_again : (m : ℕ) (fs : List (Further X)) (rest : List Symbol) → AreFurther P fs → further_height height fs ≤ limit → length (further_text text fs rest) ≤ m → is_next comma_kind rest ≡ false → E rest → further_at part m (further_text text fs rest) ≡ Ok (fs, rest)
  unfolding further_at terminal
  further_again zero [] rest are fits enough last e = refl
  further_again zero (f ∷ fs) rest are fits enough last e = absurd (omega arith)
  further_again (suc m) [] rest are fits enough last e = rw last refl
  further_again (suc m) (f ∷ fs) rest are fits enough last e =
      let longer_part = longer f.part (further_text text fs rest) in
      let h = complete f.part (further_text text fs rest) are.0 (omega arith) (further_ends fs rest e) in
      let k = further_again m fs rest are.1 (omega arith) (omega arith) last e in
      rw h (rw k refl)

-- a name ends a range that is not there
width_again : (range : Option Range) (place : ℕ) (rest : List Symbol) → IfSome range IsRange → width_at (width_text range (symbol_at symbol.Name place ∷ rest)) ≡ Ok (range, symbol_at symbol.Name place ∷ rest)
unfolding width_at
width_again None place rest is = refl
width_again (Some range) place rest is = let h = range_again range (symbol_at symbol.Name place ∷ rest) is in rw h refl

width_longer : (range : Option Range) (rest : List Symbol) → length rest ≤ length (width_text range rest)
width_longer None rest = omega arith
width_longer (Some range) rest = omega arith

value_again : (limit : ℕ) (v : Option Expr) (rest : List Symbol) → IfSome v IsExpr → value_height v ≤ limit → Stops 0 rest → is_end rest ≡ true → value_at limit (value_text v rest) ≡ Ok (v, rest)
unfolding value_at
value_again limit None rest is fits stops end = rw end refl
value_again limit (Some e) rest is fits stops end =
    let h = expr_again limit 0 e rest is (omega arith) fits stops in rw (expr_no_end e rest) (rw h refl)

value_longer : (v : Option Expr) (rest : List Symbol) → length rest ≤ length (value_text v rest)
value_longer None rest = omega arith
value_longer (Some e) rest = let h = expr_longer e rest in omega arith

-- ---- connections

connection_longer : (c : Connection) (rest : List Symbol) → length rest ≤ length (connection_text c rest)
connection_longer (Ordered value) rest = value_longer value rest
connection_longer (Named period port opening value closing) rest = let h = value_longer value (symbol_at right_kind closing ∷ rest) in omega arith

module _ (limit : ℕ) where
  connection_again : (named : Bool) (c : Connection) (rest : List Symbol) → IsAlike named c → connection_height c ≤ limit → Ends rest → connection_at limit named (connection_text c rest) ≡ Ok (c, rest)
  unfolding connection_at named_at ordered_at terminal
  connection_again false (Ordered value) rest is fits e = let h = value_again limit value rest is.0 fits e.stops e.is_end in rw h refl
  connection_again true (Ordered value) rest is fits e = absurd cc
  connection_again false (Named period port opening value closing) rest is fits e = absurd cc
  connection_again true (Named period port opening value closing) rest is fits e =
      let h = value_again limit value (symbol_at right_kind closing ∷ rest) is.0 fits (record { no_operator = refl; no_choice = refl; no_bracket = refl; no_base = refl }) refl in
      rw h refl

  -- connections begin with a period where they are by name, and with no parenthesis that closes
  named_next : (c : Connection) (rest : List Symbol) → is_blank c ≡ false → is_next (symbol.Punctuator punctuator.Period) (connection_text c rest) ≡ is_named c
  named_next (Ordered None) rest h = absurd cc
  named_next (Ordered (Some e)) rest h = expr_no_period e rest
  named_next (Named period port opening value closing) rest h = refl

  right_by : (ts : List Symbol) → is_end ts ≡ false → is_next right_kind ts ≡ false
  right_by ts h = or_right (is_next comma_kind ts) (is_next right_kind ts) h where
    or_right : (a b : Bool) → (a || b) ≡ false → b ≡ false
    or_right true b e = absurd cc
    or_right false b e = e

  no_right : (c : Connection) (rest : List Symbol) → is_blank c ≡ false → is_next right_kind (connection_text c rest) ≡ false
  no_right (Ordered None) rest h = absurd cc
  no_right (Ordered (Some e)) rest h = right_by (expr_text e rest) (expr_no_end e rest)
  no_right (Named period port opening value closing) rest h = refl

  alike_first : (c : Connection) → IsConnection c → IsAlike (is_named c) c
  alike_first c is = (is, refl)

  further_connections_again : (named : Bool) (fs : List (Further Connection)) (rest : List Symbol) → AreFurther (IsAlike named) fs → further_height connection_height fs ≤ limit → is_next comma_kind rest ≡ false → Ends rest
      → further_at (connection_at limit named) (length (further_text connection_text fs rest)) (further_text connection_text fs rest) ≡ Ok (fs, rest)
  further_connections_again named fs rest are fits last e =
      further_again connection_text (IsAlike named) connection_height limit (connection_at limit named) Ends (connection_again named) connection_longer ends_comma (length (further_text connection_text fs rest)) fs rest are fits (omega arith) last e

  connected_again : (c : Connection) (fs : List (Further Connection)) (rest : List Symbol) → IsConnection c → AreFurther (IsAlike (is_named c)) fs → max (connection_height c) (further_height connection_height fs) ≤ limit → is_next comma_kind rest ≡ false → Ends rest
      → connected_at limit (is_named c) (connection_text c (further_text connection_text fs rest)) ≡ Ok (Connected c fs, rest)
  unfolding connected_at
  connected_again c fs rest is are fits last e =
      let following = further_text connection_text fs rest in
      let ends = further_ends connection_text (IsAlike (is_named c)) connection_height limit (connection_at limit (is_named c)) Ends (connection_again (is_named c)) connection_longer ends_comma fs rest e in
      let h = connection_again (is_named c) c following (is, refl) (omega arith) ends in
      let k = further_connections_again (is_named c) fs rest are (omega arith) last e in
      rw h (rw k refl)

  -- a first connection of no symbols is followed by a comma
  first_no_right : (c : Connection) (fs : List (Further Connection)) (rest : List Symbol) → AreConnections (Connected c fs) → is_next right_kind (connection_text c (further_text connection_text fs rest)) ≡ false
  first_no_right c [] rest are = no_right c rest are.1
  first_no_right (Ordered None) (f ∷ fs) rest are = refl
  first_no_right (Ordered (Some e)) (f ∷ fs) rest are = no_right (Ordered (Some e)) (further_text connection_text (f ∷ fs) rest) refl
  first_no_right (Named period port opening value closing) (f ∷ fs) rest are = refl

  first_named : (c : Connection) (fs : List (Further Connection)) (rest : List Symbol) → AreConnections (Connected c fs) → is_next (symbol.Punctuator punctuator.Period) (connection_text c (further_text connection_text fs rest)) ≡ is_named c
  first_named c [] rest are = named_next c rest are.1
  first_named (Ordered None) (f ∷ fs) rest are = refl
  first_named (Ordered (Some e)) (f ∷ fs) rest are = named_next (Ordered (Some e)) (further_text connection_text (f ∷ fs) rest) refl
  first_named (Named period port opening value closing) (f ∷ fs) rest are = refl

  first_is : (c : Connection) (fs : List (Further Connection)) → AreConnections (Connected c fs) → IsConnection c × AreFurther (IsAlike (is_named c)) fs
  first_is c [] are = (are.0, tt)
  first_is c (f ∷ fs) are = are

  -- connections, up to a parenthesis
  connections_again : (cs : Connections) (closing : ℕ) (rest : List Symbol) → AreConnections cs → connections_height cs ≤ limit
      → connections_at limit (connections_text cs (symbol_at right_kind closing ∷ rest)) ≡ Ok (cs, symbol_at right_kind closing ∷ rest)
  unfolding connections_at
  connections_again Unconnected closing rest are fits = refl
  connections_again (Connected c fs) closing rest are fits =
      let following = symbol_at right_kind closing ∷ rest in
      let parts = first_is c fs are in
      let h = connected_again c fs following parts.0 parts.1 fits refl (record { stops = record { no_operator = refl; no_choice = refl; no_bracket = refl; no_base = refl }; no_value = refl; is_end = refl }) in
      rw (first_no_right c fs following are) (rw (first_named c fs following are) h)

connections_longer : (cs : Connections) (rest : List Symbol) → length rest ≤ length (connections_text cs rest)
connections_longer Unconnected rest = omega arith
connections_longer (Connected c fs) rest =
    let h = connections_further fs rest in let k = connection_longer c (further_text connection_text fs rest) in omega arith where
      connections_further : (fs : List (Further Connection)) (rest : List Symbol) → length rest ≤ length (further_text connection_text fs rest)
      connections_further [] rest = omega arith
      connections_further (f ∷ fs) rest = let h = connections_further fs rest in let k = connection_longer f.part (further_text connection_text fs rest) in omega arith

-- ---- declarators

declarator_longer : (d : Declarator) (rest : List Symbol) → length rest < length (declarator_text d rest)
declarator_longer (Plain name) rest = omega arith
declarator_longer (Valued name equals value) rest = let h = expr_longer value rest in omega arith
declarator_longer (Instance name opening connections closing) rest = let h = connections_longer connections (symbol_at right_kind closing ∷ rest) in omega arith

-- a declarator ends here: no expression goes on, and no value follows
pub record EndsDeclarator (ts : List Symbol) : Type 0 where
  pub stops : Stops 0 ts
  pub no_value : is_next (symbol.Punctuator punctuator.Equals) ts ≡ false

declarator_comma : (place : ℕ) (rest : List Symbol) → EndsDeclarator (symbol_at comma_kind place ∷ rest)
declarator_comma place rest = record { stops = record { no_operator = refl; no_choice = refl; no_bracket = refl; no_base = refl }; no_value = refl }

module _ (limit : ℕ) where
  declarator_again : (d : Declaration) (x : Declarator) (rest : List Symbol) → IsDeclarator d x → declarator_height x ≤ limit → EndsDeclarator rest → declarator_at limit d (declarator_text x rest) ≡ Ok (x, rest)
  unfolding declarator_at declarator_by net_at valued_at instance_at terminal
  declarator_again (Nets place range) (Plain name) rest is fits e = rw e.no_value refl
  declarator_again (Nets place range) (Valued name equals value) rest is fits e = let h = expr_again limit 0 value rest is (omega arith) fits e.stops in rw h refl
  declarator_again (Regs place range) (Plain name) rest is fits e = refl
  declarator_again (LocalParameters place) (Valued name equals value) rest is fits e = let h = literal_again value rest is.0 is.1 in rw h refl
  declarator_again (Assignments place) (Valued name equals value) rest is fits e = let h = expr_again limit 0 value rest is (omega arith) fits e.stops in rw h refl
  declarator_again (Instances definition) (Instance name opening connections closing) rest is fits e = let h = connections_again limit connections closing rest is fits in rw h refl
  declarator_again (Nets place range) (Instance name opening connections closing) rest is fits e = absurd is
  declarator_again (Regs place range) (Valued name equals value) rest is fits e = absurd is
  declarator_again (Regs place range) (Instance name opening connections closing) rest is fits e = absurd is
  declarator_again (LocalParameters place) (Plain name) rest is fits e = absurd is
  declarator_again (LocalParameters place) (Instance name opening connections closing) rest is fits e = absurd is
  declarator_again (Assignments place) (Plain name) rest is fits e = absurd is
  declarator_again (Assignments place) (Instance name opening connections closing) rest is fits e = absurd is
  declarator_again (Instances definition) (Plain name) rest is fits e = absurd is
  declarator_again (Instances definition) (Valued name equals value) rest is fits e = absurd is

  loose : (x : Declarator) (rest : List Symbol) → length rest ≤ length (declarator_text x rest)
  loose x rest = let h = declarator_longer x rest in omega arith

  declarators_again : (d : Declaration) (x : Declarator) (fs : List (Further Declarator)) (semicolon : ℕ) (rest : List Symbol) → IsDeclarator d x → AreFurther (IsDeclarator d) fs → max (declarator_height x) (further_height declarator_height fs) ≤ limit
      → declarators_at limit d (declarator_text x (further_text declarator_text fs (symbol_at (symbol.Punctuator punctuator.Semicolon) semicolon ∷ rest))) ≡ Ok (Declares d x fs semicolon, rest)
  unfolding declarators_at terminal
  declarators_again d x fs semicolon rest is are fits =
      let following = symbol_at (symbol.Punctuator punctuator.Semicolon) semicolon ∷ rest in
      let last : EndsDeclarator following = record { stops = record { no_operator = refl; no_choice = refl; no_bracket = refl; no_base = refl }; no_value = refl } in
      let ends = further_ends declarator_text (IsDeclarator d) declarator_height limit (declarator_at limit d) EndsDeclarator (declarator_again d) loose declarator_comma fs following last in
      let h = declarator_again d x (further_text declarator_text fs following) is (omega arith) ends in
      let k = further_again declarator_text (IsDeclarator d) declarator_height limit (declarator_at limit d) EndsDeclarator (declarator_again d) loose declarator_comma (length (further_text declarator_text fs following)) fs following are (omega arith) (omega arith) refl last in
      rw h (rw k refl)

-- ---- items

-- a name is next
declarators_name : (x : Declarator) (rest : List Symbol) → is_next (symbol.Punctuator punctuator.LeftBracket) (declarator_text x rest) ≡ false
declarators_name (Plain name) rest = refl
declarators_name (Valued name equals value) rest = refl
declarators_name (Instance name opening connections closing) rest = refl

ranged_width : (range : Option Range) (x : Declarator) (rest : List Symbol) → IfSome range IsRange → width_at (width_text range (declarator_text x rest)) ≡ Ok (range, declarator_text x rest)
unfolding width_at
ranged_width None x rest is = rw (declarators_name x rest) refl
ranged_width (Some range) x rest is = let h = range_again range (declarator_text x rest) is in rw h refl

-- parts of a list without parts that nest
flat_further : {X : Type 0} (fs : List (Further X)) → further_height (λ (x : X). 0) fs ≤ 0
flat_further [] = omega arith
flat_further (f ∷ fs) = let h = flat_further fs in omega arith

declared_longer : (d : Declaration) (rest : List Symbol) → length rest < length (declaration_text d rest)
declared_longer (Nets place range) rest = let h = width_longer range rest in omega arith
declared_longer (Regs place range) rest = let h = width_longer range rest in omega arith
declared_longer (LocalParameters place) rest = omega arith
declared_longer (Assignments place) rest = omega arith
declared_longer (Instances definition) rest = omega arith

declarators_further : (fs : List (Further Declarator)) (rest : List Symbol) → length rest ≤ length (further_text declarator_text fs rest)
declarators_further [] rest = omega arith
declarators_further (f ∷ fs) rest = let h = declarators_further fs rest in let k = declarator_longer f.part (further_text declarator_text fs rest) in omega arith

item_longer : (i : Item) (rest : List Symbol) → length rest < length (item_text i rest)
item_longer (Declares d x fs semicolon) rest =
    let following = symbol_at (symbol.Punctuator punctuator.Semicolon) semicolon ∷ rest in
    let h = declarators_further fs following in
    let k = declarator_longer x (further_text declarator_text fs following) in
    let l = declared_longer d (declarator_text x (further_text declarator_text fs following)) in
    omega arith
item_longer (Initial place body) rest = let h = stmt_longer body rest in omega arith
item_longer (Always place body) rest = let h = stmt_longer body rest in omega arith

items_longer : (l : List Item) (rest : List Symbol) → length rest ≤ length (items_text l rest)
items_longer [] rest = omega arith
items_longer (i ∷ l) rest = let h = items_longer l rest in let k = item_longer i (items_text l rest) in omega arith

declared_no_end : (d : Declaration) (rest : List Symbol) → is_next (symbol.Keyword keyword.Endmodule) (declaration_text d rest) ≡ false
declared_no_end (Nets place range) rest = refl
declared_no_end (Regs place range) rest = refl
declared_no_end (LocalParameters place) rest = refl
declared_no_end (Assignments place) rest = refl
declared_no_end (Instances definition) rest = refl

item_no_end : (i : Item) (rest : List Symbol) → is_next (symbol.Keyword keyword.Endmodule) (item_text i rest) ≡ false
item_no_end (Declares d x fs semicolon) rest = declared_no_end d (declarator_text x (further_text declarator_text fs (symbol_at (symbol.Punctuator punctuator.Semicolon) semicolon ∷ rest)))
item_no_end (Initial place body) rest = refl
item_no_end (Always place body) rest = refl

declared_no_else : (d : Declaration) (rest : List Symbol) → is_else (declaration_text d rest) ≡ false
declared_no_else (Nets place range) rest = refl
declared_no_else (Regs place range) rest = refl
declared_no_else (LocalParameters place) rest = refl
declared_no_else (Assignments place) rest = refl
declared_no_else (Instances definition) rest = refl

-- an item does not begin with an else
item_no_else : (i : Item) (rest : List Symbol) → is_else (item_text i rest) ≡ false
item_no_else (Declares d x fs semicolon) rest = declared_no_else d (declarator_text x (further_text declarator_text fs (symbol_at (symbol.Punctuator punctuator.Semicolon) semicolon ∷ rest)))
item_no_else (Initial place body) rest = refl
item_no_else (Always place body) rest = refl

items_no_else : (l : List Item) (rest : List Symbol) → is_else rest ≡ false → is_else (items_text l rest) ≡ false
items_no_else [] rest h = h
items_no_else (i ∷ l) rest h = item_no_else i (items_text l rest)

module _ (limit : ℕ) where
  ranged_again : (d : Option Range → Declaration) (range : Option Range) (x : Declarator) (fs : List (Further Declarator)) (semicolon : ℕ) (rest : List Symbol) → IfSome range IsRange → IsDeclarator (d range) x → AreFurther (IsDeclarator (d range)) fs → max (declarator_height x) (further_height declarator_height fs) ≤ limit
      → ranged_at limit d (width_text range (declarator_text x (further_text declarator_text fs (symbol_at (symbol.Punctuator punctuator.Semicolon) semicolon ∷ rest)))) ≡ Ok (Declares (d range) x fs semicolon, rest)
  unfolding ranged_at
  ranged_again d range x fs semicolon rest is is_first are fits =
      let h = ranged_width range x (further_text declarator_text fs (symbol_at (symbol.Punctuator punctuator.Semicolon) semicolon ∷ rest)) is in
      let k = declarators_again limit (d range) x fs semicolon rest is_first are fits in
      rw h (rw k refl)

  module _ (d : ℕ) (statement : Reader Stmt) (complete : CompleteStmt limit d statement) where
    item_again : (i : Item) (rest : List Symbol) → IsItem i → item_height i ≤ limit → item_depth i ≤ d → is_else rest ≡ false → item_at limit statement (item_text i rest) ≡ Ok (i, rest)
    unfolding item_at item_by procedure_at
    item_again (Declares (Nets place range) x fs semicolon) rest is shallow fits ends = ranged_again (Nets place) range x fs semicolon rest is.0 is.1 is.2 shallow
    item_again (Declares (Regs place range) x fs semicolon) rest is shallow fits ends = ranged_again (Regs place) range x fs semicolon rest is.0 is.1 is.2 shallow
    item_again (Declares (LocalParameters place) x fs semicolon) rest is shallow fits ends = declarators_again limit (LocalParameters place) x fs semicolon rest is.1 is.2 shallow
    item_again (Declares (Assignments place) x fs semicolon) rest is shallow fits ends = declarators_again limit (Assignments place) x fs semicolon rest is.1 is.2 shallow
    item_again (Declares (Instances definition) x fs semicolon) rest is shallow fits ends = declarators_again limit (Instances definition) x fs semicolon rest is.1 is.2 shallow
    item_again (Initial place body) rest is shallow fits ends = let h = complete body rest is shallow fits (end_follows body rest ends) in rw h refl
    item_again (Always place body) rest is shallow fits ends = let h = complete body rest is shallow fits (end_follows body rest ends) in rw h refl

    items_again : (m : ℕ) (l : List Item) (rest : List Symbol) → AreItems l → items_height l ≤ limit → items_depth l ≤ d → length (items_text l rest) ≤ m → is_next (symbol.Keyword keyword.Endmodule) rest ≡ true → is_else rest ≡ false → items_at limit statement m (items_text l rest) ≡ Ok (l, rest)
    unfolding items_at
    items_again zero [] rest are shallow fits enough stops ends = rw stops refl
    items_again zero (i ∷ l) rest are shallow fits enough stops ends = let h = item_longer i (items_text l rest) in absurd (omega arith)
    items_again (suc m) [] rest are shallow fits enough stops ends = rw stops refl
    items_again (suc m) (i ∷ l) rest are shallow fits enough stops ends =
        let longer = item_longer i (items_text l rest) in
        let h = item_again i (items_text l rest) are.0 (omega arith) (omega arith) (items_no_else l rest ends) in
        let k = items_again m l rest are.1 (omega arith) (omega arith) (omega arith) stops ends in
        rw (item_no_end i (items_text l rest), h) (rw k refl)

-- ---- ports

direction_longer : (d : Direction) (rest : List Symbol) → length rest ≤ length (direction_text d rest)
direction_longer (Input place None) rest = omega arith
direction_longer (Input place (Some w)) rest = omega arith
direction_longer (Output place None) rest = omega arith
direction_longer (Output place (Some w)) rest = omega arith
direction_longer (OutputReg place reg) rest = omega arith

port_longer : (p : Port) (rest : List Symbol) → length rest ≤ length (port_text p rest)
port_longer (Declared direction range name) rest =
    let h = width_longer range (symbol_at symbol.Name name ∷ rest) in let k = direction_longer direction (width_text range (symbol_at symbol.Name name ∷ rest)) in omega arith
port_longer (Bare name) rest = omega arith

-- after a direction a range or a name is next
after_direction : (range : Option Range) (name : ℕ) (rest : List Symbol) → (is_next (symbol.Keyword keyword.Wire) (width_text range (symbol_at symbol.Name name ∷ rest)) ≡ false) × (is_next (symbol.Keyword keyword.Reg) (width_text range (symbol_at symbol.Name name ∷ rest)) ≡ false)
after_direction None name rest = (refl, refl)
after_direction (Some range) name rest = (refl, refl)

direction_again : (d : Direction) (rest : List Symbol) → is_next (symbol.Keyword keyword.Wire) rest ≡ false → is_next (symbol.Keyword keyword.Reg) rest ≡ false → direction_at (direction_text d rest) ≡ Ok (d, rest)
unfolding direction_at direction_by output_at wire_at terminal
direction_again (Input place None) rest no_wire no_reg = rw no_wire refl
direction_again (Input place (Some w)) rest no_wire no_reg = refl
direction_again (Output place None) rest no_wire no_reg = rw (no_reg, no_wire) refl
direction_again (Output place (Some w)) rest no_wire no_reg = refl
direction_again (OutputReg place reg) rest no_wire no_reg = refl

declared_again : (d : Direction) (range : Option Range) (name : ℕ) (rest : List Symbol) → IfSome range IsRange → declared_at (port_text (Declared d range name) rest) ≡ Ok (Declared d range name, rest)
unfolding declared_at terminal
declared_again d range name rest is =
    let after = after_direction range name rest in
    let h = direction_again d (width_text range (symbol_at symbol.Name name ∷ rest)) after.0 after.1 in
    let k = width_again range name rest is in
    rw h (rw k refl)

direction_no_name : (d : Direction) (rest : List Symbol) → is_next symbol.Name (direction_text d rest) ≡ false
direction_no_name (Input place wire) rest = refl
direction_no_name (Output place wire) rest = refl
direction_no_name (OutputReg place reg) rest = refl

port_again : (p : Port) (rest : List Symbol) → IsPort p → port_at (port_text p rest) ≡ Ok (p, rest)
unfolding port_at terminal
port_again (Declared d range name) rest is = rw (direction_no_name d (width_text range (symbol_at symbol.Name name ∷ rest))) (declared_again d range name rest is)
port_again (Bare name) rest is = refl

direction_no_right : (d : Direction) (rest : List Symbol) → is_next right_kind (direction_text d rest) ≡ false
direction_no_right (Input place wire) rest = refl
direction_no_right (Output place wire) rest = refl
direction_no_right (OutputReg place reg) rest = refl

-- anything may follow a port
abbrev Anything : List Symbol → Type 0
Anything ts = Unit {0}

listed_some : (first : Port) (further : List (Further Port)) (closing : ℕ) (rest : List Symbol) → ArePorts (Some (record { first = first; further = further }))
    → listed_at (port_text first (further_text port_text further (symbol_at right_kind closing ∷ rest))) ≡ Ok (Some (record { first = first; further = further }), symbol_at right_kind closing ∷ rest)
unfolding listed_at ports_at
listed_some (Bare name) further closing rest are = absurd cc
listed_some (Declared d range name) further closing rest are =
    let following = symbol_at right_kind closing ∷ rest in
    let h = declared_again d range name (further_text port_text further following) are.1 in
    let k = further_again port_text IsPort (λ p. 0) 0 port_at Anything (λ p rest is fits any. port_again p rest is) port_longer (λ place rest. tt) (length (further_text port_text further following)) further following are.2 (flat_further further) (omega arith) refl tt in
    rw (direction_no_right d (width_text range (symbol_at symbol.Name name ∷ further_text port_text further following)), h) (rw k refl)

listed_again : (ports : Option PortList) (closing : ℕ) (rest : List Symbol) → ArePorts ports → listed_at (ports_text ports (symbol_at right_kind closing ∷ rest)) ≡ Ok (ports, symbol_at right_kind closing ∷ rest)
unfolding listed_at
listed_again None closing rest are = refl
listed_again (Some ports) closing rest are = listed_some ports.first ports.further closing rest are

header_again : (h : Header) (semicolon : ℕ) (rest : List Symbol) → IsHeader h → header_at (header_text h (symbol_at (symbol.Punctuator punctuator.Semicolon) semicolon ∷ rest)) ≡ Ok (h, symbol_at (symbol.Punctuator punctuator.Semicolon) semicolon ∷ rest)
unfolding header_at parentheses_at terminal
header_again NoHeader semicolon rest is = refl
header_again (Ports opening ports closing) semicolon rest is = let h = listed_again ports closing (symbol_at (symbol.Punctuator punctuator.Semicolon) semicolon ∷ rest) is in rw h refl

header_longer : (h : Header) (rest : List Symbol) → length rest ≤ length (header_text h rest)
header_longer NoHeader rest = omega arith
header_longer (Ports opening None closing) rest = omega arith
header_longer (Ports opening (Some ports) closing) rest =
    let following = symbol_at right_kind closing ∷ rest in
    let h = further_longer port_text IsPort (λ p. 0) 0 port_at Anything (λ p rest is fits any. port_again p rest is) port_longer (λ place rest. tt) ports.further following in
    let k = port_longer ports.first (further_text port_text ports.further following) in
    omega arith

-- ---- modules

module_longer : (m : Module) (rest : List Symbol) → length rest < length (module_text m rest)
module_longer m rest =
    let after = symbol_at (symbol.Keyword keyword.Endmodule) m.endmodule ∷ rest in
    let h = items_longer m.items after in
    let k = header_longer m.header (symbol_at (symbol.Punctuator punctuator.Semicolon) m.semicolon ∷ items_text m.items after) in
    omega arith

module_again : (limit : ℕ) (m : Module) (rest : List Symbol) → IsModule m → items_height m.items ≤ limit → items_depth m.items ≤ limit → module_at limit (module_text m rest) ≡ Ok (m, rest)
unfolding module_at terminal
module_again limit m rest is shallow fits =
    let following = symbol_at (symbol.Keyword keyword.Endmodule) m.endmodule ∷ rest in
    let k = header_again m.header m.semicolon (items_text m.items following) is.0 in
    let h = items_again limit limit (stmt_at limit limit) (stmt_again limit limit) (length (items_text m.items following)) m.items following is.1 shallow fits (omega arith) refl refl in
    rw k (rw h refl)

modules_again : (limit m : ℕ) (d : Derivation) → IsSource d → source_height d ≤ limit → source_depth d ≤ limit → length (source_text d) ≤ m → modules_at limit m (source_text d) ≡ Ok d
unfolding modules_at
modules_again limit zero [] is shallow fits enough = refl
modules_again limit zero (m ∷ ms) is shallow fits enough = let h = module_longer m (source_text ms) in absurd (omega arith)
modules_again limit (suc n) [] is shallow fits enough = refl
modules_again limit (suc n) (m ∷ ms) is shallow fits enough =
    let longer = module_longer m (source_text ms) in
    let h = module_again limit m (source_text ms) is.0 (omega arith) (omega arith) in
    let k = modules_again limit n ms is.1 (omega arith) (omega arith) (omega arith) in
    let some : eqb (length (module_text m (source_text ms))) 0 ≡ false = ne_eqb _ _ (λ e. omega arith) in
    rw (some, h) (rw k refl)

-- what is spelled as a source within the limit is read as that source
pub source_again : (limit : ℕ) (d : Derivation) → IsSource d → source_height d ≤ limit → source_depth d ≤ limit → source_at limit (source_text d) ≡ Ok d
unfolding source_at
source_again limit d is shallow fits = modules_again limit (length (source_text d)) d is shallow fits (omega arith)

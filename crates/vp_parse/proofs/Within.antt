-- Reading leaves no more symbols than there are, also where it stops.
use Rattle.std.proofs.Common.{ℕ, zero, suc, ◌≤◌, ◌<◌, List, [], ◌∷◌, length, Bool, true, false, cond, eqb, Option, Result, Ok, Err, arith}
use Rattle.vp_lex.specs.declared.keyword.Keyword.TheVariants as keyword
use Rattle.vp_lex.specs.declared.token.Punctuator.TheVariants as punctuator
use Rattle.vp_source.specs.declared.symbol.Symbol.{Symbol}
use Rattle.vp_source.specs.declared.symbol.SymbolKind.{SymbolKind}
use Rattle.vp_source.specs.declared.symbol.SymbolKind.TheVariants as symbol
use Rattle.vp_source.specs.ExprGrammar.{Expr, Range}
use Rattle.vp_parse_expr.specs.Stopping.{Stop, Unexpected, ◌>>=◌, Reader, left_of, is_next, terminal}
use Rattle.vp_parse_expr.specs.Reading.{expr_at, range_at, literal_at}
use Rattle.vp_parse_expr.specs.laws.Within.{Within, IsWithin, Within-bind, Within-if, terminal_within, expr_within, range_within, literal_within}
use Rattle.vp_source.specs.StmtGrammar.{Stmt}
use Rattle.vp_parse_stmt.specs.Reading.{stmt_at}
use Rattle.vp_parse_stmt.specs.laws.Within.{stmt_within}
use Rattle.vp_source.specs.Grammar.{Declaration, Nets, Regs, LocalParameters, Assignments, Instances, Derivation}
use Rattle.vp_parse.specs.Reading.{further_at, width_at, is_end, value_at, ordered_at, named_at, connection_at, connected_at, connections_at, valued_at, net_at, instance_at, declarator_by, declarator_at, declarators_at, ranged_at, procedure_at, item_by, item_at, items_at, wire_at, output_at, direction_by, direction_at, declared_at, port_at, ports_at, listed_at, parentheses_at, header_at, module_at, modules_at, source_at}

further_within : {X : Type 0} (part : Reader X) → IsWithin part → (m : ℕ) → IsWithin (further_at part m)
unfolding further_at
further_within part within zero n ts le = le
further_within part within (suc m) n ts le =
    Within-if n (is_next (symbol.Punctuator punctuator.Comma) ts) _ _
    (Within-bind n (terminal (symbol.Punctuator punctuator.Comma) ts) _ (terminal_within (symbol.Punctuator punctuator.Comma) n ts le)
    (λ c le. Within-bind n (part c.1) _ (within n c.1 le)
    (λ p le. Within-bind n (further_at part m p.1) _ (further_within part within m n p.1 le) (λ l le. le))))
    le

width_within : IsWithin width_at
unfolding width_at
width_within n ts le =
    Within-if n (is_next (symbol.Punctuator punctuator.LeftBracket) ts) _ _
    (Within-bind n (range_at ts) _ (range_within n ts le) (λ r le. le))
    le

module _ (limit : ℕ) (lt : 0 < limit) where
  value_within : IsWithin (value_at limit)
  unfolding value_at
  value_within n ts le = Within-if n (is_end ts) _ _ le (Within-bind n (expr_at limit 0 ts) _ (expr_within limit 0 lt n ts le) (λ e le. le))

  connection_within : (named : Bool) → IsWithin (connection_at limit named)
  unfolding connection_at named_at ordered_at
  connection_within false n ts le = Within-bind n (value_at limit ts) _ (value_within n ts le) (λ v le. le)
  connection_within true n ts le =
      Within-bind n (terminal (symbol.Punctuator punctuator.Period) ts) _ (terminal_within (symbol.Punctuator punctuator.Period) n ts le)
      (λ d le. Within-bind n (terminal symbol.Name d.1) _ (terminal_within symbol.Name n d.1 le)
      (λ p le. Within-bind n (terminal (symbol.Punctuator punctuator.LeftParenthesis) p.1) _ (terminal_within (symbol.Punctuator punctuator.LeftParenthesis) n p.1 le)
      (λ o le. Within-bind n (value_at limit o.1) _ (value_within n o.1 le)
      (λ v le. Within-bind n (terminal (symbol.Punctuator punctuator.RightParenthesis) v.1) _ (terminal_within (symbol.Punctuator punctuator.RightParenthesis) n v.1 le)
      (λ z le. le)))))

  connections_within : IsWithin (connections_at limit)
  unfolding connections_at connected_at
  connections_within n ts le =
      let named = is_next (symbol.Punctuator punctuator.Period) ts in
      Within-if n (is_next (symbol.Punctuator punctuator.RightParenthesis) ts) _ _
      le
      (Within-bind n (connection_at limit named ts) _ (connection_within named n ts le)
      (λ c le. Within-bind n (further_at (connection_at limit named) (length c.1) c.1) _ (further_within (connection_at limit named) (connection_within named) (length c.1) n c.1 le) (λ l le. le)))

  valued_within : (value : Reader Expr) → IsWithin value → (name : ℕ) → IsWithin (valued_at value name)
  unfolding valued_at
  valued_within value within name n ts le =
      Within-bind n (terminal (symbol.Punctuator punctuator.Equals) ts) _ (terminal_within (symbol.Punctuator punctuator.Equals) n ts le)
      (λ q le. Within-bind n (value q.1) _ (within n q.1 le) (λ v le. le))

  declarator_by_within : (d : Declaration) (name : ℕ) → IsWithin (declarator_by limit d name)
  unfolding declarator_by net_at instance_at
  declarator_by_within (Nets place range) name n ts le = Within-if n (is_next (symbol.Punctuator punctuator.Equals) ts) _ _ (valued_within (expr_at limit 0) (expr_within limit 0 lt) name n ts le) le
  declarator_by_within (Regs place range) name n ts le = le
  declarator_by_within (LocalParameters place) name n ts le = valued_within literal_at literal_within name n ts le
  declarator_by_within (Assignments place) name n ts le = valued_within (expr_at limit 0) (expr_within limit 0 lt) name n ts le
  declarator_by_within (Instances definition) name n ts le =
      Within-bind n (terminal (symbol.Punctuator punctuator.LeftParenthesis) ts) _ (terminal_within (symbol.Punctuator punctuator.LeftParenthesis) n ts le)
      (λ o le. Within-bind n (connections_at limit o.1) _ (connections_within n o.1 le)
      (λ c le. Within-bind n (terminal (symbol.Punctuator punctuator.RightParenthesis) c.1) _ (terminal_within (symbol.Punctuator punctuator.RightParenthesis) n c.1 le)
      (λ z le. le)))

  declarator_within : (d : Declaration) → IsWithin (declarator_at limit d)
  unfolding declarator_at
  declarator_within d n ts le = Within-bind n (terminal symbol.Name ts) _ (terminal_within symbol.Name n ts le) (λ f le. declarator_by_within d f.0 n f.1 le)

  declarators_within : (d : Declaration) → IsWithin (declarators_at limit d)
  unfolding declarators_at
  declarators_within d n ts le =
      Within-bind n (declarator_at limit d ts) _ (declarator_within d n ts le)
      (λ f le. Within-bind n (further_at (declarator_at limit d) (length f.1) f.1) _ (further_within (declarator_at limit d) (declarator_within d) (length f.1) n f.1 le)
      (λ l le. Within-bind n (terminal (symbol.Punctuator punctuator.Semicolon) l.1) _ (terminal_within (symbol.Punctuator punctuator.Semicolon) n l.1 le)
      (λ s le. le)))

  ranged_within : (d : Option Range → Declaration) → IsWithin (ranged_at limit d)
  unfolding ranged_at
  ranged_within d n ts le = Within-bind n (width_at ts) _ (width_within n ts le) (λ w le. declarators_within (d w.0) n w.1 le)

  module _ (next : Reader Stmt) (within : IsWithin next) where
    item_by_within : (kind : SymbolKind) (place n : ℕ) (ts : List Symbol) → suc (length ts) ≤ n → Within n (item_by limit next kind place ts)
    unfolding item_by procedure_at
    item_by_within (symbol.Keyword keyword.Wire) place n ts le = ranged_within (Nets place) n ts (omega arith)
    item_by_within (symbol.Keyword keyword.Reg) place n ts le = ranged_within (Regs place) n ts (omega arith)
    item_by_within (symbol.Keyword keyword.Localparam) place n ts le = declarators_within (LocalParameters place) n ts (omega arith)
    item_by_within (symbol.Keyword keyword.Assign) place n ts le = declarators_within (Assignments place) n ts (omega arith)
    item_by_within symbol.Name place n ts le = declarators_within (Instances place) n ts (omega arith)
    item_by_within (symbol.Keyword keyword.Initial) place n ts le = Within-bind n (next ts) _ (within n ts (omega arith)) (λ b le. le)
    item_by_within (symbol.Keyword keyword.Always) place n ts le = Within-bind n (next ts) _ (within n ts (omega arith)) (λ b le. le)
    item_by_within _ place n ts le = omega arith

    item_within : IsWithin (item_at limit next)
    unfolding item_at
    item_within n [] le = le
    item_within n (s ∷ ts) le = item_by_within s.kind s.place n ts le

    items_within : (m : ℕ) → IsWithin (items_at limit next m)
    unfolding items_at
    items_within zero n ts le = Within-if n (is_next (symbol.Keyword keyword.Endmodule) ts) _ _ le le
    items_within (suc m) n ts le =
        Within-if n (is_next (symbol.Keyword keyword.Endmodule) ts) _ _ le
        (Within-bind n (item_at limit next ts) _ (item_within n ts le) (λ i le. Within-bind n (items_at limit next m i.1) _ (items_within m n i.1 le) (λ l le. le)))

-- ---- ports

wire_within : IsWithin wire_at
unfolding wire_at
wire_within n ts le =
    Within-if n (is_next (symbol.Keyword keyword.Wire) ts) _ _ (Within-bind n (terminal (symbol.Keyword keyword.Wire) ts) _ (terminal_within (symbol.Keyword keyword.Wire) n ts le) (λ w le. le)) le

direction_by_within : (kind : SymbolKind) (place n : ℕ) (ts : List Symbol) → suc (length ts) ≤ n → Within n (direction_by kind place ts)
unfolding direction_by output_at
direction_by_within (symbol.Keyword keyword.Input) place n ts le = Within-bind n (wire_at ts) _ (wire_within n ts (omega arith)) (λ w le. le)
direction_by_within (symbol.Keyword keyword.Output) place n ts le =
    Within-if n (is_next (symbol.Keyword keyword.Reg) ts) _ _
    (Within-bind n (terminal (symbol.Keyword keyword.Reg) ts) _ (terminal_within (symbol.Keyword keyword.Reg) n ts (omega arith)) (λ r le. le))
    (Within-bind n (wire_at ts) _ (wire_within n ts (omega arith)) (λ w le. le))
direction_by_within _ place n ts le = omega arith

direction_within : IsWithin direction_at
unfolding direction_at
direction_within n [] le = le
direction_within n (s ∷ ts) le = direction_by_within s.kind s.place n ts le

declared_within : IsWithin declared_at
unfolding declared_at
declared_within n ts le =
    Within-bind n (direction_at ts) _ (direction_within n ts le)
    (λ d le. Within-bind n (width_at d.1) _ (width_within n d.1 le)
    (λ w le. Within-bind n (terminal symbol.Name w.1) _ (terminal_within symbol.Name n w.1 le)
    (λ f le. le)))

port_within : IsWithin port_at
unfolding port_at
port_within n ts le =
    Within-if n (is_next symbol.Name ts) _ _ (Within-bind n (terminal symbol.Name ts) _ (terminal_within symbol.Name n ts le) (λ f le. le)) (declared_within n ts le)

listed_within : IsWithin listed_at
unfolding listed_at ports_at
listed_within n ts le =
    Within-if n (is_next (symbol.Punctuator punctuator.RightParenthesis) ts) _ _
    le
    (Within-bind n (declared_at ts) _ (declared_within n ts le)
    (λ f le. Within-bind n (further_at port_at (length f.1) f.1) _ (further_within port_at port_within (length f.1) n f.1 le) (λ l le. le)))

header_within : IsWithin header_at
unfolding header_at parentheses_at
header_within n ts le =
    Within-if n (is_next (symbol.Punctuator punctuator.LeftParenthesis) ts) _ _
    (Within-bind n (terminal (symbol.Punctuator punctuator.LeftParenthesis) ts) _ (terminal_within (symbol.Punctuator punctuator.LeftParenthesis) n ts le)
    (λ o le. Within-bind n (listed_at o.1) _ (listed_within n o.1 le)
    (λ p le. Within-bind n (terminal (symbol.Punctuator punctuator.RightParenthesis) p.1) _ (terminal_within (symbol.Punctuator punctuator.RightParenthesis) n p.1 le)
    (λ z le. le))))
    le

-- ---- modules

module_within : (limit : ℕ) → 0 < limit → IsWithin (module_at limit)
unfolding module_at
module_within limit lt n ts le =
    Within-bind n (terminal (symbol.Keyword keyword.Module) ts) _ (terminal_within (symbol.Keyword keyword.Module) n ts le)
    (λ k le. Within-bind n (terminal symbol.Name k.1) _ (terminal_within symbol.Name n k.1 le)
    (λ m le. Within-bind n (header_at m.1) _ (header_within n m.1 le)
    (λ h le. Within-bind n (terminal (symbol.Punctuator punctuator.Semicolon) h.1) _ (terminal_within (symbol.Punctuator punctuator.Semicolon) n h.1 le)
    (λ s le. Within-bind n (items_at limit (stmt_at limit limit) (length s.1) s.1) _ (items_within limit lt (stmt_at limit limit) (stmt_within limit limit) (length s.1) n s.1 le)
    (λ l le. Within-bind n (terminal (symbol.Keyword keyword.Endmodule) l.1) _ (terminal_within (symbol.Keyword keyword.Endmodule) n l.1 le)
    (λ z le. le))))))

-- where it stops, at most so many symbols are left
abbrev pub StopsWithin : {A : Type 0} → ℕ → Result A Stop → Type 0
StopsWithin n (Ok x) = Unit {0}
StopsWithin n (Err s) = left_of s ≤ n

StopsWithin-if : {A : Type 0} (n : ℕ) (b : Bool) (x y : Result A Stop) → StopsWithin n x → StopsWithin n y → StopsWithin n (cond b x y)
StopsWithin-if n true x y h k = h
StopsWithin-if n false x y h k = k

StopsWithin-bind : {A B : Type 0} (n : ℕ) (r : Result (A × List Symbol) Stop) (f : A × List Symbol → Result B Stop) → Within n r → ((x : A × List Symbol) → length x.1 ≤ n → StopsWithin n (f x)) → StopsWithin n (r >>= f)
StopsWithin-bind n (Ok x) f h k = k x h
StopsWithin-bind n (Err s) f h k = h

StopsWithin-last : {A B : Type 0} (n : ℕ) (r : Result A Stop) (f : A → B) → StopsWithin n r → StopsWithin n (r >>= λ x. Ok (f x))
StopsWithin-last n (Ok x) f h = tt
StopsWithin-last n (Err s) f h = h

modules_within : (limit : ℕ) → 0 < limit → (m n : ℕ) (ts : List Symbol) → length ts ≤ n → StopsWithin n (modules_at limit m ts)
unfolding modules_at
modules_within limit lt zero n ts le = StopsWithin-if {A = Derivation} n (eqb (length ts) 0) (Ok []) (Err (Unexpected (length ts))) tt le
modules_within limit lt (suc m) n ts le =
    StopsWithin-if {A = Derivation} n (eqb (length ts) 0) _ _
    tt
    (StopsWithin-bind n (module_at limit ts) _ (module_within limit lt n ts le)
    (λ x le. StopsWithin-last n (modules_at limit m x.1) (λ (l : Derivation). (let d : Derivation = x.0 ∷ l in d)) (modules_within limit lt m n x.1 le)))

pub source_within : (limit : ℕ) → 0 < limit → (symbols : List Symbol) → StopsWithin (length symbols) (source_at limit symbols)
unfolding source_at
source_within limit lt symbols = modules_within limit lt (length symbols) (length symbols) symbols (omega arith)

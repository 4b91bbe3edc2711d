-- A higher limit changes nothing but where the limit was met.
use Rattle.std.proofs.Common.{ℕ, zero, suc, ◌≤◌, List, [], ◌∷◌, length, eqb, Bool, true, false, Option, Ok, refl}
use Rattle.vp_lex.specs.declared.keyword.Keyword.TheVariants as keyword
use Rattle.vp_lex.specs.declared.token.Punctuator.TheVariants as punctuator
use Rattle.vp_source.specs.declared.symbol.Symbol.{Symbol}
use Rattle.vp_source.specs.declared.symbol.SymbolKind.{SymbolKind}
use Rattle.vp_source.specs.declared.symbol.SymbolKind.TheVariants as symbol
use Rattle.vp_source.specs.ExprGrammar.{Range}
use Rattle.vp_parse_expr.specs.Stopping.{◌>>=◌, Reader, is_next, terminal}
use Rattle.vp_parse_expr.specs.Reading.{expr_at, literal_at}
use Rattle.vp_parse_expr.specs.laws.Raise.{OrTooDeep, OrTooDeep-same, OrTooDeep-bind, OrTooDeep-then, OrTooDeep-if, Below, expr_raise}
use Rattle.vp_source.specs.StmtGrammar.{Stmt}
use Rattle.vp_parse_stmt.specs.Reading.{stmt_at}
use Rattle.vp_parse_stmt.specs.laws.Raise.{stmt_raise}
use Rattle.vp_source.specs.Grammar.{Named, Declaration, Nets, Regs, LocalParameters, Assignments, Instances, Instance, Item, Declares, Initial, Always}
use Rattle.vp_parse.specs.Reading.{further_at, width_at, is_end, value_at, ordered_at, named_at, connection_at, connected_at, connections_at, valued_at, net_at, instance_at, declarator_by, declarator_at, declarators_at, ranged_at, procedure_at, item_by, item_at, items_at, header_at, module_at, modules_at, source_at}

further_raise : {X : Type 0} (low high : Reader X) → Below low high → (m : ℕ) → Below (further_at low m) (further_at high m)
unfolding further_at
further_raise low high below zero ts = refl
further_raise low high below (suc m) ts =
    OrTooDeep-if (is_next (symbol.Punctuator punctuator.Comma) ts) _ _ _ _
    (OrTooDeep-then (terminal (symbol.Punctuator punctuator.Comma) ts) _ _
    (λ c. OrTooDeep-bind (low c.1) (high c.1) _ _ (below c.1)
    (λ p. OrTooDeep-bind (further_at low m p.1) (further_at high m p.1) _ _ (further_raise low high below m p.1) (λ l. refl))))
    refl

module _ (low high : ℕ) (le : low ≤ high) where
  value_raise : Below (value_at low) (value_at high)
  unfolding value_at
  value_raise ts = OrTooDeep-if (is_end ts) _ _ _ _ refl (OrTooDeep-bind (expr_at low 0 ts) (expr_at high 0 ts) _ _ (expr_raise low high le 0 ts) (λ e. refl))

  ordered_raise : Below (ordered_at low) (ordered_at high)
  unfolding ordered_at
  ordered_raise ts = OrTooDeep-bind (value_at low ts) (value_at high ts) _ _ (value_raise ts) (λ v. refl)

  named_raise : Below (named_at low) (named_at high)
  unfolding named_at
  named_raise ts =
      OrTooDeep-then (terminal (symbol.Punctuator punctuator.Period) ts) _ _
      (λ d. OrTooDeep-then (terminal symbol.Name d.1) _ _
      (λ p. OrTooDeep-then (terminal (symbol.Punctuator punctuator.LeftParenthesis) p.1) _ _
      (λ o. OrTooDeep-bind (value_at low o.1) (value_at high o.1) _ _ (value_raise o.1)
      (λ v. OrTooDeep-same (terminal (symbol.Punctuator punctuator.RightParenthesis) v.1 >>= λ z. Ok (Named d.0 p.0 o.0 v.0 z.0, z.1))))))

  connection_raise : (named : Bool) → Below (connection_at low named) (connection_at high named)
  unfolding connection_at
  connection_raise true ts = named_raise ts
  connection_raise false ts = ordered_raise ts

  connected_raise : (named : Bool) → Below (connected_at low named) (connected_at high named)
  unfolding connected_at
  connected_raise named ts =
      OrTooDeep-bind (connection_at low named ts) (connection_at high named ts) _ _ (connection_raise named ts)
      (λ c. OrTooDeep-bind (further_at (connection_at low named) (length c.1) c.1) (further_at (connection_at high named) (length c.1) c.1) _ _ (further_raise (connection_at low named) (connection_at high named) (connection_raise named) (length c.1) c.1) (λ l. refl))

  connections_raise : Below (connections_at low) (connections_at high)
  unfolding connections_at
  connections_raise ts =
      OrTooDeep-if (is_next (symbol.Punctuator punctuator.RightParenthesis) ts) _ _ _ _ refl (connected_raise (is_next (symbol.Punctuator punctuator.Period) ts) ts)

  valued_raise : (name : ℕ) → Below (valued_at (expr_at low 0) name) (valued_at (expr_at high 0) name)
  unfolding valued_at
  valued_raise name ts =
      OrTooDeep-then (terminal (symbol.Punctuator punctuator.Equals) ts) _ _
      (λ q. OrTooDeep-bind (expr_at low 0 q.1) (expr_at high 0 q.1) _ _ (expr_raise low high le 0 q.1) (λ v. refl))

  net_raise : (name : ℕ) → Below (net_at low name) (net_at high name)
  unfolding net_at
  net_raise name ts = OrTooDeep-if (is_next (symbol.Punctuator punctuator.Equals) ts) _ _ _ _ (valued_raise name ts) refl

  instance_raise : (name : ℕ) → Below (instance_at low name) (instance_at high name)
  unfolding instance_at
  instance_raise name ts =
      OrTooDeep-then (terminal (symbol.Punctuator punctuator.LeftParenthesis) ts) _ _
      (λ o. OrTooDeep-bind (connections_at low o.1) (connections_at high o.1) _ _ (connections_raise o.1)
      (λ c. OrTooDeep-same (terminal (symbol.Punctuator punctuator.RightParenthesis) c.1 >>= λ z. Ok (Instance name o.0 c.0 z.0, z.1))))

  declarator_by_raise : (d : Declaration) (name : ℕ) → Below (declarator_by low d name) (declarator_by high d name)
  unfolding declarator_by
  declarator_by_raise (Nets place range) name ts = net_raise name ts
  declarator_by_raise (Regs place range) name ts = refl
  declarator_by_raise (LocalParameters place) name ts = OrTooDeep-same (valued_at literal_at name ts)
  declarator_by_raise (Assignments place) name ts = valued_raise name ts
  declarator_by_raise (Instances definition) name ts = instance_raise name ts

  declarator_raise : (d : Declaration) → Below (declarator_at low d) (declarator_at high d)
  unfolding declarator_at
  declarator_raise d ts = OrTooDeep-then (terminal symbol.Name ts) _ _ (λ n. declarator_by_raise d n.0 n.1)

  declarators_raise : (d : Declaration) → Below (declarators_at low d) (declarators_at high d)
  unfolding declarators_at
  declarators_raise d ts =
      OrTooDeep-bind (declarator_at low d ts) (declarator_at high d ts) _ _ (declarator_raise d ts)
      (λ f. OrTooDeep-bind (further_at (declarator_at low d) (length f.1) f.1) (further_at (declarator_at high d) (length f.1) f.1) _ _ (further_raise (declarator_at low d) (declarator_at high d) (declarator_raise d) (length f.1) f.1)
      (λ l. OrTooDeep-same (terminal (symbol.Punctuator punctuator.Semicolon) l.1 >>= λ s. Ok (Declares d f.0 l.0 s.0, s.1))))

  ranged_raise : (d : Option Range → Declaration) → Below (ranged_at low d) (ranged_at high d)
  unfolding ranged_at
  ranged_raise d ts = OrTooDeep-then (width_at ts) _ _ (λ w. declarators_raise (d w.0) w.1)

  module _ (shallow deep : Reader Stmt) (below : Below shallow deep) where
    procedure_raise : (construct : Stmt → Item) → Below (procedure_at shallow construct) (procedure_at deep construct)
    unfolding procedure_at
    procedure_raise construct ts = OrTooDeep-bind (shallow ts) (deep ts) _ _ (below ts) (λ b. refl)

    item_by_raise : (kind : SymbolKind) (place : ℕ) → Below (item_by low shallow kind place) (item_by high deep kind place)
    unfolding item_by
    item_by_raise (symbol.Keyword keyword.Wire) place ts = ranged_raise (Nets place) ts
    item_by_raise (symbol.Keyword keyword.Reg) place ts = ranged_raise (Regs place) ts
    item_by_raise (symbol.Keyword keyword.Localparam) place ts = declarators_raise (LocalParameters place) ts
    item_by_raise (symbol.Keyword keyword.Assign) place ts = declarators_raise (Assignments place) ts
    item_by_raise symbol.Name place ts = declarators_raise (Instances place) ts
    item_by_raise (symbol.Keyword keyword.Initial) place ts = procedure_raise (Initial place) ts
    item_by_raise (symbol.Keyword keyword.Always) place ts = procedure_raise (Always place) ts
    item_by_raise _ place ts = refl

    item_raise : Below (item_at low shallow) (item_at high deep)
    unfolding item_at
    item_raise [] = refl
    item_raise (s ∷ ts) = item_by_raise s.kind s.place ts

    items_raise : (m : ℕ) → Below (items_at low shallow m) (items_at high deep m)
    unfolding items_at
    items_raise zero ts = OrTooDeep-if (is_next (symbol.Keyword keyword.Endmodule) ts) _ _ _ _ refl refl
    items_raise (suc m) ts =
        OrTooDeep-if (is_next (symbol.Keyword keyword.Endmodule) ts) _ _ _ _
        refl
        (OrTooDeep-bind (item_at low shallow ts) (item_at high deep ts) _ _ (item_raise ts)
        (λ i. OrTooDeep-bind (items_at low shallow m i.1) (items_at high deep m i.1) _ _ (items_raise m i.1) (λ l. refl)))

  module_raise : Below (module_at low) (module_at high)
  unfolding module_at
  module_raise ts =
      OrTooDeep-then (terminal (symbol.Keyword keyword.Module) ts) _ _
      (λ k. OrTooDeep-then (terminal symbol.Name k.1) _ _
      (λ n. OrTooDeep-then (header_at n.1) _ _
      (λ h. OrTooDeep-then (terminal (symbol.Punctuator punctuator.Semicolon) h.1) _ _
      (λ s. OrTooDeep-bind (items_at low (stmt_at low low) (length s.1) s.1) (items_at high (stmt_at high high) (length s.1) s.1) _ _ (items_raise (stmt_at low low) (stmt_at high high) (stmt_raise low high low high le le) (length s.1) s.1)
      (λ l. OrTooDeep-then (terminal (symbol.Keyword keyword.Endmodule) l.1) _ _ (λ z. refl))))))

  modules_raise : (m : ℕ) (ts : List Symbol) → OrTooDeep (modules_at low m ts) (modules_at high m ts)
  unfolding modules_at
  modules_raise zero ts = OrTooDeep-if (eqb (length ts) 0) _ _ _ _ refl refl
  modules_raise (suc m) ts =
      OrTooDeep-if (eqb (length ts) 0) _ _ _ _
      refl
      (OrTooDeep-bind (module_at low ts) (module_at high ts) _ _ (module_raise ts)
      (λ x. OrTooDeep-bind (modules_at low m x.1) (modules_at high m x.1) _ _ (modules_raise m x.1) (λ l. refl)))

-- what a limit answers, each higher limit answers too, unless it was met
pub source_raise : (low high : ℕ) (ts : List Symbol) → low ≤ high → OrTooDeep (source_at low ts) (source_at high ts)
unfolding source_at
source_raise low high ts le = modules_raise low high le (length ts) ts

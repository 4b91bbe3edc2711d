-- The loops of the reading into a list, one turn at a time, and one more level of depth.
use Rattle.std.proofs.Common.{◌≡◌, ℕ, zero, suc, ◌+◌, ◌-◌, ◌≤◌, ◌<◌, List, [], ◌∷◌, length, Bool, true, false, Some, None, Result, Ok, Err, refl, sym, ap, ◌∙◌, arith}
use Rattle.vp_lex.specs.declared.token.Punctuator.TheVariants as punctuator
use Rattle.vp_source.specs.declared.expression.Expression as node
use Rattle.vp_source.specs.declared.operator.BinaryOperator.{BinaryOperator}
use Rattle.vp_parse_expr.specs.declared.reading.Stop as stop
use Rattle.vp_parse_expr.specs.declared.reading.Stop.TheVariants as stop_of
use Rattle.vp_source.specs.declared.symbol.Symbol.{Symbol}
use Rattle.vp_source.specs.declared.symbol.SymbolKind.TheVariants as symbol
use Rattle.vp_source.specs.Operators.{binds}
use Rattle.vp_parse_expr.specs.Stopping.{Stop, TooDeep, Fails, is_next}
use Rattle.vp_parse_expr.specs.Placing.{Made, Placer, further_part_into, further_parts_into, binary_into, more_into, chain_into, expr_into}

-- ---- the expressions in braces

-- what is left of braces, with enough turns, gives the whole
pub record PartsGoOn (next : ℕ → Placer) (brace list depth : ℕ) (nodes : List node.Expression) (rest : List Symbol) (whole : Result Made Stop) : Type 0 where
  pub turns : ℕ
  pub enough : length rest ≤ turns
  pub same_end : further_parts_into next turns brace list depth nodes rest ≡ whole

-- a comma is next
abbrev comma : List Symbol → Bool
comma ts = is_next (symbol.Punctuator punctuator.Comma) ts

comma_longer : (rest : List Symbol) → comma rest ≡ true → 0 < length rest
comma_longer [] h = absurd cc
comma_longer (s ∷ ts) h = omega arith

module _ (next : ℕ → Placer) (brace list depth : ℕ) (nodes : List node.Expression) (rest : List Symbol) (whole : Result Made Stop) where
  part_turn_by : (e : Made) (m : ℕ) → comma rest ≡ true → further_part_into next brace list depth nodes rest ≡ Ok e → length e.3 < length rest → length rest ≤ m → further_parts_into next m brace list depth nodes rest ≡ whole → PartsGoOn next brace e.0 e.1 e.2 e.3 whole
  unfolding further_parts_into
  part_turn_by e zero b h lt le p = absurd (omega arith)
  part_turn_by e (suc m) b h lt le p = record { turns = m; enough = omega arith; same_end = sym (rw (b, h) refl) ∙ p }

  -- one more expression
  pub part_turn : (e : Made) → comma rest ≡ true → further_part_into next brace list depth nodes rest ≡ Ok e → length e.3 < length rest → PartsGoOn next brace list depth nodes rest whole → PartsGoOn next brace e.0 e.1 e.2 e.3 whole
  part_turn e b h lt g = part_turn_by e g.turns b h lt g.enough g.same_end

  part_fails_by : (s : Stop) (m : ℕ) → comma rest ≡ true → further_part_into next brace list depth nodes rest ≡ Err s → length rest ≤ m → further_parts_into next m brace list depth nodes rest ≡ whole → whole ≡ Err s
  unfolding further_parts_into
  part_fails_by s zero b h le p = let lt = comma_longer rest b in absurd (omega arith)
  part_fails_by s (suc m) b h le p = sym p ∙ rw (b, h) refl

  -- the next expression fails
  pub part_fails : (e : stop.Stop) → comma rest ≡ true → Fails e (further_part_into next brace list depth nodes rest) → PartsGoOn next brace list depth nodes rest whole → Fails e whole
  part_fails (stop_of.Syntax n) b h g = part_fails_by _ g.turns b h g.enough g.same_end
  part_fails (stop_of.LeftOut n) b h g = part_fails_by _ g.turns b h g.enough g.same_end
  part_fails (stop_of.TooDeep n) b h g = part_fails_by _ g.turns b h g.enough g.same_end
  part_fails stop_of.NoMemory b h g = tt

  parts_done_by : (m : ℕ) → comma rest ≡ false → further_parts_into next m brace list depth nodes rest ≡ whole → whole ≡ Ok (list, depth, nodes, rest)
  unfolding further_parts_into
  parts_done_by zero b p = sym p
  parts_done_by (suc m) b p = sym p ∙ rw b refl

  -- no more expressions
  pub parts_done : comma rest ≡ false → PartsGoOn next brace list depth nodes rest whole → whole ≡ Ok (list, depth, nodes, rest)
  parts_done b g = parts_done_by g.turns b g.same_end

-- ---- operators of two operands

-- what is left of a chain of operators, with enough turns, gives the whole
pub record OperatorsGoOn (next : ℕ → Placer) (limit least left depth : ℕ) (nodes : List node.Expression) (rest : List Symbol) (whole : Result Made Stop) : Type 0 where
  pub turns : ℕ
  pub enough : length rest ≤ turns
  pub same_end : more_into next limit turns least left depth nodes rest ≡ whole

binds_longer : (least : ℕ) (rest : List Symbol) (o : BinaryOperator) → binds least rest ≡ Some o → 0 < length rest
binds_longer least [] o h = absurd cc
binds_longer least (s ∷ ts) o h = omega arith

module _ (next : ℕ → Placer) (limit least left depth : ℕ) (nodes : List node.Expression) (rest : List Symbol) (whole : Result Made Stop) where
  operator_turn_by : (o : BinaryOperator) (e : Made) (m : ℕ) → binds least rest ≡ Some o → binary_into next limit o left depth nodes rest ≡ Ok e → length e.3 < length rest → length rest ≤ m → more_into next limit m least left depth nodes rest ≡ whole → OperatorsGoOn next limit least e.0 e.1 e.2 e.3 whole
  unfolding more_into
  operator_turn_by o e zero b h lt le p = absurd (omega arith)
  operator_turn_by o e (suc m) b h lt le p = record { turns = m; enough = omega arith; same_end = sym (rw (b, h) refl) ∙ p }

  -- one more operator and its right operand
  pub operator_turn : (o : BinaryOperator) (e : Made) → binds least rest ≡ Some o → binary_into next limit o left depth nodes rest ≡ Ok e → length e.3 < length rest → OperatorsGoOn next limit least left depth nodes rest whole → OperatorsGoOn next limit least e.0 e.1 e.2 e.3 whole
  operator_turn o e b h lt g = operator_turn_by o e g.turns b h lt g.enough g.same_end

  operator_fails_by : (o : BinaryOperator) (s : Stop) (m : ℕ) → binds least rest ≡ Some o → binary_into next limit o left depth nodes rest ≡ Err s → length rest ≤ m → more_into next limit m least left depth nodes rest ≡ whole → whole ≡ Err s
  unfolding more_into
  operator_fails_by o s zero b h le p = let lt = binds_longer least rest o b in absurd (omega arith)
  operator_fails_by o s (suc m) b h le p = sym p ∙ rw (b, h) refl

  -- the next operator fails, or its right operand
  pub operator_fails : (o : BinaryOperator) (e : stop.Stop) → binds least rest ≡ Some o → Fails e (binary_into next limit o left depth nodes rest) → OperatorsGoOn next limit least left depth nodes rest whole → Fails e whole
  operator_fails o (stop_of.Syntax n) b h g = operator_fails_by o _ g.turns b h g.enough g.same_end
  operator_fails o (stop_of.LeftOut n) b h g = operator_fails_by o _ g.turns b h g.enough g.same_end
  operator_fails o (stop_of.TooDeep n) b h g = operator_fails_by o _ g.turns b h g.enough g.same_end
  operator_fails o stop_of.NoMemory b h g = tt

  operators_done_by : (m : ℕ) → binds least rest ≡ None → more_into next limit m least left depth nodes rest ≡ whole → whole ≡ Ok (left, depth, nodes, rest)
  unfolding more_into
  operators_done_by zero b p = sym p
  operators_done_by (suc m) b p = sym p ∙ rw b refl

  -- no more operators
  pub operators_done : binds least rest ≡ None → OperatorsGoOn next limit least left depth nodes rest whole → whole ≡ Ok (left, depth, nodes, rest)
  operators_done b g = operators_done_by g.turns b g.same_end

-- ---- depth

-- an expression within one more level of depth
pub expr_step : (d least : ℕ) (nodes : List node.Expression) (ts : List Symbol) → (d ≡ 0 → ⊥) → expr_into d least nodes ts ≡ chain_into (expr_into (d - 1)) (d - 1) least nodes ts
unfolding expr_into
expr_step zero least nodes ts h = absurd (h refl)
expr_step (suc d) least nodes ts h = let e : d ≡ suc d - 1 = omega arith in ap (λ k. chain_into (expr_into k) k least nodes ts) e

pub expr_none : (d least : ℕ) (nodes : List node.Expression) (ts : List Symbol) → d ≡ 0 → expr_into d least nodes ts ≡ Err (TooDeep (length ts + 1))
unfolding expr_into
expr_none zero least nodes ts h = refl
expr_none (suc d) least nodes ts h = absurd (omega arith)

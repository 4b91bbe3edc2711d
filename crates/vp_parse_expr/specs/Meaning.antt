-- What the code finds, and what it refuses, in the terms of derivations.
use Rattle.std.specs.Prelude.{◌≡◌, ℕ, ◌≤◌, false, true, List, ◌∷◌, None}
use Rattle.vp_lex.specs.declared.token.Punctuator.TheVariants as punctuator
use Rattle.vp_source.specs.declared.expression.Expression as node
use Rattle.vp_source.specs.declared.expression.Range as range
use Rattle.vp_source.specs.declared.symbol.Symbol.{Symbol}
use Rattle.vp_source.specs.declared.symbol.SymbolKind.{SymbolKind}
use Rattle.vp_source.specs.declared.symbol.SymbolKind.TheVariants as symbol
use Rattle.vp_source.specs.Kinds.{symbol_at}
use Rattle.vp_parse_expr.specs.Stopping.{is_next}
use Rattle.vp_source.specs.Operators.{binds}
use Rattle.vp_source.specs.ExprGrammar.{Range, Expr, Selection, range_text, expr_text, selection_text, IsRange, IsExpr, IsSelection, expr_depth, is_sized, selection_depth}
use Rattle.vp_source.specs.ExprLayout.{put_range, put_expr, put_selection}
use Rattle.vp_parse_expr.specs.Placing.{Made, MadeSelection}
use Rattle.vp_parse_expr.specs.Reading.{is_base_next, is_choice}

-- no symbol follows with which an expression, of operators that bind at least so tightly, goes on
pub record Stops (least : ℕ) (ts : List Symbol) : Type 0 where
  pub no_operator : binds least ts ≡ None
  pub no_choice : is_choice least ts ≡ false
  pub no_bracket : is_next (symbol.Punctuator punctuator.LeftBracket) ts ≡ false
  pub no_base : is_base_next ts ≡ false

-- these symbols begin with an expression, that nests at most so deep; its parts lie after others in the list
pub record IsExpressionOf (limit : ℕ) (nodes : List node.Expression) (ts : List Symbol) (x : Made) (e : Expr) : Type 0 where
  pub spelled : ts ≡ expr_text e x.3
  pub is : IsExpr e
  pub depth : x.1 ≡ expr_depth e
  pub fits : x.1 ≤ limit
  pub placed : (x.0, x.2) ≡ put_expr e nodes

-- these symbols begin with an expression, that nests at most so deep, and nothing follows with which it goes on
pub record BeginsExpression (limit : ℕ) (ts : List Symbol) (e : Expr) (rest : List Symbol) : Type 0 where
  pub spelled : ts ≡ expr_text e rest
  pub is : IsExpr e
  pub fits : expr_depth e ≤ limit
  pub stops : Stops 0 rest

-- these symbols begin with a selection, whose index nests at most so deep; its parts lie after others in the list
pub record IsSelectionOf (limit : ℕ) (nodes : List node.Expression) (ts : List Symbol) (x : MadeSelection) (s : Selection) : Type 0 where
  pub spelled : ts ≡ selection_text s x.3
  pub is : IsSelection s
  pub depth : x.1 ≡ selection_depth s
  pub fits : x.1 ≤ limit
  pub placed : (x.0, x.2) ≡ put_selection s nodes

-- these symbols begin with a selection, whose index nests at most so deep, and no bracket follows
pub record BeginsSelection (limit : ℕ) (ts : List Symbol) (s : Selection) (rest : List Symbol) : Type 0 where
  pub spelled : ts ≡ selection_text s rest
  pub is : IsSelection s
  pub fits : selection_depth s ≤ limit
  pub stops : is_next (symbol.Punctuator punctuator.LeftBracket) rest ≡ false

-- these symbols begin with a range of these bounds
pub record IsRangeOf (ts : List Symbol) (x : range.Range × List Symbol) (r : Range) : Type 0 where
  pub spelled : ts ≡ range_text r x.1
  pub is : IsRange r
  pub bounds : x.0 ≡ put_range r

-- these symbols begin with a literal with a size; it lies after others in the list (3.5.1)
pub record IsLiteralOf (nodes : List node.Expression) (ts : List Symbol) (x : Made) (e : Expr) : Type 0 where
  pub spelled : ts ≡ expr_text e x.3
  pub is : IsExpr e
  pub sized : is_sized e ≡ true
  pub placed : (x.0, x.2) ≡ put_expr e nodes

-- these symbols begin with no literal with a size
abbrev pub NoLiteral : List Symbol → Type 0
NoLiteral ts = (e : Expr) (rest : List Symbol) → ts ≡ expr_text e rest → IsExpr e → is_sized e ≡ true → ⊥

-- these symbols begin with no symbol of a kind
abbrev pub NoTerminal : SymbolKind → List Symbol → Type 0
NoTerminal kind ts = (place : ℕ) (rest : List Symbol) → ts ≡ symbol_at kind place ∷ rest → ⊥

-- these symbols begin with no expression that nests at most so deep
abbrev pub NoExpression : (limit : ℕ) → List Symbol → Type 0
NoExpression limit ts = (e : Expr) (rest : List Symbol) → BeginsExpression limit ts e rest → ⊥

-- these symbols begin with no selection whose index nests at most so deep
abbrev pub NoSelection : (limit : ℕ) → List Symbol → Type 0
NoSelection limit ts = (s : Selection) (rest : List Symbol) → BeginsSelection limit ts s rest → ⊥

-- these symbols begin with no range
abbrev pub NoRange : List Symbol → Type 0
NoRange ts = (r : Range) (rest : List Symbol) → ts ≡ range_text r rest → IsRange r → ⊥

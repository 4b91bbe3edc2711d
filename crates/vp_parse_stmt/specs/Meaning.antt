-- What the code finds, and what it refuses, in the terms of derivations.
use Rattle.std.specs.Prelude.{◌≡◌, ℕ, ◌≤◌, false, List}
use Rattle.vp_source.specs.declared.symbol.Symbol.{Symbol}
use Rattle.vp_source.specs.ExprGrammar.{Expr, IsExpr, expr_depth, expr_text}
use Rattle.vp_source.specs.StmtGrammar.{Stmt, Delayed, When, Choose, Wait, While, Forever, For, Awaited, IsStmt, stmt_depth, stmt_height, stmt_text}
use Rattle.vp_source.specs.StmtLayout.{Lists, put_stmt, put_value}
use Rattle.vp_parse_stmt.specs.Placing.{Made}
use Rattle.vp_parse_stmt.specs.Reading.{is_else}

-- no else follows that a statement would take (9.4)
abbrev pub Follows : Stmt → List Symbol → Type 0
Follows (When if_place opening value closing first) rest = is_else rest ≡ false
Follows (Choose if_place opening value closing first else_place second) rest = Follows second rest
Follows (Delayed hash delay body) rest = Follows body rest
Follows (Wait wait opening value closing body) rest = Follows body rest
Follows (While while_place opening value closing body) rest = Follows body rest
Follows (Forever forever body) rest = Follows body rest
Follows (For for_place opening target selection equals value first_semicolon condition second_semicolon step_target step_selection step_equals step closing body) rest = Follows body rest
Follows (Awaited at_place event body) rest = Follows body rest
Follows _ rest = Unit {0}

-- these symbols begin with an expression, that nests at most so deep; its parts lie after others in the lists
pub record IsValueOf (limit : ℕ) (lists : Lists) (ts : List Symbol) (x : Made) (e : Expr) : Type 0 where
  pub spelled : ts ≡ expr_text e x.2
  pub is : IsExpr e
  pub fits : expr_depth e ≤ limit
  pub placed : (x.0, x.1) ≡ put_value e lists

-- these symbols begin with a statement, whose expressions and which itself nest at most so deep, and no else follows that it would
-- take
pub record BeginsStatement (limit depth : ℕ) (ts : List Symbol) (s : Stmt) (rest : List Symbol) : Type 0 where
  pub spelled : ts ≡ stmt_text s rest
  pub is : IsStmt s
  pub shallow : stmt_height s ≤ limit
  pub fits : stmt_depth s ≤ depth
  pub follows : Follows s rest

-- these symbols begin with such a statement; its parts lie after others in the lists
pub record IsStatementOf (limit depth : ℕ) (lists : Lists) (ts : List Symbol) (x : Made) (s : Stmt) : Type 0 where
  pub begins : BeginsStatement limit depth ts s x.2
  pub placed : (x.0, x.1) ≡ put_stmt s lists

-- these symbols begin with no such statement
abbrev pub NoStatement : (limit depth : ℕ) → List Symbol → Type 0
NoStatement limit depth ts = (s : Stmt) (rest : List Symbol) → BeginsStatement limit depth ts s rest → ⊥

-- The public contracts, from the laws of reading and from what reading into lists gives.
use Rattle.std.proofs.Common.{◌≡◌, ℕ, List, ◌⊎◌, Result, Ok, Err, refl, sym, ap, subst, ◌∙◌, arith}
use Rattle.std.specs.Prelude.{IfOk, IfErr}
use Rattle.vp_source.specs.declared.expression.Expression.{Expression}
use Rattle.vp_source.specs.declared.symbol.Symbol.{Symbol}
use Rattle.vp_source.specs.ExprGrammar.{Expr}
use Rattle.vp_source.specs.StmtGrammar.{Stmt}
use Rattle.vp_source.specs.StmtLayout.{Lists, put_stmt}
use Rattle.vp_parse_expr.specs.declared.reading.Stop as stop
use Rattle.vp_parse_expr.specs.declared.reading.Stop.TheVariants as stop_of
use Rattle.vp_parse_expr.specs.Stopping.{Gives}
use Rattle.vp_parse_expr.specs.Placing as expr
use Rattle.vp_parse_expr.specs.Meaning.{IsExpressionOf}
use Rattle.vp_parse_expr.proofs.Read.{fails_alike, holds_at, none_at, read_as, unless_none}
use Rattle.vp_parse_stmt.specs.Placing.{Made, stmt_into}
use Rattle.vp_parse_stmt.specs.Reading.{stmt_at}
use Rattle.vp_parse_stmt.specs.Meaning.{IsStatementOf, IsValueOf, NoStatement}
use Rattle.vp_parse_stmt.specs.laws.Again.{stmt_again}
use Rattle.vp_parse_stmt.specs.laws.Placed.{made, stmt_seen}
use Rattle.vp_parse_stmt.specs.laws.Takes.{IsTaken, stmt_takes}

-- ---- statements

-- what is found is a statement
pub statement_found : {X : Type 0} (limit depth : ℕ) (lists : Lists) (ts : List Symbol) (view : X → Made) (r : Result X stop.Stop) → Gives view r (stmt_into limit depth lists ts) → IfOk r (λ x. (s : Stmt) × IsStatementOf limit depth lists ts (view x) s)
statement_found limit depth lists ts view (Err e) h = tt
statement_found limit depth lists ts view (Ok x) h =
    let y = read_as (made put_stmt lists) (stmt_at limit depth ts) (view x) (sym (stmt_seen limit depth lists ts) ∙ h) in
    let t = holds_at (IsTaken limit depth ts) (stmt_at limit depth ts) y.0 y.1 (stmt_takes limit depth ts) in
    (y.0.0, subst (λ (z : Made). IsStatementOf limit depth lists ts z y.0.0) y.2 (record { begins = record { spelled = t.0; is = t.1; shallow = t.2; fits = t.3; follows = t.4 }; placed = refl }))

-- what is refused begins with no statement
pub statement_none : {X : Type 0} (limit depth : ℕ) (lists : Lists) (ts : List Symbol) (view : X → Made) (r : Result X stop.Stop) → Gives view r (stmt_into limit depth lists ts) → IfErr r (λ s. (s ≡ stop_of.NoMemory) ⊎ NoStatement limit depth ts)
statement_none limit depth lists ts view (Ok x) h = tt
statement_none limit depth lists ts view (Err e) h =
    unless_none (none_at (stmt_at limit depth ts) e (fails_alike (made put_stmt lists) (stmt_at limit depth ts) (stmt_into limit depth lists ts) e (stmt_seen limit depth lists ts) h))
    (λ never s rest b. never (s, rest) (ap (stmt_at limit depth) b.spelled ∙ stmt_again limit depth s rest b.is b.shallow b.fits b.follows))

-- ---- expressions among other lists

-- an expression of a list is one of the lists that hold it
pub value_of : (limit : ℕ) (lists : Lists) (ts : List Symbol) (x : expr.Made) (e : Expr) → IsExpressionOf limit lists.expressions ts x e → IsValueOf limit lists ts (x.0, record lists { expressions = x.2 }, x.3) e
value_of limit lists ts x e h = record {
  spelled = h.spelled;
  is = h.is;
  fits = omega (arith, h.depth, h.fits);
  placed = ap (λ (p : ℕ × List Expression). (let made : ℕ × Lists = (p.0, record lists { expressions = p.1 }) in made)) h.placed;
}

-- Laws of derivations: no symbols have two.
use Rattle.std.proofs.Common.{◌≡◌, ℕ, ◌+◌, List, Result, Ok, Err, sym, ap, subst, ◌∙◌, arith}
use Rattle.vp_source.specs.declared.symbol.Symbol.{Symbol}
use Rattle.vp_parse_expr.specs.Stopping.{Stop, Unexpected}
use Rattle.vp_source.specs.ExprGrammar.{Expr, expr_text, IsExpr, expr_depth}
use Rattle.vp_parse_expr.specs.Reading.{expr_at}
use Rattle.vp_parse_expr.specs.Meaning.{Stops}
use Rattle.vp_parse_expr.specs.laws.Again.{expr_again}
use Rattle.vp_parse_expr.specs.laws.Raise.{OrTooDeep, expr_raise}

read_once : (x y : Expr × List Symbol) → ◌≡◌ {A = Result (Expr × List Symbol) Stop} (Ok x) (Ok y) → x ≡ y
read_once x y h = cc

-- symbols begin with one expression at most with which nothing goes on, however deep it nests
pub expr_once : (e f : Expr) (rest tail : List Symbol) → IsExpr e → IsExpr f → Stops 0 rest → Stops 0 tail → expr_text e rest ≡ expr_text f tail → ◌≡◌ {A = Expr × List Symbol} (e, rest) (f, tail)
expr_once e f rest tail is-e is-f stops-e stops-f same =
    let limit = expr_depth e + expr_depth f in
    let h = expr_again limit 0 e rest is-e (omega arith) (omega arith) stops-e in
    let k = expr_again limit 0 f tail is-f (omega arith) (omega arith) stops-f in
    read_once (e, rest) (f, tail) (sym h ∙ ap (expr_at limit 0) same ∙ k)

-- where reading stops for another reason than the limit, symbols begin with no such expression, however deep it nests
pub unexpected_none : (limit : ℕ) (symbols : List Symbol) (left : ℕ) (e : Expr) (rest : List Symbol) → expr_at limit 0 symbols ≡ Err (Unexpected left) → IsExpr e → Stops 0 rest → symbols ≡ expr_text e rest → ⊥
unexpected_none limit symbols left e rest refused is stops spelled =
    let high = limit + expr_depth e in
    let again = ap (expr_at high 0) spelled ∙ expr_again high 0 e rest is (omega arith) (omega arith) stops in
    let raised = expr_raise limit high (omega arith) 0 symbols in
    let same : ◌≡◌ {A = Result (Expr × List Symbol) Stop} (Err (Unexpected left)) (expr_at high 0 symbols) = subst (λ (r : Result (Expr × List Symbol) Stop). OrTooDeep r (expr_at high 0 symbols)) refused raised in
    let off : ◌≡◌ {A = Result (Expr × List Symbol) Stop} (Err (Unexpected left)) (Ok (e, rest)) = same ∙ again in
    absurd cc

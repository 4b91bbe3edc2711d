use Rattle.std.proofs.Common.{◌≡◌, ◌∙◌, ◌-◌, ◌++◌, ◌∷◌, List, ℕ, Some, length, take, refl, sym, ap, subst}
use Rattle.std.specs.Prelude.{option_map}
use Rattle.vp_script.proofs.Cuts.{Left, cut_at_mark, left_after_line, matched, unwrapped}
use Rattle.vp_script.proofs.bundle.cut.Goals as goal

pub returns-then-is_mark : goal.returns-then-is_mark
returns-then-is_mark c =
    let bytes = c.args.bytes.now in
    let rest = c.in-Some.rest.now in
    let line = c.first_piece.result.0.now in
    let following = option_map (λ r. r.now) c.first_piece.result.1 in
    let left = subst (λ o. Left bytes (option_map (λ r. r.now) o)) c.in-Some.is c.loop-left.invariant in
    let tail = ap (λ r. r.now) c.unwrap_or.ensures ∙ unwrapped (λ r. r.now) c.first_piece.result.1 _ refl in
    ap (λ (t : List ℕ). Some (take (length bytes - length rest) bytes, t)) tail
    ∙ cut_at_mark bytes rest line following left c.first_piece.ensures.parts (sym c.is_mark.ensures ∙ c.if-is_mark.true)

pub loop-left-preserved : goal.loop-left-preserved
loop-left-preserved c =
    let bytes = c.args.bytes.now in
    let rest = c.in-Some.rest.now in
    let line = c.first_piece.result.0.now in
    let following = option_map (λ r. r.now) c.first_piece.result.1 in
    let left = subst (λ o. Left bytes (option_map (λ r. r.now) o)) c.in-Some.is c.loop-left.invariant in
    let whole = matched (λ r. r.now) c.first_piece.result.1 (rest ≡ line) (λ r. rest ≡ line ++ 10 ∷ r) c.first_piece.ensures.whole in
    left_after_line bytes rest line following left c.first_piece.ensures.parts whole (sym c.is_mark.ensures ∙ c.if-is_mark.false)

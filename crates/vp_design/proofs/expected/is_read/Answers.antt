use Rattle.std.proofs.Common.{◌∙◌, ◌+◌, ℕ, List, subst}
use Rattle.std.specs.Prelude.{IfOk, MatchBool, count_by}
use Rattle.vp_lex.specs.Bytes.{is_newline}
use Rattle.vp_design.specs.Expected.{GoesOn, Stops}
use Rattle.vp_design.proofs.expected.is_read.Goals as goal

pub returns : goal.returns
returns c =
    subst (λ (t : List ℕ). IfOk c.goes_on.result (λ on. MatchBool on (GoesOn (count_by is_newline c.args.front.now + 2) t) (Stops (count_by is_newline c.args.front.now + 2) t)))
    (c.as_str.ensures.value ∙ c.in_ok-text.ensures)
    (subst (λ (n : ℕ). IfOk c.goes_on.result (λ on. MatchBool on (GoesOn (n + 2) c.as_str.result.now) (Stops (n + 2) c.as_str.result.now)))
    c.newlines.ensures c.goes_on.ensures)

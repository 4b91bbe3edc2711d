use Rattle.std.proofs.Common.{◌≡◌, ℕ, suc, ◌∙◌, ap, false, filter, get_or, arith}
use Rattle.vp_elab.specs.Tree.{below}
use Rattle.vp_elab.proofs.scope.marked.Goals as goal

pub returns : goal.returns
returns c =
    let end : c.loop-number.number ≡ suc c.args.last = omega arith in
    c.from_vec.ensures ∙ c.loop-number.invariant ∙ ap (λ (n : ℕ). filter (λ e. get_or c.args.marks.now e false) (below n)) end

use Rattle.std.proofs.Common.{◌≡◌, false, filter, slice_index_or}
use Rattle.vp_elab.specs.Tree.{below}
use Rattle.vp_elab.proofs.scope.marked.Given as goal

abbrev pub invariant-loop-number : goal.invariant-loop-number
invariant-loop-number l = l.numbers.items ≡ filter (λ e. slice_index_or l.marks e false) (below l.number)

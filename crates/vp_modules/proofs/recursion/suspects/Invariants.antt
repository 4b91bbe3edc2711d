use Rattle.std.proofs.Common.{◌≡◌, ◌<◌, ℕ, false, length, get_or}
use Rattle.vp_modules.proofs.Looked.{nowhere}
use Rattle.vp_modules.proofs.Graph.{chain}
use Rattle.vp_modules.proofs.Hierarchy.{graph_of}
use Rattle.vp_modules.proofs.recursion.suspects.Given as goal

abbrev pub invariant-loop-steps : goal.invariant-loop-steps
invariant-loop-steps l = record {
  marks : length l.marks.items ≡ length l.source.modules;
  chains : (k : ℕ) → k < length l.source.modules → get_or l.marks.items k false ≡ chain (graph_of l.source nowhere) l._steps k;
}

use Rattle.std.proofs.Common.{◌≡◌, length}
use Rattle.vp_modules.proofs.Looked.{nowhere}
use Rattle.vp_modules.proofs.Graph.{Searched}
use Rattle.vp_modules.proofs.Hierarchy.{graph_of}
use Rattle.vp_modules.proofs.recursion.leads_back.Given as goal

abbrev pub invariant-loop-place : goal.invariant-loop-place
invariant-loop-place l = record {
  count : length l.reached.seen.items ≡ length l.source.modules;
  searched : Searched (graph_of l.source nowhere) l.number l.reached.order.items l.place;
}

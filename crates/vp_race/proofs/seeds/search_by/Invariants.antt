use Rattle.std.proofs.Common.{◌≡◌, [], true}
use Rattle.std.specs.List.{All}
use Rattle.std.specs.Arc.{arc_value}
use Rattle.vp_elab.specs.Tree.{below}
use Rattle.std.specs.Prelude.{length}
use Rattle.vp_race.specs.Search.{found_from}
use Rattle.vp_race.proofs.seeds.search_by.Given as goal

-- the seeds before this one are tried, if the gate stays open
abbrev pub invariant-loop-seed : goal.invariant-loop-seed
invariant-loop-seed g l = record {
  gate : g.G.Gate.stays_open l.fn.gate → l.is_open ≡ true;
  found : g.G.Gate.stays_open l.fn.gate → l.findings.findings ≡ found_from (arc_value l.fn.segment) l.fn.first l.fn.limit [] (below l.seed);
  segment : All (λ f. f.segment ≡ arc_value l.fn.segment) l.findings.findings;
  objects : l.findings.objects ≡ length l.fn.first.design.tree.nodes;
  design : l.simulation.design ≡ l.fn.simulation.design;
}

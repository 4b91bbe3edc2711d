use Rattle.std.proofs.Common.{◌≡◌, ◌++◌, ◌&&◌, not, filter, map}
use Rattle.vp_elab.specs.Tree.{below}
use Rattle.vp_race.specs.Orders.{differs}
use Rattle.vp_race.specs.Search.{finding_of, is_among, objects_of}
use Rattle.vp_race.proofs.findings.Findings.find_after.Given as goal

-- what differs among the objects before this one is found
abbrev pub invariant-loop-object : goal.invariant-loop-object
invariant-loop-object l = record {
  found : l.self.findings ≡ l.fn.self.findings ++ map (finding_of l.beside.segment l.beside.second) (filter (λ o. differs l.first l.second o && not (is_among (objects_of l.fn.self.findings) o)) (below l.object));
  objects : l.self.objects ≡ l.fn.self.objects;
}

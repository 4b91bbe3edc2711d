use Rattle.std.proofs.Common.{◌≡◌, ◌+◌, ◌≤◌, drop}
use Rattle.vp_elab.specs.Sizes.{capped, many, size_by, total}
use Rattle.vp_elab.proofs.sizes.total_of.Given as goal

-- what has been added up, with what is left
abbrev pub invariant-loop-definition : goal.invariant-loop-definition
invariant-loop-definition l = record {
  few : l.total ≤ many;
  sum : capped (l.total + total (size_by l.sizes) (drop l.definition-index l.definitions)) ≡ capped (total (size_by l.sizes) l.definitions);
}

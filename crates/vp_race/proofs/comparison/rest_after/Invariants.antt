use Rattle.std.proofs.Common.{◌≡◌, replicate, take}
use Rattle.vp_race.proofs.comparison.rest_after.Given as goal

-- the choices so far took the only event each
abbrev pub invariant-loop-index : goal.invariant-loop-index
invariant-loop-index l = record {
  only : take l.index l.choices ≡ replicate l.index 0;
}

use Rattle.std.proofs.Common.{◌≡◌, ◌+◌, ◌≤◌, length}
use Rattle.vp_pragma.specs.declared.lists.Due.TheVariants as due
use Rattle.vp_pragma.specs.Lists.{scan}
use Rattle.vp_pragma.specs.Reading.{HasPlaces, placed}
use Rattle.vp_pragma.proofs.lists.list_end.Given as goal

abbrev pub invariant-loop-token : goal.invariant-loop-token
invariant-loop-token l = record {
  places : HasPlaces l.left;
  shallow : l.depth + length l.left.tokens.now ≤ length l.rest.tokens.now;
  leads : scan l.due l.depth (placed l.left) ≡ scan due.Expression 0 (placed l.rest);
}

abbrev pub decreases-loop-token : goal.decreases-loop-token
decreases-loop-token l = length l.left.tokens.now

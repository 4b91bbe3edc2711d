use Rattle.std.proofs.Common.{◌≡◌, ◌*◌, take}
use Rattle.vp_cow_list.proofs.chunks.Parts.cut.Given as goal

abbrev pub invariant-loop-number : goal.invariant-loop-number
invariant-loop-number g l = l.parts ≡ take (l.number * g.row.SIZE) l.list

use Rattle.std.proofs.Common.{◌≡◌, take}
use Rattle.vp_answer.specs.Sizes.{list_bytes, saturated}
use Rattle.vp_answer.proofs.sizes.list_bytes.Given as goal

-- the bytes of the items so far
abbrev pub invariant-loop-item : goal.invariant-loop-item
invariant-loop-item g l = l.bytes ≡ saturated (list_bytes g.T.Item.texts (take l.item-index l.fn.items))

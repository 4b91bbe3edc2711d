use Rattle.std.proofs.Common.{◌≡◌, ◌+◌, ◌++◌, drop}
use Rattle.vp_replay.specs.Explained.{explained_from}
use Rattle.vp_replay.specs.Parts.{takes_all}
use Rattle.vp_replay.proofs.explaining.explain_items.Given as goal

-- what he was shown so far and what he is shown by the items that are left, and what is taken up if these are
abbrev pub invariant-loop-index : goal.invariant-loop-index
invariant-loop-index l = record {
  explained :
      explained_from 1 l.fn.brought.items l.fn.part l.items
      ≡ l.explained.items ++ explained_from (l.index + 1) l.brought.items l.part (drop l.index l.items);
  takes : takes_all l.fn.part l.items ≡ takes_all l.part (drop l.index l.items);
}

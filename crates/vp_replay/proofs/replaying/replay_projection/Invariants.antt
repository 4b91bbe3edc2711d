use Rattle.std.proofs.Common.{◌≡◌, ◌++◌, drop}
use Rattle.vp_replay.specs.Parts.{replies_from, takes_all}
use Rattle.vp_replay.specs.Parts.{first_part}
use Rattle.vp_replay.proofs.replaying.replay_projection.Given as goal

-- the replies so far and those that come, and what is taken up if what comes is
abbrev pub invariant-loop-item : goal.invariant-loop-item
invariant-loop-item l = record {
  replies :
      replies_from (first_part l.view l.projection.values) l.projection.items
      ≡ l.replies.items ++ replies_from l.part (drop l.item-index l.projection.items);
  takes :
      takes_all (first_part l.view l.projection.values) l.projection.items
      ≡ takes_all l.part (drop l.item-index l.projection.items);
}

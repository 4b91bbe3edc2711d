use Rattle.std.proofs.Common.{◌≡◌, ℕ, true, take}
use Rattle.vp_world.specs.Marks.{are_marked, may_be_watched}
use Rattle.vp_world.proofs.watching.mark_all.Given as goal

-- the callbacks before this one are marked, and no mark is taken away
abbrev pub invariant-loop-callback : goal.invariant-loop-callback
invariant-loop-callback l = record {
  marked : are_marked l.watched.items (take l.callback-index l.callbacks) ≡ true;
  grown : (object : ℕ) → may_be_watched l.fn.watched.items object ≡ true → may_be_watched l.watched.items object ≡ true;
}

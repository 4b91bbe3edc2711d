use Rattle.std.proofs.Common.{◌≡◌, filter}
use Rattle.vp_elab.specs.Tree.{below}
use Rattle.vp_hub.specs.Calls.{is_own_at}
use Rattle.vp_hub.proofs.close.entry_indexes.Given as goal

-- the indexes so far
abbrev pub invariant-loop-index : goal.invariant-loop-index
invariant-loop-index l = l.indexes.items ≡ filter (is_own_at l.log.entries l.session) (below l.index)

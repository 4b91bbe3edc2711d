use Rattle.std.proofs.Common.{◌≡◌, map, take}
use Rattle.vp_hub.specs.Calls.{entry_indexes, sessions_opened}
use Rattle.vp_hub.proofs.close.receipts.Given as goal

-- those of the sessions so far
abbrev pub invariant-loop-index : goal.invariant-loop-index
invariant-loop-index l = l.lists.items ≡ map (entry_indexes l.log.entries) (sessions_opened (take l.index l.log.entries))

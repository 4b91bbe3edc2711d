use Rattle.std.proofs.Common.{◌≡◌, ◌++◌, drop, map, take}
use Rattle.vp_notify.specs.Renumbered.{moved_callback, number_now}
use Rattle.vp_notify.proofs.registry.renumber_callbacks.Given as goal

-- those so far have their numbers now
abbrev pub invariant-loop-index : goal.invariant-loop-index
invariant-loop-index l = l.callbacks.items ≡ map (moved_callback (number_now l.numbers)) (take l.index l.fn.callbacks.items) ++ drop l.index l.fn.callbacks.items

use Rattle.std.proofs.Common.{◌≡◌, ◌++◌, drop, map, take}
use Rattle.vp_notify.specs.Renumbered.{number_now}
use Rattle.vp_vpi.specs.HandleTables.{moved_open}
use Rattle.vp_vpi.proofs.session.handle_table.renumber_opened.Given as goal

-- those so far have their numbers now
abbrev pub invariant-loop-place : goal.invariant-loop-place
invariant-loop-place l = l.opened.items ≡ map (moved_open (number_now l.numbers)) (take l.place l.fn.opened.items) ++ drop l.place l.fn.opened.items

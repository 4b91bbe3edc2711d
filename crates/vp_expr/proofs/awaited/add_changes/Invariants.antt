use Rattle.std.proofs.Common.{◌≡◌, ◌++◌, drop, map}
use Rattle.vp_expr.specs.Awaits.{any_change}
use Rattle.vp_expr.proofs.awaited.add_changes.Given as goal

-- the changes so far, and those at the slots that are left
abbrev pub invariant-loop-slot : goal.invariant-loop-slot
invariant-loop-slot l =
    l.awaited.items ++ map any_change (drop l.slot-index l.slots) ≡ l.fn.awaited.items ++ map any_change l.slots

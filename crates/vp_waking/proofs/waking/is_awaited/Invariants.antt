use Rattle.std.proofs.Common.{◌≡◌, drop, map}
use Rattle.std.specs.List.{list_any}
use Rattle.vp_waking.specs.Waking.{is_of, located}
use Rattle.vp_waking.proofs.waking.is_awaited.Given as goal

-- none of the terms so far
abbrev pub invariant-loop-awaited : goal.invariant-loop-awaited
invariant-loop-awaited l =
    list_any (λ t. is_of l.old l.change (located l.instance t)) (drop l.awaited-index l.terms) ≡ list_any (is_of l.old l.change) (map (located l.instance) l.terms)

use Rattle.std.proofs.Common.{◌≡◌, filter, map, take}
use Rattle.vp_pragma.specs.Reading.{viewport_of}
use Rattle.vp_elab.specs.Tree.{matches_at}
use Rattle.vp_policy.specs.SeenObjects.{viewport_shown}
use Rattle.vp_policy.specs.View.{seen_viewport}
use Rattle.vp_policy.proofs.view.viewports_on.Given as goal

-- those that match, so far
abbrev pub invariant-loop-viewport : goal.invariant-loop-viewport
invariant-loop-viewport l =
    map viewport_shown l.viewports.items
    ≡ map seen_viewport (filter (λ v. matches_at l.design.tree v l.object.0) (map viewport_of (take l.viewport-index l.viewport-items)))

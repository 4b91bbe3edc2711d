use Rattle.std.proofs.Common.{◌≡◌, drop, map}
use Rattle.std.specs.List.{position}
use Rattle.vp_pragma.specs.Reading.{viewport_of}
use Rattle.vp_pragma.specs.Rights.{set_of}
use Rattle.vp_elab.specs.Tree.{matches, step_named, viewed}
use Rattle.vp_elab.proofs.OpenedSteps.{beside, first_beside}
use Rattle.vp_elab.proofs.step_rights.step_rights_of.Given as goal

-- what has been found so far, beside what the viewports that are left open
abbrev pub invariant-loop-number : goal.invariant-loop-number
invariant-loop-number l = record {
  rights :
      beside (set_of l.step_rights.rights) (drop l.number l.viewports) (step_named l.envelope l.module l.item)
      ≡ viewed (map viewport_of l.viewports) (step_named l.envelope l.module l.item);
  viewport :
      first_beside l.step_rights.viewport l.number (drop l.number l.viewports) (step_named l.envelope l.module l.item)
      ≡ position (matches (step_named l.envelope l.module l.item)) (map viewport_of l.viewports);
}

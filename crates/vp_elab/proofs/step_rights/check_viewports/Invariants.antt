use Rattle.std.proofs.Common.{◌≡◌, drop, map}
use Rattle.vp_pragma.specs.Reading.{viewport_of}
use Rattle.vp_elab.specs.Refusals.{first_unmatched, unmatched_in}
use Rattle.vp_elab.proofs.step_rights.check_viewports.Given as goal

-- the first of those that are left is the first of all
abbrev pub invariant-loop-viewport : goal.invariant-loop-viewport
invariant-loop-viewport l =
    first_unmatched l.source l.envelopes.envelopes (map viewport_of (drop l.viewport-index l.viewport-items))
    ≡ unmatched_in l.source l.envelopes

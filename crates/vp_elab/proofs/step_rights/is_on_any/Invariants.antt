use Rattle.std.proofs.Common.{◌≡◌, drop}
use Rattle.vp_pragma.specs.Reading.{viewport_of}
use Rattle.vp_elab.specs.Refusals.{is_on_any}
use Rattle.vp_elab.proofs.step_rights.is_on_any.Given as goal

-- it is on an item of the modules that are left, if on any
abbrev pub invariant-loop-number : goal.invariant-loop-number
invariant-loop-number l =
    is_on_any l.source l.envelopes.envelopes (viewport_of l.viewport) (drop l.number l.source.modules)
    ≡ is_on_any l.source l.envelopes.envelopes (viewport_of l.viewport) l.source.modules

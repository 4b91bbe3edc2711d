use Rattle.std.proofs.Common.{◌≡◌, map, take}
use Rattle.vp_elab.specs.Built.{shown}
use Rattle.vp_elab.specs.Elaboration.{item_step}
use Rattle.vp_elab.specs.Tree.{step_rights_of}
use Rattle.vp_elab.proofs.step_rights.all_step_rights_of.Given as goal

abbrev pub invariant-loop-index : goal.invariant-loop-index
invariant-loop-index l =
    map shown l.all_step_rights.items ≡ map (λ i. step_rights_of l.envelopes.viewports (item_step l.source l.envelopes.envelopes l.module i)) (take l.index l.item-items)

use Rattle.std.proofs.Common.{◌∙◌, List, map, ap}
use Rattle.vp_source.specs.declared.source.Item.{Item}
use Rattle.vp_modules.specs.Items.{item_place}
use Rattle.vp_modules.specs.Definitions.{definitions_in}
use Rattle.vp_elab.specs.Objects.{numbers_of}
use Rattle.vp_elab.specs.Sizes.{slots_by}
use Rattle.vp_elab.proofs.Counting.{declared_same, slots_are}
use Rattle.vp_elab.proofs.scope.scope_of.Goals as goal

pub returns : goal.returns
returns c =
    declared_same _ _ _ _ _ _
    (c.in_ok-envelopes.ensures {u = tt} ∙ ap (λ (is : List Item). numbers_of c.args.envelopes.now.envelopes (map item_place is)) c.items_of.ensures)
    (c.in_ok-slots.ensures {u = tt}
    ∙ ap (slots_by c.args.sizes.now 1) c.definitions_of.ensures
    ∙ ap (λ ns. slots_by ns 1 (definitions_in c.args.definitions.now c.args.module)) c.requires.sizes
    ∙ slots_are c.args.source.now c.args.definitions.now c.args.module c.requires.definitions)
    (c.in_ok-all_step_rights.ensures {u = tt})

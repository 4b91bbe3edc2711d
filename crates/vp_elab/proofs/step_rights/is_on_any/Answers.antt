use Rattle.std.proofs.Common.{◌∙◌, ap, sym, map, []}
use Rattle.vp_modules.specs.Refusals.{twice_in}
use Rattle.vp_modules.specs.Tables.{scope_in}
use Rattle.vp_elab.proofs.Parts.{nowhere}
use Rattle.vp_elab.proofs.Viewports.{names_at, once_each}
use Rattle.vp_modules.specs.declared.tables.Tables.{Tables}
use Rattle.vp_elab.proofs.step_rights.is_on_any.Goals as goal

pub is_on_item-requires-clause-once : goal.is_on_item-requires-clause-once
is_on_item-requires-clause-once c =
    once_each c.args.source.now [] c.as_slice-module-items.result.now c.loop-number.number nowhere c.loop-number-test.true
    (ap (twice_in c.args.source.now []) c.as_slice-module-items.ensures ∙ c.requires.once)

pub is_on_item-requires-clause-names : goal.is_on_item-requires-clause-names
is_on_item-requires-clause-names c =
    c.index-as_slice-number.is
    ∙ names_at c.args.source.now c.as_slice.result.now c.as_slice-module-items.result.now c.loop-number.number c.index-as_slice-number.result nowhere c.loop-number-test.true
    (c.as_slice.ensures ∙ ap (λ (t : Tables). t.scopes) c.requires.tables ∙ ap (map (scope_in c.args.source.now)) (sym c.as_slice-module-items.ensures))

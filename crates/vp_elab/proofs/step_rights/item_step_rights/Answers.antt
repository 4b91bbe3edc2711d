use Rattle.std.proofs.Common.{◌∙◌, ap, refl, List, ℕ}
use Rattle.vp_pragma.specs.Envelopes.{Viewport, envelope_at}
use Rattle.vp_modules.specs.Items.{item_name, item_place}
use Rattle.vp_source.specs.Places.{word_at}
use Rattle.vp_elab.proofs.OpenedSteps.{step_rights_named}
use Rattle.vp_elab.proofs.step_rights.item_step_rights.Goals as goal

pub returns : goal.returns
returns c =
    let vs : List Viewport = c.args.envelopes.now.viewports in
    let place : ℕ = item_place c.args.item in
    let envelope : ℕ = envelope_at c.args.envelopes.now.envelopes place in
    let name : List ℕ = item_name c.args.source.now c.args.item in
    let m : List ℕ = word_at c.args.source.now c.args.module.name in
    c.step_rights_of.ensures
    ∙ rw (c.viewports.ensures, c.of-envelope.ensures ∙ ap (envelope_at c.args.envelopes.now.envelopes) c.place_of.ensures, c.word.ensures, c.at-name.ensures ∙ c.requires) refl
    ∙ step_rights_named vs name place envelope m

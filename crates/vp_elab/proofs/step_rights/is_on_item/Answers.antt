use Rattle.std.proofs.Common.{◌≡◌, ◌∙◌, ap, sym, map, List, [], ℕ, Some, None, slice_get, length, true, refl}
use Rattle.std.specs.Prelude.{position}
use Rattle.std.specs.Str.{bytes_eq}
use Rattle.std.proofs.lemmas.List.Quantifiers.{position-Some}
use Rattle.std.proofs.lemmas.Option.{get_or_from_slice_get, slice_get-map, slice_get_read}
use Rattle.std.specs.Prelude.{option_map}
use Rattle.vp_source.specs.declared.source.Item.{Item}
use Rattle.vp_pragma.specs.Envelopes.{Viewport, envelope_at}
use Rattle.vp_pragma.specs.Reading.{viewport_of}
use Rattle.vp_modules.specs.Items.{item_name, items_in}
use Rattle.vp_elab.proofs.Viewports.{is_on_none, is_on_one}
use Rattle.vp_elab.proofs.step_rights.is_on_item.Goals as goal

pub returns-in_default : goal.returns-in_default
returns-in_default c =
    let v : Viewport = viewport_of c.args.viewport.now in
    let none : position (bytes_eq v.item) (map (item_name c.args.source.now) (items_in c.args.source.now c.args.module)) ≡ None =
    ap (position (bytes_eq v.item)) (sym c.requires.names)
    ∙ ap (λ (n : List ℕ). position (bytes_eq n) c.args.names.now) (sym c.as_str-name.ensures) ∙ sym (c.in_default.ensures {u = tt}) in
    sym (is_on_none c.args.source.now c.args.envelopes.now.envelopes v c.args.module none)

pub returns : goal.returns
returns c =
    let v : Viewport = viewport_of c.args.viewport.now in
    let i : Item = c.in-Some-get.item.now in
    let items : List Item = items_in c.args.source.now c.args.module in
    let there : slice_get items c.in-Some.index ≡ Some i = ap (λ (is : List Item). slice_get is c.in-Some.index) (sym c.items_of.ensures) ∙ slice_get_read c.items_of.result.now (length c.items_of.result.now) c.in-Some.index i refl c.in-Some-get.ensures.lookup.3.0 c.in-Some-get.ensures.lookup.1 in
    let found : position (bytes_eq v.item) (map (item_name c.args.source.now) items) ≡ Some c.in-Some.index =
    ap (position (bytes_eq v.item)) (sym c.requires.names)
    ∙ ap (λ (n : List ℕ). position (bytes_eq n) c.args.names.now) (sym c.as_str-name.ensures) ∙ sym (c.in-Some.ensures {u = tt}) in
    let named : bytes_eq v.item (item_name c.args.source.now i) ≡ true =
    ap (bytes_eq v.item)
    (sym (get_or_from_slice_get (map (item_name c.args.source.now) items) c.in-Some.index (item_name c.args.source.now i) []
    (slice_get-map (item_name c.args.source.now) items c.in-Some.index ∙ ap (option_map (item_name c.args.source.now)) there)))
    ∙ (position-Some (bytes_eq v.item) (map (item_name c.args.source.now) items) c.in-Some.index [] found).1 in
    c.is_on.ensures
    ∙ rw (c.of-envelope.ensures ∙ ap (envelope_at c.args.envelopes.now.envelopes) c.place_of.ensures, c.word.ensures, c.as_str-name.ensures) refl
    ∙ sym (is_on_one c.args.source.now c.args.envelopes.now.envelopes v c.args.module c.in-Some.index i c.requires.once there named)

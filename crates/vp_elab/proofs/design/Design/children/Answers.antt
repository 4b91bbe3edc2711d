use Rattle.std.proofs.Common.{◌+◌, ◌<◌, ◌^◌, ◌∙◌, ap, sym, subst, [], Option, map}
use Rattle.std.specs.Prelude.{All}
use Rattle.std.specs.Option.{option_map_or}
use Rattle.std.proofs.lemmas.Result.{IfOk-weaker}
use Rattle.vp_elab.specs.declared.object.ObjectId.{ObjectId}
use Rattle.vp_elab.specs.Objects.{Declared}
use Rattle.vp_elab.proofs.Listing.{children_are, children_fit}
use Rattle.vp_elab.proofs.design.Design.children.Goals as goal

pub objects_after-requires : goal.objects_after-requires
objects_after-requires c =
    let s = c.self.inside in
    subst (All (λ slot. c.args.id.0 + slot < 2 ^ 32)) (sym (c.slots.ensures ∙ ap (λ (x : Option Declared). option_map_or (λ (s : Declared). s.slots) x []) (c.in-Some.ensures {u = tt})))
    (children_fit s.source s.envelopes s.tables s.scopes s.objects c.self.invariant c.args.self.now c.self.view_is c.as_slice-objects.result.now c.as_slice.result.now c.args.id.0 c.as_slice-objects.ensures c.as_slice.ensures)

pub returns-in-Some : goal.returns-in-Some
returns-in-Some c =
    let s = c.self.inside in
    IfOk-weaker c.objects_after.result _ _
    (λ ids is.
    is ∙ ap (map (λ slot. c.args.id.0 + slot)) (c.slots.ensures ∙ ap (λ (x : Option Declared). option_map_or (λ (s : Declared). s.slots) x []) (c.in-Some.ensures {u = tt}))
    ∙ children_are s.source s.envelopes s.tables s.scopes s.objects c.self.invariant c.args.self.now c.self.view_is c.as_slice-objects.result.now c.as_slice.result.now c.args.id.0 c.as_slice-objects.ensures c.as_slice.ensures)
    c.objects_after.ensures

pub returns-in-None : goal.returns-in-None
returns-in-None c =
    let s = c.self.inside in
    ap (map (λ (o : ObjectId). o.0)) (c.from_vec.ensures ∙ c.new.ensures.items)
    ∙ ap (λ (x : Option Declared). map (λ slot. c.args.id.0 + slot) (option_map_or (λ (s : Declared). s.slots) x [])) (c.in-None.ensures {u = tt})
    ∙ children_are s.source s.envelopes s.tables s.scopes s.objects c.self.invariant c.args.self.now c.self.view_is c.as_slice-objects.result.now c.as_slice.result.now c.args.id.0 c.as_slice-objects.ensures c.as_slice.ensures

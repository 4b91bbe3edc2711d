use Rattle.std.proofs.Common.{◌∙◌, ap, refl}
use Rattle.std.specs.Prelude.{option_map}
use Rattle.vp_elab.specs.declared.object.ObjectId.{ObjectId}
use Rattle.vp_elab.specs.Objects.{top_of}
use Rattle.vp_elab.proofs.Designed.{top_unknown}
use Rattle.vp_elab.proofs.Listing.{top_is}
use Rattle.vp_elab.proofs.design.Design.root.Goals as goal

pub returns-in_err-number : goal.returns-in_err-number
returns-in_err-number c =
    let s = c.self.inside in
    ap (option_map (λ (o : ObjectId). o.0)) c.from_residual.ensures ∙ top_unknown s.source s.envelopes s.tables s.scopes s.objects c.self.invariant c.args.self.now c.self.view_is s.tables.modules c.args.name.now refl (c.in_err-number.ensures {u = tt})

pub returns : goal.returns
returns c =
    let s = c.self.inside in
    ap (option_map (λ (o : ObjectId). o.0)) c.top_at.ensures
    ∙ ap (λ o. option_map (λ (o : ObjectId). o.0) (top_of c.as_slice-2.result.now o)) c.first_at-first.ensures
    ∙ top_is s.source s.envelopes s.tables s.scopes s.objects c.self.invariant c.args.self.now c.self.view_is c.as_slice-2.result.now s.tables.modules c.as_slice.result.now c.as_slice-2.ensures refl c.as_slice.ensures c.args.name.now c.in_ok-number.number (c.in_ok-number.ensures {u = tt})

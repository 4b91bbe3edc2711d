use Rattle.std.proofs.Common.{◌∙◌, ap, map}
use Rattle.std.proofs.lemmas.Result.{IfOk-weaker}
use Rattle.vp_elab.specs.declared.object.ObjectId.{ObjectId}
use Rattle.vp_elab.proofs.Listing.{roots_found}
use Rattle.vp_elab.proofs.design.Design.roots.Goals as goal

pub returns : goal.returns
returns c =
    let s = c.self.inside in
    IfOk-weaker c.tops_at.result _ _
    (λ ids is. ap (map (λ (o : ObjectId). o.0)) is ∙ roots_found s.source s.envelopes s.tables s.scopes s.objects c.self.invariant c.args.self.now c.self.view_is c.as_slice-objects.result.now c.as_slice.result.now c.as_slice-objects.ensures c.as_slice.ensures) c.tops_at.ensures

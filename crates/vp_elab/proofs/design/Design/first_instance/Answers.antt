use Rattle.std.proofs.Common.{◌∙◌, ap}
use Rattle.std.specs.Prelude.{option_map}
use Rattle.vp_elab.specs.declared.object.ObjectId.{ObjectId}
use Rattle.vp_elab.proofs.Designed.{first_answer}
use Rattle.vp_elab.proofs.design.Design.first_instance.Goals as goal

pub returns : goal.returns
returns c =
    let s = c.self.inside in
    ap (option_map (λ (o : ObjectId). o.0)) c.first_at.ensures ∙ first_answer s.source s.envelopes s.tables s.scopes s.objects c.self.invariant c.args.self.now c.self.view_is c.as_slice.result.now c.args.number c.as_slice.ensures

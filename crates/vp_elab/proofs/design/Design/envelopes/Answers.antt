use Rattle.std.proofs.Common.{◌∙◌, ap, sym, Option}
use Rattle.std.specs.Prelude.{option_map}
use Rattle.vp_elab.specs.declared.object.ObjectId.{ObjectId}
use Rattle.vp_elab.specs.Tree.{declared_envelopes}
use Rattle.vp_elab.proofs.Designed.{numbers_root}
use Rattle.vp_elab.proofs.design.Design.envelopes.Goals as goal

pub returns-in-None : goal.returns-in-None
returns-in-None c =
    let s = c.self.inside in
    c.as_slice.ensures ∙ numbers_root s.source s.envelopes s.tables s.scopes s.objects c.self.invariant c.args.self.now c.self.view_is
    ∙ ap (λ (o : Option ObjectId). declared_envelopes c.args.self.now.tree (option_map (λ (o : ObjectId). o.0) o)) (sym c.in-None.is)

use Rattle.std.proofs.Common.{◌∙◌, ap, Option, []}
use Rattle.std.specs.Option.{option_map_or}
use Rattle.vp_elab.specs.Objects.{Declared}
use Rattle.vp_elab.proofs.Designed.{numbers_found}
use Rattle.vp_elab.proofs.design.Design.envelopes_in.Goals as goal

pub returns-in-Some : goal.returns-in-Some
returns-in-Some c =
    let s = c.self.inside in
    c.envelopes.ensures
    ∙ ap (λ (x : Option Declared). option_map_or (λ (s : Declared). s.envelopes) x []) (c.in-Some.ensures {u = tt})
    ∙ numbers_found s.source s.envelopes s.tables s.scopes s.objects c.self.invariant c.args.self.now c.self.view_is c.as_slice-objects.result.now c.as_slice.result.now c.args.object.0 c.as_slice-objects.ensures c.as_slice.ensures

pub returns-in-None : goal.returns-in-None
returns-in-None c =
    let s = c.self.inside in
    ap (λ (x : Option Declared). option_map_or (λ (s : Declared). s.envelopes) x []) (c.in-None.ensures {u = tt})
    ∙ numbers_found s.source s.envelopes s.tables s.scopes s.objects c.self.invariant c.args.self.now c.self.view_is c.as_slice-objects.result.now c.as_slice.result.now c.args.object.0 c.as_slice-objects.ensures c.as_slice.ensures

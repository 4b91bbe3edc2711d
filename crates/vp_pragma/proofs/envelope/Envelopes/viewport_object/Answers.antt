use Rattle.std.proofs.Common.{Some, ap, ◌∙◌}
use Rattle.std.specs.Prelude.{option_map, slice_get}
use Rattle.vp_pragma.specs.Envelopes.{Protection, object_of}
use Rattle.vp_pragma.proofs.Objects.{object_is}
use Rattle.vp_pragma.proofs.envelope.Envelopes.viewport_object.Goals as goal

pub returns-in-None : goal.returns-in-None
returns-in-None c =
    let inside = c.self.inside in
    let n = c.args.number in
    c.in-None.ensures {u = tt} ∙ ap (λ xs. slice_get xs n) (c.as_slice.ensures ∙ c.self.invariant.1) ∙ object_is inside.viewports n
    ∙ ap (λ (p : Protection). option_map object_of (slice_get p.viewports n)) c.self.view_is

pub returns-in_ok-try_clone-in-Some : goal.returns-in_ok-try_clone-in-Some
returns-in_ok-try_clone-in-Some c =
    let inside = c.self.inside in
    let n = c.args.number in
    ap (λ x. Some x) (c.in_ok-try_clone-in-Some.ensures {u = tt}) ∙ c.in-Some.ensures {u = tt} ∙ ap (λ xs. slice_get xs n) (c.as_slice.ensures ∙ c.self.invariant.1) ∙ object_is inside.viewports n
    ∙ ap (λ (p : Protection). option_map object_of (slice_get p.viewports n)) c.self.view_is

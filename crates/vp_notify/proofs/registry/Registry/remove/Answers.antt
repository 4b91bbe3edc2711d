use Rattle.std.proofs.Common.{arith, rules, not, filter, ◌≡◌, List, ap}
use Rattle.std.proofs.lemmas.Fn.{filter_same}
use Rattle.std.proofs.lemmas.List.Kept.{IsNonDecreasingBy-filter}
use Rattle.vp_notify.specs.declared.registry.Callback.{Callback}
use Rattle.vp_notify.specs.Registry.{RegistryState, is_numbered}
use Rattle.vp_notify.proofs.registry.Registry.remove.Goals as goal

pub invariant_of-self : goal.invariant_of-self
invariant_of-self c =
    let kept : c.retain.new.self.items ≡ filter (λ callback. not (is_numbered c.args.callback callback)) c.self.inside.callbacks.items =
    filter_same _ _ _ (λ x b f' k. search rules) _ _ c.retain.ensures.filtered in (
      rw kept (IsNonDecreasingBy-filter (λ callback. callback.object.0) (λ callback. not (is_numbered c.args.callback callback)) c.self.inside.callbacks.items c.self.invariant.0),
      omega (arith, c.retain.ensures.bound),
      c.self.invariant.2,
    )

pub returns-clause-taken : goal.returns-clause-taken
returns-clause-taken c =
    let kept : c.retain.new.self.items ≡ filter (λ callback. not (is_numbered c.args.callback callback)) c.self.inside.callbacks.items =
    filter_same _ _ _ (λ x b f' k. search rules) _ _ c.retain.ensures.filtered in
    let r = c.self.inside in
    let state : List Callback → RegistryState = λ callbacks. record { callbacks = callbacks; given = r.given; waiting = r.waiting.items; lost = r.lost } in
    rw (← c.self.view_is) (ap state kept)

use Rattle.std.proofs.Common.{arith, rules, not, filter, ◌≡◌, ◌∙◌, List, Bool, ap}
use Rattle.std.proofs.lemmas.Fn.{filter_same}
use Rattle.std.proofs.lemmas.List.Kept.{IsNonDecreasingBy-filter}
use Rattle.vp_notify.specs.declared.notice.Notice.{Notice}
use Rattle.vp_notify.specs.declared.registry.Callback.{Callback}
use Rattle.vp_notify.specs.Registry.{RegistryState, is_unwatchable}
use Rattle.vp_notify.proofs.registry.Registry.retire.Goals as goal

module _ (c : goal.After-retire_notices) where
  abbrev keeps : Callback → Bool
  keeps callback = not (is_unwatchable c.args.rights.now callback.object.0)

  kept : c.retain.new.self.items ≡ filter keeps c.self.inside.callbacks.items
  kept = filter_same _ _ _ (λ x b f' k. search rules) _ _ c.retain.ensures.filtered

pub invariant_of-self : goal.invariant_of-self
invariant_of-self c = (
  rw (kept c) (IsNonDecreasingBy-filter (λ callback. callback.object.0) (keeps c) c.self.inside.callbacks.items c.self.invariant.0),
  omega (arith, c.retain.ensures.bound),
  c.retire_notices.ensures.capacity ∙ c.self.invariant.2,
)

pub returns : goal.returns
returns c =
    let r = c.self.inside in
    let state : List Callback → List Notice → RegistryState = λ callbacks waiting. record { callbacks = callbacks; given = r.given; waiting = waiting; lost = r.lost } in
    rw (← c.self.view_is)
    (ap (λ callbacks. state callbacks c.retire_notices.new.waiting.items) (kept c) ∙ ap (state (filter (keeps c) r.callbacks.items)) c.retire_notices.ensures.waiting)

use Rattle.std.proofs.Common.{arith, ◌∙◌, ◌+◌, List, ap}
use Rattle.std.proofs.lemmas.List.Edits.{length-insert}
use Rattle.vp_notify.specs.declared.registry.Callback.{Callback}
use Rattle.vp_notify.specs.Registry.{RegistryState}
use Rattle.vp_notify.proofs.Ordered.{ordered_with, with_callback_at}
use Rattle.vp_notify.proofs.registry.Registry.register.Goals as goal

pub invariant_of-self-2 : goal.invariant_of-self-2
invariant_of-self-2 c =
    let new : Callback = record { number = c.self.inside.given + 1; object = c.args.object } in
    let callbacks = c.self.inside.callbacks.items in
    let parted = (rw c.deref.ensures.value at c.count_by-index.ensures.parted) in
    let within = (rw c.deref.ensures.value at c.count_by-index.ensures.within) in
    rw c.in_ok-insert.ensures.items
    (ordered_with callbacks c.count_by-index.result new c.self.invariant.0 within parted, omega (arith, length-insert callbacks c.count_by-index.result new within), c.self.invariant.2)

pub returns-clause-added : goal.returns-clause-added
returns-clause-added c =
    let new : Callback = record { number = c.self.inside.given + 1; object = c.args.object } in
    let callbacks = c.self.inside.callbacks.items in
    let parted = (rw c.deref.ensures.value at c.count_by-index.ensures.parted) in
    let within = (rw c.deref.ensures.value at c.count_by-index.ensures.within) in
    let items = c.in_ok-insert.ensures.items ∙ with_callback_at callbacks c.count_by-index.result new parted within in
    let r = c.self.inside in
    let state : List Callback → RegistryState = λ callbacks. record { callbacks = callbacks; given = r.given + 1; waiting = r.waiting.items; lost = r.lost } in
    rw (← c.self.view_is) (ap state items)

use Rattle.std.proofs.Common.{◌∙◌, ap, filter, map, sym, option_copied}
use Rattle.std.specs.List.{fold}
use Rattle.std.proofs.lemmas.List.{take_all}
use Rattle.vp_notify.specs.Registry.{RegistryState, due, is_on, notice_of, with_notice}
use Rattle.vp_notify.proofs.Telling.{told_more}
use Rattle.vp_notify.proofs.registry.Registry.on_changes.Goals as goal

pub loop-callback-init : goal.loop-callback-init
loop-callback-init c =
    let kept : RegistryState → RegistryState = λ r. record c.args.self.now { waiting = r.waiting; lost = r.lost } in
    record { room = c.self.invariant.2; told = ap kept c.self.view_is }

pub invariant_of-self : goal.invariant_of-self
invariant_of-self c = (c.self.invariant.0, c.self.invariant.1, c.loop-callback.invariant.room)

pub loop-callback-preserved : goal.loop-callback-preserved
loop-callback-preserved c =
    let waiting = c.loop-callback.self-inside.1.1.1.1.0 in
    let lost = c.loop-callback.self-inside.1.1.1.1.1.0 in
    let state : RegistryState = record c.args.self.now { waiting = waiting.items; lost = lost } in
    record {
      room = c.hold.ensures.capacity ∙ c.loop-callback.invariant.room;
      told = told_more c.args.self.now state (notice_of c.in-Some.change.now c.args.time) c.on_object-callback-items.result.now c.loop-callback.callback-index waiting.capacity _ c.notice_of.result c.hold.new.waiting.items c.hold.new.lost c.loop-callback-test.true c.notice_of.ensures c.loop-callback.invariant.room c.loop-callback.invariant.told c.hold.ensures.waiting c.hold.ensures.lost;
    }

pub returns : goal.returns
returns c =
    let r = c.args.self.now in
    let watching = c.on_object-callback-items in
    let change = c.in-Some.change.now in
    let on = filter (is_on change.object.0) in
    let kept : RegistryState → RegistryState = λ s. record s { waiting = c.loop-callback.self-inside.1.1.1.1.0.items; lost = c.loop-callback.self-inside.1.1.1.1.1.0 } in
    let all = take_all c.loop-callback.callback-index watching.result.now c.loop-callback-test.false ∙ watching.ensures ∙ ap on c.deref.ensures.value ∙ ap (λ (s : RegistryState). on s.callbacks) c.self.view_is in
    ap kept c.self.view_is
    ∙ c.loop-callback.invariant.told
    ∙ ap (λ callbacks. fold with_notice r (map (notice_of change c.args.time) callbacks)) all
    ∙ sym (ap (λ given. due r (option_copied given) c.args.time) c.in-Some.is)

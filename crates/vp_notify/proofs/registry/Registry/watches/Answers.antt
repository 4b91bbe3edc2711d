use Rattle.std.proofs.Common.{◌∙◌, ◌==◌, length, not, ap}
use Rattle.std.specs.List.{list_any}
use Rattle.vp_notify.specs.Registry.{is_on}
use Rattle.vp_notify.proofs.Ordered.{keeps_any}
use Rattle.vp_notify.proofs.registry.Registry.watches.Goals as goal

pub returns : goal.returns
returns c =
    rw (← c.self.view_is)
    (ap not c.is_empty.ensures
    ∙ ap (λ callbacks. not (length callbacks == 0)) c.on_object.ensures
    ∙ keeps_any (is_on c.args.object.0) c.deref.result.now
    ∙ ap (list_any (is_on c.args.object.0)) c.deref.ensures.value)

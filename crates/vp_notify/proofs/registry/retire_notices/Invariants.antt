use Rattle.std.proofs.Common.{◌-◌, not}
use Rattle.vp_notify.specs.Registry.{is_unwatchable}
use Rattle.vp_notify.proofs.Retiring.{Retires, if_kept}
use Rattle.vp_notify.proofs.registry.retire_notices.Given as goal

-- so many notices are left to be looked at
abbrev pub invariant-loop-turn : goal.invariant-loop-turn
invariant-loop-turn l = Retires (if_kept (λ n. not (is_unwatchable l.rights n.object.0))) l.fn.waiting l.waiting (l._turn-end - l._turn)

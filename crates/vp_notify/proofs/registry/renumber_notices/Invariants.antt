use Rattle.std.proofs.Common.{◌-◌, Some}
use Rattle.vp_notify.specs.Renumbered.{moved_notice, number_now}
use Rattle.vp_notify.proofs.Retiring.{Retires}
use Rattle.vp_notify.proofs.registry.renumber_notices.Given as goal

-- so many notices are left to be looked at
abbrev pub invariant-loop-turn : goal.invariant-loop-turn
invariant-loop-turn l = Retires (λ n. Some (moved_notice (number_now l.numbers) n)) l.fn.waiting l.waiting (l._turn-end - l._turn)

use Rattle.std.proofs.Common.{◌≡◌, ◌++◌, map, take}
use Rattle.vp_notify.specs.Registry.{polled_notice}
use Rattle.vp_notify.proofs.registry.push_polled.Given as goal

-- the notices before this one stand there as a poll gives them
abbrev pub invariant-loop-notice : goal.invariant-loop-notice
invariant-loop-notice l = l.notices.items ≡ l.fn.notices.items ++ map polled_notice (take l.notice-index l.waiting)

use Rattle.std.proofs.Common.{◌≡◌, drop}
use Rattle.vp_notify.specs.Renumbered.{rises, rises_from}
use Rattle.vp_notify.proofs.renumbering.rises.Given as goal

-- the numbers rise if what is left rises from the least on
abbrev pub invariant-loop-number : goal.invariant-loop-number
invariant-loop-number l = rises l.numbers ≡ rises_from l.least (drop l.number-index l.numbers)

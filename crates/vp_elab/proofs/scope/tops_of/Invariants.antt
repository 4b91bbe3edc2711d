use Rattle.std.proofs.Common.{◌≡◌, ◌++◌, drop, filter}
use Rattle.vp_modules.specs.Items.{is_top}
use Rattle.vp_elab.specs.Elaboration.{tops}
use Rattle.vp_elab.proofs.scope.tops_of.Given as goal

-- the top modules so far, before those that are left
abbrev pub invariant-loop-number : goal.invariant-loop-number
invariant-loop-number l = l.modules.items ++ filter (is_top l.source) (drop l.number l.source.modules) ≡ tops l.source

use Rattle.std.proofs.Common.{◌≡◌, ◌-◌, length}
use Rattle.vp_statement.specs.Walking.{next_after}
use Rattle.vp_statement.proofs.flow.next_after.Given as goal

-- what comes after this statement comes after the one that is asked for
abbrev pub invariant-rise : goal.invariant-rise
invariant-rise l = next_after l.parts (length l.parts - l._turn) l.here ≡ next_after l.parts (length l.parts) l.fn.place

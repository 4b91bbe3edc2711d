use Rattle.std.proofs.Common.{◌≡◌, ◌++◌, drop}
use Rattle.std.specs.Prelude.{slice_get, unwrap_or}
use Rattle.std.specs.Option.{option_flatten}
use Rattle.vp_audit.proofs.Marks.{over_marked}
use Rattle.vp_audit.proofs.reading.moved_numbers.Given as goal

-- the numbers so far, and those of the objects that remain
abbrev pub invariant-loop-number : goal.invariant-loop-number
invariant-loop-number l =
    over_marked 0 l.before (λ o. unwrap_or (option_flatten (slice_get l.numbers o)) 0)
    ≡ l.moved.items ++ over_marked l.number (drop l.number l.before) (λ o. unwrap_or (option_flatten (slice_get l.numbers o)) 0)

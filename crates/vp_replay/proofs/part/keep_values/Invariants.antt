use Rattle.std.proofs.Common.{◌≡◌}
use Rattle.vp_replay.specs.Parts.{granted_values}
use Rattle.vp_replay.proofs.part.keep_values.Given as goal

-- what is left gives what all gives
abbrev pub invariant-loop-number : goal.invariant-loop-number
invariant-loop-number l =
    granted_values l.moved l.known l.fn.values.items ≡ granted_values l.number-iterator.a.rest.now l.number-iterator.b.rest.now l.values.items

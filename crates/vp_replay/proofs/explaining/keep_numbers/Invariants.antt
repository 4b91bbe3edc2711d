use Rattle.std.proofs.Common.{◌≡◌}
use Rattle.vp_replay.specs.Explained.{numbers_kept}
use Rattle.vp_replay.proofs.explaining.keep_numbers.Given as goal

-- what is left gives what all gives
abbrev pub invariant-loop-object : goal.invariant-loop-object
invariant-loop-object l =
    numbers_kept l.granted.moved l.granted.values l.brought l.fn.numbers.items
    ≡ numbers_kept l.object-iterator.a.rest.now l.granted.values l.object-iterator.b.rest.now l.numbers.items

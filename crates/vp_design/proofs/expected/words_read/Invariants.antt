use Rattle.std.proofs.Common.{map, take}
use Rattle.vp_design.specs.Expected.{AreRead}
use Rattle.vp_design.proofs.expected.words_read.Given as goal

abbrev pub invariant-loop-candidate : goal.invariant-loop-candidate
invariant-loop-candidate l =
    AreRead l.front (map (λ c. (c.0.now, c.1.now)) (take l.candidate-index l.table)) (map (λ w. w.now) l.words.items)

use Rattle.std.proofs.Common.{◌≡◌, drop, map}
use Rattle.vp_design.specs.LeftOut.{reason_in}
use Rattle.vp_design.proofs.unsupported.reason_in.Given as goal

abbrev pub invariant-loop-entry : goal.invariant-loop-entry
invariant-loop-entry l =
    reason_in (map (λ c. (c.0.now, c.1.now)) l.table) l.otherwise l.word
    ≡ reason_in (map (λ c. (c.0.now, c.1.now)) (drop l.entry-index l.table)) l.otherwise l.word

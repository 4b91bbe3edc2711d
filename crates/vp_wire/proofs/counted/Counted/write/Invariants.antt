use Rattle.std.proofs.Common.{◌≡◌}
use Rattle.vp_wire.proofs.Writing.{Wrote}
use Rattle.vp_wire.proofs.counted.Counted.write.Given as goal

-- what stands before the rest went out, and nothing was counted yet
abbrev pub invariant-loop : goal.invariant-loop
invariant-loop g l = Wrote (g.W.Write.contents l.fn.self.inner) (g.W.Write.contents l.self.inner) l.bytes l.rest × (l.self.failures ≡ l.fn.self.failures) × (l.self.asked ≡ l.fn.self.asked)

use Rattle.std.proofs.Common.{◌≡◌, ◌==◌, ◌&&◌}
use Rattle.std.specs.Bool.{Decides}
use Rattle.std.proofs.lemmas.Bool.Decides.{Decides-at, same_from_decides}
use Rattle.vp_bits.specs.Vector.{same_bits}
use Rattle.vp_bits.specs.laws.Words.{same_bits-Decides}
use Rattle.vp_bits.proofs.Vectors.{same_words-Decides}
use Rattle.vp_bits.proofs.bits.BitsPartialEq.eq.Goals as goal

same : (c : goal.After-eq) → Decides c.eq.result (c.args.self.now ≡ c.args.other.now)
same c =
    rw (← c.self.view_is, ← c.other.view_is)
    (Decides-at c.eq.result ((c.self.inside.width == c.other.inside.width) && (c.self.inside.aval == c.other.inside.aval) && (c.self.inside.bval == c.other.inside.bval)) c.eq.ensures
    (same_words-Decides c.self.inside.width c.self.inside.aval c.self.inside.bval c.other.inside.width c.other.inside.aval c.other.inside.bval c.self.invariant.aval_fits c.self.invariant.bval_fits c.other.invariant.aval_fits c.other.invariant.bval_fits))

pub returns-clause-gives : goal.returns-clause-gives
returns-clause-gives c = same_from_decides c.eq.result (same_bits c.args.self.now c.args.other.now) (same c) (same_bits-Decides c.args.self.now c.args.other.now)

pub returns-clause-same : goal.returns-clause-same
returns-clause-same c = same c

use Rattle.vp_pragma.proofs.Holding.{holding_turn}
use Rattle.vp_pragma.proofs.envelope.Envelopes.of.Goals as goal
use Rattle.vp_pragma.proofs.envelope.Envelopes.of.Goals.{then-holds, else-holds}

pub loop-i-preserved : goal.loop-i-preserved
loop-i-preserved c =
    elim c.if-holds.branch [
      | then-holds w ↦ holding_turn c.loop-i.number c.if-holds.number c.loop-i.i c.args.place _ c.as_slice-envelopes.result.now
          c.index-envelopes-i.result c.holds.result c.loop-i-test.true c.index-envelopes-i.is c.holds.ensures (rw w.if-holds.true w.number-is) c.loop-i.invariant
      | else-holds w ↦ holding_turn c.loop-i.number c.if-holds.number c.loop-i.i c.args.place _ c.as_slice-envelopes.result.now
          c.index-envelopes-i.result c.holds.result c.loop-i-test.true c.index-envelopes-i.is c.holds.ensures (rw w.if-holds.false w.number-is) c.loop-i.invariant
    ]

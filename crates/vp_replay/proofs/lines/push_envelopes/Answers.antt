use Rattle.std.specs.Prelude.{string_bytes}
use Rattle.vp_replay.proofs.Writing.{envelopes_written}
use Rattle.vp_replay.proofs.lines.push_envelopes.Goals as goal

pub loop-before-preserved : goal.loop-before-preserved
loop-before-preserved c =
    envelopes_written c.args.envelopes.now c.index-envelopes-before.result c.loop-before.before (string_bytes c.args.text.now) (string_bytes c.loop-before.text)
    (string_bytes c.push_envelope_line.new.text) c.loop-before-test.true c.index-envelopes-before.is c.loop-before.invariant (c.in_ok-push_envelope_line.ensures {u = tt})

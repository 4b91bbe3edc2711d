use Rattle.std.proofs.Common.{◌≡◌, ◌≤◌, ◌+◌, ◌*◌, ◌%◌, ◌^◌, ℕ, List, Option, None}
use Rattle.vp_wire.specs.Reading.{Progress}
use Rattle.vp_wire.proofs.dialogue.Dialogue.run.Given as goal

-- a dialogue that had come so far before the first read has come so far after so many, and neither the reader nor the writer failed
abbrev pub invariant-loop : goal.invariant-loop
invariant-loop g l =
    ((first : _) (unread held : Option (List ℕ)) → Progress g.C.Caller.calls unread (g.R.Read.remaining l.fn.reader.inner) held (g.W.Write.contents l.fn.writer.inner) first l.fn.self l.fn.caller None → Progress g.C.Caller.calls unread (g.R.Read.remaining l.reader.inner) held (g.W.Write.contents l.writer.inner) first l.self l.caller None)
    × (l.self.lines ≤ 8192 * l.counter)
    × (l.reader.asked ≡ (l.fn.reader.asked + l.counter) % 2 ^ 64)
    × (l.reader.failures ≡ l.fn.reader.failures)
    × (l.writer.failures ≡ l.fn.writer.failures)

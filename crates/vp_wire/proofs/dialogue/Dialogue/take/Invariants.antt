use Rattle.std.proofs.Common.{◌≡◌, ◌≤◌, ◌+◌, ℕ, List, length, Option, Some}
use Rattle.std.specs.Prelude.{option_map}
use Rattle.vp_wire.specs.Reading.{Progress, remaining_size}
use Rattle.vp_wire.proofs.Progressing.{turns_left}
use Rattle.vp_wire.proofs.dialogue.Dialogue.take.Given as goal

abbrev pub decreases-loop-remaining : goal.decreases-loop-remaining
decreases-loop-remaining g l = turns_left (option_map (λ r. r.now) l.remaining)

-- a dialogue that had come so far before it took the bytes has come so far, up to what is left of them
abbrev pub invariant-loop-remaining : goal.invariant-loop-remaining
invariant-loop-remaining g l =
    ((first : _) (unread still_unread held : Option (List ℕ)) → Progress g.C.Caller.calls unread still_unread held (g.W.Write.contents l.fn.writer.inner) first l.fn.self l.fn.caller (Some l.bytes) → Progress g.C.Caller.calls unread still_unread held (g.W.Write.contents l.writer.inner) first l.self l.caller (option_map (λ r. r.now) l.remaining))
    × (l.self.lines + remaining_size (option_map (λ r. r.now) l.remaining) ≤ l.fn.self.lines + length l.bytes)
    × (l.writer.failures ≡ l.fn.writer.failures)

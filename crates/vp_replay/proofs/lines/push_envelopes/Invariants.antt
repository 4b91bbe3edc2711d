use Rattle.std.proofs.Common.{◌≡◌, ◌++◌, map, string_bytes, take}
use Rattle.std.specs.List.{enumerate_from, flat_map}
use Rattle.vp_policy.specs.SeenObjects.{envelope_shown}
use Rattle.vp_replay.specs.Outline.{envelope_line}
use Rattle.vp_replay.proofs.lines.push_envelopes.Given as goal

abbrev pub invariant-loop-before : goal.invariant-loop-before
invariant-loop-before l =
    string_bytes l.text
    ≡ string_bytes l.initial.text ++ flat_map envelope_line (enumerate_from 1 (map envelope_shown (take l.before l.envelopes)))

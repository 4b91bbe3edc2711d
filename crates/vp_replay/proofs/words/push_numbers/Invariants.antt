use Rattle.std.proofs.Common.{◌≡◌, ◌++◌, decimal, map, string_bytes, take}
use Rattle.vp_replay.specs.Outline.{words_text}
use Rattle.vp_replay.proofs.words.push_numbers.Given as goal

abbrev pub invariant-loop-number : goal.invariant-loop-number
invariant-loop-number l =
    string_bytes l.line ≡ string_bytes l.initial.line ++ words_text (map decimal (take l.number-index l.numbers))

use Rattle.std.proofs.Common.{◌≡◌, drop}
use Rattle.std.specs.List.{list_all}
use Rattle.vp_policy.specs.File.{is_word_byte}
use Rattle.vp_policy.proofs.reading.has_word_bytes.Given as goal

abbrev pub invariant-loop-byte : goal.invariant-loop-byte
invariant-loop-byte l = list_all is_word_byte (drop l.byte-index l.word) ≡ list_all is_word_byte l.word

use Rattle.std.proofs.Common.{◌≡◌, drop}
use Rattle.std.specs.List.{list_all}
use Rattle.vp_lex.specs.Bytes.{goes_on_name}
use Rattle.vp_pragma.proofs.viewport.all_go_on.Given as goal

abbrev pub invariant-loop-byte : goal.invariant-loop-byte
invariant-loop-byte l = list_all goes_on_name (drop l.byte-index l.bytes) ≡ list_all goes_on_name l.bytes

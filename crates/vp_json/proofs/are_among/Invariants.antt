use Rattle.std.proofs.Common.{◌≡◌}
use Rattle.std.specs.Prelude.{◌||◌, map, string_bytes}
use Rattle.std.specs.List.{list_all}
use Rattle.vp_json.specs.Keys.{is_one_of}
use Rattle.vp_json.proofs.are_among.Given as goal

abbrev pub invariant-loop-key : goal.invariant-loop-key
invariant-loop-key l =
    list_all (λ e. is_one_of (map (λ k. k.now) l.keys) (string_bytes e.0) || is_one_of (map (λ k. k.now) l.others) (string_bytes e.0)) l.key-iterator
    ≡ list_all (λ e. is_one_of (map (λ k. k.now) l.keys) (string_bytes e.0) || is_one_of (map (λ k. k.now) l.others) (string_bytes e.0)) l.object.entries

use Rattle.std.proofs.Common.{◌≡◌, drop}
use Rattle.std.specs.Prelude.{map}
use Rattle.vp_json.specs.Keys.{is_one_of}
use Rattle.vp_json.proofs.is_among.Given as goal

abbrev pub invariant-loop-known : goal.invariant-loop-known
invariant-loop-known l =
    is_one_of (map (λ k. k.now) (drop l.known-index l.keys)) l.key ≡ is_one_of (map (λ k. k.now) l.keys) l.key

use Rattle.std.proofs.Common.{◌≡◌, drop}
use Rattle.std.specs.Prelude.{map}
use Rattle.serde_json.specs.View.{view}
use Rattle.vp_json.specs.Keys.{has_each}
use Rattle.vp_json.proofs.has_each.Given as goal

abbrev pub invariant-loop-key : goal.invariant-loop-key
invariant-loop-key l =
    has_each (map (λ k. k.now) (drop l.key-index l.keys)) (view l.value) ≡ has_each (map (λ k. k.now) l.keys) (view l.value)

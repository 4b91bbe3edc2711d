use Rattle.std.proofs.Common.{ℕ, ◌-◌, ◌<◌, take}
use Rattle.std.specs.Str.{IsCharBoundary}
use Rattle.vp_design.specs.Fronts.{HasNoTokens}
use Rattle.vp_design.proofs.prefixes.longest_front.Given as goal

abbrev pub invariant-loop-fewer : goal.invariant-loop-fewer
invariant-loop-fewer l =
    (k : ℕ) → k < l.fewer → IsCharBoundary l.text (l.end - k) → HasNoTokens (take (l.end - k) l.text)

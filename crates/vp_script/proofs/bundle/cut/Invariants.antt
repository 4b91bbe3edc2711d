use Rattle.std.specs.Prelude.{option_map}
use Rattle.vp_script.proofs.Cuts.{Left, left_size}
use Rattle.vp_script.proofs.bundle.cut.Given as goal

abbrev pub decreases-loop-left : goal.decreases-loop-left
decreases-loop-left l = left_size (option_map (λ r. r.now) l.left)

-- what is left of the text
abbrev pub invariant-loop-left : goal.invariant-loop-left
invariant-loop-left l = Left l.bytes (option_map (λ r. r.now) l.left)

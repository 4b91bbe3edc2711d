use Rattle.std.proofs.Common.{◌≡◌, drop}
use Rattle.vp_statement.specs.Effects.{default_of}
use Rattle.vp_statement.proofs.effect.default_of.Given as goal

-- that of all is that of those that are left
abbrev pub invariant-loop-choice : goal.invariant-loop-choice
invariant-loop-choice l = default_of (drop l.choice-index l.choices) ≡ default_of l.choices

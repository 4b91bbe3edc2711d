use Rattle.std.proofs.Common.{◌≡◌, drop, map, None}
use Rattle.std.specs.List.{fold}
use Rattle.vp_statement.specs.Noting.{noted}
use Rattle.vp_statement.specs.Walking.{part_of}
use Rattle.vp_statement.proofs.flow.note_choices.Given as goal

-- noting those that are left gives what noting all gives
abbrev pub invariant-loop-choice : goal.invariant-loop-choice
invariant-loop-choice l =
    fold noted l.parts.items (map (λ c. part_of l.whole c.body None) (drop l.choice-index l.choices))
    ≡ fold noted l.fn.parts.items (map (λ c. part_of l.whole c.body None) l.choices)

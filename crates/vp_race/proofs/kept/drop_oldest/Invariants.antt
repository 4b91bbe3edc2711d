use Rattle.std.proofs.Common.{◌≡◌, length}
use Rattle.vp_race.specs.Recording.{choices_limit, choices_of, last_within}
use Rattle.vp_race.proofs.kept.drop_oldest.Given as goal

abbrev pub invariant-loop-choices : goal.invariant-loop-choices
invariant-loop-choices l =
    (l.choices ≡ choices_of l.ring.items)
    × (last_within choices_limit l.ring.items ≡ last_within choices_limit l.fn.ring.items)
    × (l.ring.capacity ≡ l.fn.ring.capacity)

abbrev pub decreases-loop-choices : goal.decreases-loop-choices
decreases-loop-choices l = length l.ring.items

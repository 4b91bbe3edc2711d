use Rattle.std.proofs.Common.{◌≡◌, ◌++◌, drop}
use Rattle.vp_race.specs.Orders.{after_choices, sources_of}
use Rattle.vp_race.proofs.follow.follow.Given as goal

-- what is left leads from here to where all leads from the start
abbrev pub invariant-loop-choice : goal.invariant-loop-choice
invariant-loop-choice l = record {
  leads : after_choices l.fn.simulation l.choices ≡ after_choices l.simulation (drop l.choice-index l.choices);
  sources : l.fn.sources.items ++ sources_of l.fn.simulation l.choices ≡ l.sources.items ++ sources_of l.simulation (drop l.choice-index l.choices);
}

use Rattle.std.proofs.Common.{◌≡◌, ◌-◌, Some}
use Rattle.vp_sim.specs.States.{State}
use Rattle.vp_race.specs.Orders.{after_choices, sources_of}
use Rattle.vp_race.specs.Search.{tried_after, tried_from}
use Rattle.vp_race.proofs.trial.try_into.Given as goal

-- what is left to try from here gives what is tried from where it began, after the choices so far
abbrev pub invariant-loop-turn : goal.invariant-loop-turn
invariant-loop-turn l = record {
  tried : tried_after l.fn.order.choices.items (tried_from l.limit l.seed l.fn.number (Some l.fn.simulation)) ≡ tried_after l.order.choices.items (tried_from (l.limit - l._turn) l.seed l.number (Some l.simulation));
  leads : (start : State) → after_choices start l.fn.order.choices.items ≡ Some l.fn.simulation → after_choices start l.order.choices.items ≡ Some l.simulation;
  sources : (start : State) → after_choices start l.fn.order.choices.items ≡ Some l.fn.simulation → l.fn.order.sources.items ≡ sources_of start l.fn.order.choices.items → l.order.sources.items ≡ sources_of start l.order.choices.items;
  design : l.simulation.design ≡ l.fn.simulation.design;
}

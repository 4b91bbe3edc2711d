use Rattle.std.proofs.Common.{rules, ◌≡◌, ◌∙◌, ap, subst, sym}
use Rattle.std.specs.Arc.{arc_value}
use Rattle.vp_race.specs.declared.follow.Order.{Order}
use Rattle.vp_race.specs.Search.{IsRunOf}
use Rattle.vp_sim.specs.States.{State}
use Rattle.vp_race.proofs.Closing.{run_of_first}
use Rattle.vp_race.proofs.Designs.{after_design}
use Rattle.vp_race.proofs.seeds.search_from.Goals as goal

pub search_by-requires-clause-run : goal.search_by-requires-clause-run
search_by-requires-clause-run g c =
    let seg = arc_value c.args.segment.now in
    let order = c.in_ok-run_order.field-0 in
    let e = c.in_ok-run_order.ensures {u = tt} in
    let run =
    subst (λ (s : State). IsRunOf seg order.choices.items order.sources.items s) (sym c.checkpoint.ensures.same)
    (run_of_first seg c.args.choice.now order.choices.items order.sources.items c.run_order.new.simulation c.requires.choice e.choices e.sources e.leads) in
    subst (λ (o : Order). IsRunOf seg o.choices.items o.sources.items c.checkpoint.new.self) (sym (c.in_ok-run.ensures {u = tt}).ok) run

-- the run's end is of the segment's design
pub search_by-requires-clause-design : goal.search_by-requires-clause-design
search_by-requires-clause-design g c =
    let choice = c.args.choice.now in
    let e = c.in_ok-run_order.ensures {u = tt} in
    let of_end : c.in-Ok-of_kept.simulation ≡ c.run_order.new.simulation = search rules in
    ap (λ (s : State). s.design) of_end ∙ after_design choice.state choice.order c.run_order.new.simulation e.leads

use Rattle.std.proofs.Common.{◌≡◌, ◌∙◌, ◌-◌, Option, Some, ap, length, subst, sym}
use Rattle.std.specs.Prelude.{option_map}
use Rattle.vp_sim.specs.States.{State}
use Rattle.vp_race.specs.Recording.{Begun, Chosen, IsClosed, Stands}
use Rattle.vp_race.proofs.Standing.{begun_with, closes}
use Rattle.vp_race.proofs.open_segment.OpenSegment.close.Goals as goal

pub new-requires : goal.new-requires
new-requires c =
    let i = c.self.inside in
    let s = c.args.simulation.now in
    let start : i.start ≡ Some c.in-Some.start = sym c.take.ensures.value ∙ c.in-Some.is in
    let old = subst (λ (b : Option Begun). Stands b s) (sym c.self.view_is) c.requires.stands in
    let leads = subst (λ (x : Option State). Stands (option_map (begun_with i.sources.items (i.sources.cap - i.sources.len) i.choice) x) s) start old in
    let closed : IsClosed c.in-Some.start (length i.sources.items) i.choice = closes s c.in-Some.start i.sources.items i.choice leads c.requires.over in
    subst (λ n. IsClosed c.in-Some.start n c.take-in-Some.result) (sym (c.len-forced.ensures ∙ i.sources.ok.0))
    (subst (IsClosed c.in-Some.start (length i.sources.items)) (sym c.take-in-Some.ensures.value) closed)

use Rattle.std.proofs.Common.{◌≡◌, ◌∙◌, ℕ, List, Option, ap, rules}
use Rattle.std.proofs.lemmas.List.{with_items_is}
use Rattle.vp_race.specs.Recording.{with_step}
use Rattle.vp_sim.specs.States as sim
use Rattle.vp_expr.specs.declared.change.Change.{Change}
use Rattle.vp_answer.specs.OpenSessions.{OpenSessionState}
use Rattle.vp_world.specs.History.{noticed}
use Rattle.vp_world.specs.Marks.{all_marked}
use Rattle.vp_world.specs.Shown.{shown}
use Rattle.vp_world.proofs.Asking.{step_shown}
use Rattle.vp_world.proofs.Designs.{fits_stepped, stepped_of}
use Rattle.vp_world.proofs.live_world.LiveWorld.step.Goals as goal

pub invariant_of-self : goal.invariant_of-self
invariant_of-self c =
    let inside = c.self.inside in
    let next = c.step_of.new.run in
    let goes : sim.step inside.run.simulation c.args.k ≡ sim.Goes next.simulation c.in-Ok.change = search rules in
    let closes : next.segments ≡ with_step inside.run.segments c.args.k next.simulation = search rules in (
      ap (all_marked c.notify.new.watched.items) (with_items_is inside.sessions c.notify.new.sessions (search rules)) ∙ c.notify.ensures.marked,
      c.self.invariant.1,
      stepped_of inside.run next c.args.k c.in-Ok.change goes closes c.self.invariant.2,
      fits_stepped inside.policy inside.run next c.args.k c.in-Ok.change goes c.self.invariant.3,
    )

pub returns-in-Ok-clause-after : goal.returns-in-Ok-clause-after
returns-in-Ok-clause-after c =
    let inside = c.self.inside in
    let next = c.step_of.new.run in
    let goes : sim.step inside.run.simulation c.args.k ≡ sim.Goes next.simulation c.in-Ok.change = search rules in
    let closes : next.segments ≡ with_step inside.run.segments c.args.k next.simulation = search rules in
    let tells : c.notify.new.sessions ≡ noticed c.in-Ok.change next.simulation.time inside.sessions.items =
    c.notify.ensures.notified ∙ ap (λ (change : Option Change). noticed change c.time-time.result c.deref_mut.result.now) c.as_ref.ensures.value
    ∙ ap (λ (time : ℕ). noticed c.in-Ok.change time c.deref_mut.result.now) (c.time-time.ensures ∙ ap (λ (s : sim.State). s.time) c.simulation.ensures)
    ∙ ap (noticed c.in-Ok.change next.simulation.time) c.deref_mut.ensures.value in
    ap (λ (items : List OpenSessionState). shown next inside.book.races inside.opening_policy.value inside.policy inside.limits items inside.opens.items inside.goal)
    (with_items_is inside.sessions c.notify.new.sessions (search rules))
    ∙ step_shown inside.run next inside.book.races inside.opening_policy.value inside.policy inside.limits inside.sessions.items c.notify.new.sessions inside.opens.items inside.goal
    c.args.k c.in-Ok.change c.args.self.now c.self.view_is goes closes tells

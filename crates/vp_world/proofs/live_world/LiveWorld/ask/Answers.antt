use Rattle.std.proofs.Common.{◌≡◌, ◌∙◌, ap, rules, slice_set}
use Rattle.std.specs.Vec.{with_item}
use Rattle.std.proofs.lemmas.List.{with_items_is}
use Rattle.vp_sim.specs.States as sim
use Rattle.vp_world.specs.Given.{observer_in}
use Rattle.vp_world.specs.History.{noticed}
use Rattle.vp_world.specs.Marks.{all_marked}
use Rattle.vp_world.specs.Shown.{shown}
use Rattle.vp_world.proofs.Asking.{changed_given, due_of, kept_given, state_given, told_given, within_shown}
use Rattle.vp_world.proofs.Designs.{fits_put, put_leaves}
use Rattle.vp_world.proofs.Marks.{all_marked_more, marked_at, marked_set}
use Rattle.vp_world.proofs.live_world.LiveWorld.ask.Goals as goal

pub notify-requires : goal.notify-requires
notify-requires c =
    let inside = c.self.inside in
    let sessions = inside.sessions.items in
    let session = c.index_mut-session.result.now in
    let new = c.answer_query.new.session in
    let marks = c.mark_asked.new.watched.items in
    let within = within_shown inside.run inside.book.races inside.opening_policy.value inside.policy inside.limits sessions inside.opens.items inside.goal c.args.index c.args.self.now c.self.view_is c.requires in
    let own = marked_at inside.watched.items sessions c.args.index session within c.index_mut-session.ensures.value c.self.invariant.0 in
    let answered = (c.in_ok-answer.ensures {u = tt}).given in
    ap (all_marked marks) c.deref_mut.ensures.value
    ∙ marked_set marks sessions c.args.index new
    (all_marked_more inside.watched.items marks sessions c.mark_asked.ensures.grown c.self.invariant.0)
    (c.mark_asked.ensures.marked (observer_in inside.run inside.book inside.policy session.session_state.user) session.session_state answered.session_state own)

pub returns-clause-reply : goal.returns-clause-reply
returns-clause-reply c =
    let inside = c.self.inside in
    told_given inside.run inside.book inside.opening_policy.value inside.policy inside.limits inside.sessions.items inside.opens.items inside.goal c.args.index c.index_mut-session.result.now c.args.query.now c.args.self.now c.self.view_is c.requires c.index_mut-session.ensures.value
    c.answer_query.new.run c.answer_query.new.session.session_state c.in_ok-answer.answer
    (c.in_ok-answer.ensures {u = tt}).given

pub returns-clause-entry : goal.returns-clause-entry
returns-clause-entry c =
    let inside = c.self.inside in
    kept_given inside.run inside.book inside.opening_policy.value inside.policy inside.limits inside.sessions.items inside.opens.items inside.goal c.args.index c.index_mut-session.result.now c.args.query.now c.args.self.now c.self.view_is c.requires c.index_mut-session.ensures.value
    c.answer_query.new.run c.answer_query.new.session.session_state c.in_ok-answer.answer
    (c.in_ok-answer.ensures {u = tt}).given

pub returns-clause-change : goal.returns-clause-change
returns-clause-change c =
    let inside = c.self.inside in
    changed_given inside.run inside.book inside.opening_policy.value inside.policy inside.limits inside.sessions.items inside.opens.items inside.goal c.args.index c.index_mut-session.result.now c.args.query.now c.args.self.now c.self.view_is c.requires c.index_mut-session.ensures.value
    c.answer_query.new.run c.answer_query.new.session.session_state c.in_ok-answer.answer
    (c.in_ok-answer.ensures {u = tt}).given

pub returns-clause-after : goal.returns-clause-after
returns-clause-after c =
    let inside = c.self.inside in
    let session = c.index_mut-session.result.now in
    let answer = c.in_ok-answer.answer in
    let next = c.answer_query.new.run in
    let sessions = slice_set inside.sessions.items c.args.index c.answer_query.new.session in
    let tells : c.notify.new.sessions ≡ noticed answer.change next.simulation.time sessions =
    c.notify.ensures.notified
    ∙ ap (λ change. noticed change c.time-time.result c.deref_mut.result.now) c.as_ref-change.ensures.value
    ∙ ap (λ time. noticed answer.change time c.deref_mut.result.now) (c.time-time.ensures ∙ ap (λ (s : sim.State). s.time) c.simulation.ensures)
    ∙ ap (noticed answer.change next.simulation.time) c.deref_mut.ensures.value in
    let v = with_item inside.sessions c.args.index c.answer_query.new.session in
    ap (λ items. shown next inside.book.races inside.opening_policy.value inside.policy inside.limits items inside.opens.items c.goal_after-self-inside.result) (with_items_is v c.notify.new.sessions (search rules))
    ∙ state_given inside.run inside.book inside.opening_policy.value inside.policy inside.limits inside.sessions.items inside.opens.items inside.goal c.args.index session c.args.query.now c.args.self.now c.self.view_is c.requires c.index_mut-session.ensures.value
    next c.answer_query.new.session c.notify.new.sessions c.goal_after-self-inside.result answer
    (c.in_ok-answer.ensures {u = tt}).given c.answer_query.ensures.id
    c.goal_after-self-inside.ensures tells

pub invariant_of-self-2 : goal.invariant_of-self-2
invariant_of-self-2 c =
    let inside = c.self.inside in
    let session = c.index_mut-session.result.now in
    let answer = c.in_ok-answer.answer in
    let given = (c.in_ok-answer.ensures {u = tt}).given in
    let v = with_item inside.sessions c.args.index c.answer_query.new.session in (
      ap (all_marked c.notify.new.watched.items) (with_items_is v c.notify.new.sessions (search rules)) ∙ c.notify.ensures.marked,
      c.self.invariant.1,
      put_leaves inside.run c.answer_query.new.run (due_of inside.run inside.book inside.policy session.session_state c.args.query.now).put answer.change given.put given.segments c.self.invariant.2,
      fits_put inside.policy inside.run c.answer_query.new.run (due_of inside.run inside.book inside.policy session.session_state c.args.query.now).put answer.change given.put c.self.invariant.3,
    )

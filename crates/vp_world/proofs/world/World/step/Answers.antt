use Rattle.std.proofs.Common.{rules, ◌≡◌, ◌++◌, ◌∷◌, [], None, refl, ap, arith}
use Rattle.vp_world.specs.Entries.{Entry}
use Rattle.vp_world.specs.declared.event.Event.TheVariants as event
use Rattle.vp_answer.specs.declared.reply.Reply.TheVariants as reply
use Rattle.vp_world.specs.History.{is_full_of, limit_of_simulation, refusal_after, state_after}
use Rattle.vp_world.specs.Worlds.{State}
use Rattle.vp_world.proofs.Counting.{count_within}
use Rattle.vp_world.proofs.Logs.{entry_is, keeps_more, with_room}
use Rattle.vp_world.proofs.world.World.step.Goals as goal

pub step-requires : goal.step-requires
step-requires c =
    let w = c.self.inside.present in
    let log = c.self.inside.log.entries in
    let same : w.state.segments.count ≡ (state_after w.opening log).segments.count = ap (λ (s : State). s.segments.count) c.self.invariant.state in
    omega (arith, same, count_within w.opening log, c.reserve.ensures.few)

pub invariant_of-self-2 : goal.invariant_of-self-2
invariant_of-self-2 c =
    let w = c.self.inside.present in
    let log = c.self.inside.log.entries in
    let done = c.in_ok-change.ensures {u = tt} in
    let entry : Entry = record { event = event.Step c.args.k; reply = reply.Done; change = c.in_ok-change.change; time = c.time-time.result; finished = c.finished-finished.result } in
    let added : c.push_step.new.self.entries ≡ log ++ entry ∷ [] = search rules in
    let full = is_full_of (limit_of_simulation w.opening.limits) c.self.inside.log.handed_out log in
    let accepted : refusal_after w.opening log (event.Step c.args.k) ≡ None = with_room w.opening full (state_after w.opening log) (event.Step c.args.k) (search rules) in
    keeps_more w c.step.new.self log c.push_step.new.self.entries entry c.self.invariant done.after added tt accepted
    (entry_is w.opening w.state (state_after w.opening log) entry c.self.invariant.state refl done.change (search rules) (search rules))

use Rattle.std.proofs.Common.{rules, ◌≡◌, ◌++◌, ◌∷◌, [], None, refl, sym}
use Rattle.vp_world.specs.Entries.{Entry}
use Rattle.vp_world.specs.declared.event.Event.TheVariants as event
use Rattle.vp_answer.specs.declared.reply.Reply.TheVariants as reply
use Rattle.vp_world.specs.History.{refusal_after, state_after}
use Rattle.vp_world.proofs.Logs.{entry_is, keeps_more, with_room}
use Rattle.vp_world.proofs.world.World.advance.Goals as goal

pub invariant_of-self-2 : goal.invariant_of-self-2
invariant_of-self-2 c =
    let w = c.self.inside.present in
    let log = c.self.inside.log.entries in
    let done = c.in_ok-advance.ensures {u = tt} in
    let entry : Entry = record { event = event.Advance; reply = reply.Done; change = None; time = c.time.result; finished = c.finished.result } in
    let added : c.push.new.self.entries ≡ log ++ entry ∷ [] = search rules in
    let accepted : refusal_after w.opening log (event.Advance) ≡ None = with_room w.opening c.is_full_for_simulation-full.result (state_after w.opening log) (event.Advance) (search rules) in
    keeps_more w c.advance.new.self log c.push.new.self.entries entry c.self.invariant done.after added tt accepted
    (entry_is w.opening w.state (state_after w.opening log) entry c.self.invariant.state refl (sym done.change) (search rules) (search rules))

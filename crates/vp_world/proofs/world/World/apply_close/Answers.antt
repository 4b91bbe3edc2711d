use Rattle.std.proofs.Common.{rules, ◌≡◌, ◌++◌, ◌∷◌, [], None, Some, Option, ℕ, refl, ap, sym, ◌∙◌}
use Rattle.vp_world.specs.Entries.{Entry}
use Rattle.vp_world.specs.declared.event.Event.TheVariants as event
use Rattle.vp_answer.specs.declared.reply.Reply.TheVariants as reply
use Rattle.vp_world.specs.History.{closed_at, refusal_after, state_after, with_state}
use Rattle.vp_answer.specs.OpenSessions.{index_of}
use Rattle.vp_world.proofs.Logs.{entry_is, keeps_more, with_room}
use Rattle.vp_world.proofs.world.World.apply_close.Goals as goal

pub invariant_of-self-2 : goal.invariant_of-self-2
invariant_of-self-2 c =
    let w = c.self.inside.present in
    let log = c.self.inside.log.entries in
    let id = c.args.session in
    let found : index_of w.state.sessions id ≡ Some c.in_ok-index.index = (c.in_ok-index.ensures {u = tt}).index in
    let entry : Entry = record { event = event.Close id; reply = reply.Done; change = None; time = c.time.result; finished = c.finished.result } in
    let added : c.push.new.self.entries ≡ log ++ entry ∷ [] = search rules in
    let accepted : refusal_after w.opening log (event.Close id) ≡ None = with_room w.opening c.is_full_for_closes-full.result (state_after w.opening log) (event.Close id) (search rules) in
    let after = c.close.ensures ∙ ap (λ (o : Option ℕ). with_state w (closed_at w.state o)) (sym found) in
    keeps_more w c.close.new.self log c.push.new.self.entries entry c.self.invariant after added tt accepted
    (entry_is w.opening w.state (state_after w.opening log) entry c.self.invariant.state refl refl (search rules) (search rules))

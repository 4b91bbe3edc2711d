use Rattle.std.proofs.Common.{rules, ◌≡◌, ◌++◌, List, ◌∷◌, [], None, refl, ap, ◌∙◌}
use Rattle.vp_world.specs.Entries.{Entry}
use Rattle.vp_world.specs.declared.event.Event.{Event}
use Rattle.vp_world.specs.declared.event.Event.TheVariants as event
use Rattle.vp_answer.specs.declared.reply.Reply.TheVariants as reply
use Rattle.vp_world.specs.History.{after, entry_of, refusal_after, state_after, with_state}
use Rattle.vp_world.specs.Worlds.{WorldState}
use Rattle.vp_world.proofs.Logs.{entry_is, keeps_more, with_room}
use Rattle.vp_world.proofs.world.World.apply_halt.Goals as goal

module _ (c : goal.After-push) where
  abbrev w : WorldState
  w = c.self.inside.present

  abbrev log : List Entry
  log = c.self.inside.log.entries

  abbrev happens : Event
  happens = event.Halt c.args.order

  abbrev entry : Entry
  entry = record { event = happens; reply = reply.Done; change = None; time = c.time.result; finished = c.finished.result }

  following : c.halt.new.self ≡ with_state w (after w.opening w.state happens)
  following = c.halt.ensures

  added : c.push.new.self.entries ≡ log ++ entry ∷ []
  added = search rules

  made : entry ≡ entry_of w.opening (state_after w.opening log) happens
  made = entry_is w.opening w.state (state_after w.opening log) entry c.self.invariant.state refl refl (c.time.ensures ∙ ap (λ (s : WorldState). s.state.run.time) following) (c.finished.ensures ∙ ap (λ (s : WorldState). s.state.run.finished) following)

pub invariant_of-self-2 : goal.invariant_of-self-2
invariant_of-self-2 c =
    let accepted : refusal_after (w c).opening (log c) (happens c) ≡ None = with_room (w c).opening c.is_full_for_operator-full.result (state_after (w c).opening (log c)) (happens c) (search rules) in
    keeps_more (w c) c.halt.new.self (log c) c.push.new.self.entries (entry c) c.self.invariant (following c) (added c) tt accepted (made c)

use Rattle.std.proofs.Common.{rules, ◌≡◌, ◌++◌, List, ◌∷◌, [], None, refl, ap, ◌∙◌, sym}
use Rattle.vp_race.specs.Recording.{next_job}
use Rattle.vp_world.specs.Entries.{Entry}
use Rattle.vp_world.specs.declared.event.Event.TheVariants as event
use Rattle.vp_answer.specs.declared.reply.Reply.TheVariants as reply
use Rattle.vp_world.specs.History.{after, answer, entry_of, refusal_after, state_after, with_state}
use Rattle.vp_world.specs.Worlds.{WorldState}
use Rattle.vp_world.proofs.Jobs.{job_told}
use Rattle.vp_world.proofs.Logs.{entry_is, keeps_more, seen_more, with_room}
use Rattle.vp_world.proofs.world.World.apply_job.Goals as goal

module _ (c : goal.After-push) where
  abbrev w : WorldState
  w = c.self.inside.present

  abbrev log : List Entry
  log = c.self.inside.log.entries

  abbrev entry : Entry
  entry = record { event = event.TakeJob; reply = reply.Job c.in-Some.number; change = None; time = c.time.result; finished = c.finished.result }

  following : c.take_job.new.self ≡ with_state w (after w.opening w.state event.TakeJob)
  following = search rules

  told : reply.Job c.in-Some.number ≡ answer w.opening w.state event.TakeJob
  told = job_told (next_job w.state.segments) c.in-Some.number (search rules)

  added : c.push.new.self.entries ≡ log ++ entry ∷ []
  added = search rules

  made : entry ≡ entry_of w.opening (state_after w.opening log) event.TakeJob
  made = entry_is w.opening w.state (state_after w.opening log) entry c.self.invariant.state told refl (c.time.ensures ∙ ap (λ (s : WorldState). s.state.run.time) following) (c.finished.ensures ∙ ap (λ (s : WorldState). s.state.run.finished) following)

pub invariant_of-self-2 : goal.invariant_of-self-2
invariant_of-self-2 c =
    let accepted : refusal_after (w c).opening (log c) event.TakeJob ≡ None = with_room (w c).opening c.is_full_for_simulation-full.result (state_after (w c).opening (log c)) event.TakeJob (search rules) in
    keeps_more (w c) c.take_job.new.self (log c) c.push.new.self.entries (entry c) c.self.invariant (following c) (added c) tt accepted (made c)

pub returns-clause-applied : goal.returns-clause-applied
returns-clause-applied c = record {
  accepted = search rules;
  logged =
      seen_more (w c) c.take_job.new.self (log c) c.push.new.self.entries c.self.inside.log.handed_out c.push.new.self.handed_out (entry c) c.args.self.now c.self.view_is
      (following c ∙ ap (λ (s : WorldState). with_state (w c) s.state) (sym (following c))) (added c) (c.push.ensures.handed_out ∙ c.reserve.ensures.handed_out) (made c);
  refused = tt;
  unchanged = tt;
}

use Rattle.std.proofs.Common.{rules, ◌≡◌, ◌++◌, List, ◌∷◌, [], None, refl, ap, ◌∙◌, subst, sym}
use Rattle.vp_race.specs.Segments.{FindingState}
use Rattle.vp_world.specs.Entries.{Entry}
use Rattle.vp_world.specs.declared.event.Event.{Event}
use Rattle.vp_world.specs.declared.event.Event.TheVariants as event
use Rattle.vp_answer.specs.declared.reply.Reply.TheVariants as reply
use Rattle.vp_world.specs.History.{after, entry_of, refusal_after, state_after, with_booked, with_state}
use Rattle.vp_world.specs.Events.{IsWellFormed}
use Rattle.vp_world.specs.Worlds.{WorldLog, WorldState}
use Rattle.vp_world.proofs.Logs.{entry_is, keeps_more, seen_more, with_room}
use Rattle.vp_world.proofs.world.World.apply_booking.Goals as goal

module _ (c : goal.After-drop-finding-inside-2) where
  abbrev w : WorldState
  w = c.self.inside.present

  abbrev log : List Entry
  log = c.self.inside.log.entries

  abbrev happens : Event
  happens = event.Book c.args.finding

  -- the entry of a finding
  abbrev entry_of_finding : FindingState → Entry
  entry_of_finding f = record { event = event.Book f; reply = reply.Done; change = None; time = c.time.result; finished = c.finished.result }

  abbrev entry : Entry
  entry = entry_of_finding c.args.finding

  following : c.book.new.self ≡ with_state w (after w.opening w.state happens)
  following = (c.in_ok-booked.ensures {u = tt}).after ∙ ap (λ (f : FindingState). with_state w (with_booked w.state f)) c.value-2.ensures

  same : c.in_ok-booked.booked ≡ c.args.finding
  same = (c.in_ok-booked.ensures {u = tt}).booked ∙ c.value-2.ensures

  added : c.push.new.self.entries ≡ log ++ entry ∷ []
  added =
      let as_logged : c.push.new.self.entries ≡ log ++ entry_of_finding c.in_ok-booked.booked ∷ [] = search rules in
      as_logged ∙ ap (λ (f : FindingState). log ++ entry_of_finding f ∷ []) same

  made : entry ≡ entry_of w.opening (state_after w.opening log) happens
  made = entry_is w.opening w.state (state_after w.opening log) entry c.self.invariant.state refl refl (c.time.ensures ∙ ap (λ (s : WorldState). s.state.run.time) following) (c.finished.ensures ∙ ap (λ (s : WorldState). s.state.run.finished) following)

pub invariant_of-self-2 : goal.invariant_of-self-2
invariant_of-self-2 c =
    let accepted : refusal_after (w c).opening (log c) (happens c) ≡ None = with_room (w c).opening c.is_full_for_simulation.result (state_after (w c).opening (log c)) (happens c) (search rules) in
    let formed : IsWellFormed (w c).opening.design (happens c) = subst (λ (v : WorldLog). IsWellFormed v.opening.design (happens c)) (sym c.self.view_is) c.requires in
    keeps_more (w c) c.book.new.self (log c) c.push.new.self.entries (entry c) c.self.invariant (following c) (added c) formed accepted (made c)

pub returns-clause-applied : goal.returns-clause-applied
returns-clause-applied c = record {
  accepted = search rules;
  logged =
      seen_more (w c) c.book.new.self (log c) c.push.new.self.entries c.self.inside.log.handed_out c.push.new.self.handed_out (entry c) c.args.self.now c.self.view_is
      (following c ∙ ap (λ (s : WorldState). with_state (w c) s.state) (sym (following c))) (added c) (c.push.ensures.handed_out ∙ c.reserve.ensures.handed_out) (made c);
  refused = tt;
  unchanged = tt;
}

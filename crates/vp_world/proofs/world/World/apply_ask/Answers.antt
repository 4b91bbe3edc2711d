use Rattle.std.proofs.Common.{rules, ◌≡◌, ◌++◌, List, ◌∷◌, [], None, Some, Option, ℕ, sym, ap, ◌∙◌}
use Rattle.std.specs.Prelude.{slice_get, option_and_then}
use Rattle.vp_world.specs.declared.entry.Asked.{Asked}
use Rattle.vp_answer.specs.declared.query.Query.{Query}
use Rattle.vp_world.specs.Entries.{Entry}
use Rattle.vp_world.specs.declared.event.Event.{Event}
use Rattle.vp_world.specs.declared.event.Event.TheVariants as event
use Rattle.vp_world.specs.History.{after, answer, asked, asked_at, asked_in, changed, changed_by, changed_in, entry_of, refusal_after, state_after, with_state}
use Rattle.vp_world.specs.Worlds.{WorldState}
use Rattle.vp_answer.specs.OpenSessions.{index_of}
use Rattle.vp_world.proofs.Logs.{entry_is, keeps_more, seen_more, with_room}
use Rattle.vp_world.proofs.world.World.apply_ask.Goals as goal

module _ (c : goal.After-push) where
  abbrev w : WorldState
  w = c.self.inside.present

  abbrev log : List Entry
  log = c.self.inside.log.entries

  abbrev happens : Event
  happens = event.Ask c.args.session c.args.query

  abbrev entry : Entry
  entry = record { event = happens; reply = c.in_ok-answer.answer.entry_reply; change = c.in_ok-answer.answer.change; time = c.time.result; finished = c.finished.result }

  found : index_of w.state.sessions c.args.session ≡ Some c.in_ok-index.index
  found = (c.in_ok-index.ensures {u = tt}).index

  same : c.deref.result.now.query ≡ c.args.query
  same = ap (λ (a : Asked). a.query) (c.deref.ensures ∙ (c.in_ok-asked.ensures {u = tt}).ok)

  following : c.ask.new.self ≡ with_state w (after w.opening w.state happens)
  following =
      (c.in_ok-answer.ensures {u = tt}).after
      ∙ ap (λ (r : Query). with_state w (asked_at w.state (Some c.in_ok-index.index) r)) same
      ∙ ap (λ (o : Option ℕ). with_state w (asked_at w.state o c.args.query)) (sym found)

  kept : c.in_ok-answer.answer.entry_reply ≡ answer w.opening w.state happens
  kept =
      (c.in_ok-answer.ensures {u = tt}).entry
      ∙ ap (λ (r : Query). asked_in w c.in_ok-index.index r) same
      ∙ ap (λ (o : Option ℕ). asked w.state (option_and_then (slice_get w.state.sessions) o) c.args.query) (sym found)

  changes : c.in_ok-answer.answer.change ≡ changed w.state happens
  changes =
      (c.in_ok-answer.ensures {u = tt}).change
      ∙ ap (λ (r : Query). changed_in w c.in_ok-index.index r) same
      ∙ ap (λ (o : Option ℕ). changed_by w.state (option_and_then (slice_get w.state.sessions) o) c.args.query) (sym found)

  added : c.push.new.self.entries ≡ log ++ entry ∷ []
  added = search rules

  made : entry ≡ entry_of w.opening (state_after w.opening log) happens
  made = entry_is w.opening w.state (state_after w.opening log) entry c.self.invariant.state kept changes (c.time.ensures ∙ ap (λ (s : WorldState). s.state.run.time) following) (c.finished.ensures ∙ ap (λ (s : WorldState). s.state.run.finished) following)

pub invariant_of-self-2 : goal.invariant_of-self-2
invariant_of-self-2 c =
    let accepted : refusal_after (w c).opening (log c) (happens c) ≡ None = with_room (w c).opening c.is_full_for_users-full.result (state_after (w c).opening (log c)) (happens c) (search rules) in
    keeps_more (w c) c.ask.new.self (log c) c.push.new.self.entries (entry c) c.self.invariant (following c) (added c) tt accepted (made c)

pub returns-clause-applied : goal.returns-clause-applied
returns-clause-applied c = record {
  accepted = search rules;
  logged =
      seen_more (w c) c.ask.new.self (log c) c.push.new.self.entries c.self.inside.log.handed_out c.push.new.self.handed_out (entry c) c.args.self.now c.self.view_is
      (following c ∙ ap (λ (s : WorldState). with_state (w c) s.state) (sym (following c))) (added c) (c.push.ensures.handed_out ∙ c.reserve.ensures.handed_out) (made c);
  refused = tt;
  unchanged = tt;
}

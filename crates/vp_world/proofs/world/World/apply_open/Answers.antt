use Rattle.std.proofs.Common.{rules, ◌≡◌, ◌++◌, List, ◌∷◌, [], None, Some, Err, Option, ℕ, refl, ap, sym, ◌∙◌}
use Rattle.std.specs.Option.{option_map_or}
use Rattle.vp_policy.specs.Users.{login_of}
use Rattle.vp_world.specs.Entries.{Entry}
use Rattle.vp_world.specs.declared.event.Event.{Event}
use Rattle.vp_world.specs.declared.event.Event.TheVariants as event
use Rattle.vp_answer.specs.declared.request.SessionId.{SessionId}
use Rattle.vp_answer.specs.declared.reply.Refusal.TheVariants as refusal
use Rattle.vp_answer.specs.declared.reply.Reply.TheVariants as reply
use Rattle.vp_world.specs.History.{after, answer, entry_of, next_session, opened_by, refusal_after, refused_by, state_after, with_state}
use Rattle.vp_world.specs.Worlds.{WorldState}
use Rattle.vp_world.proofs.Logs.{entry_is, keeps_more, refused_so, seen_more, with_room}
use Rattle.vp_world.proofs.world.World.apply_open.Goals as goal

pub returns-in_err-number-clause-applied : goal.returns-in_err-number-clause-applied
returns-in_err-number-clause-applied c =
    let v = c.args.self.now in
    let happens = event.Open c.args.user c.args.token in
    let e = c.in_err-number.field-0.0 in
    let is : c.from_residual.result ≡ Err e = search rules in
    let why : refused_by v happens ≡ Some e = search rules in
    refused_so v happens c.from_residual.result e is why

module _ (c : goal.After-push) where
  abbrev w : WorldState
  w = c.self.inside.present

  abbrev log : List Entry
  log = c.self.inside.log.entries

  abbrev happens : Event
  happens = event.Open c.args.user c.args.token

  abbrev entry : Entry
  entry = record { event = happens; reply = reply.Opened c.in_ok-session.session; change = None; time = c.time.result; finished = c.finished.result }

  found : login_of w.state.policy.members c.args.user c.args.token ≡ Some c.in_ok-number.number.0
  found = search rules

  following : c.open_for.new.self ≡ with_state w (after w.opening w.state happens)
  following =
      (c.in_ok-session.ensures {u = tt}).after
      ∙ ap (λ (o : Option ℕ). with_state w (option_map_or (opened_by w.state) o w.state)) (sym found)

  told : reply.Opened c.in_ok-session.session ≡ answer w.opening w.state happens
  told =
      ap (λ (id : SessionId). reply.Opened id) (c.in_ok-session.ensures {u = tt}).id
      ∙ ap (λ (o : Option ℕ). option_map_or (λ u. reply.Opened (next_session w.state u)) o (reply.Error refusal.BadToken)) (sym found)

  added : c.push.new.self.entries ≡ log ++ entry ∷ []
  added = search rules

  made : entry ≡ entry_of w.opening (state_after w.opening log) happens
  made = entry_is w.opening w.state (state_after w.opening log) entry c.self.invariant.state told refl (c.time.ensures ∙ ap (λ (s : WorldState). s.state.run.time) following) (c.finished.ensures ∙ ap (λ (s : WorldState). s.state.run.finished) following)

pub invariant_of-self-2 : goal.invariant_of-self-2
invariant_of-self-2 c =
    let accepted : refusal_after (w c).opening (log c) (happens c) ≡ None = with_room (w c).opening c.is_full_for_users-full.result (state_after (w c).opening (log c)) (happens c) (search rules) in
    keeps_more (w c) c.open_for.new.self (log c) c.push.new.self.entries (entry c) c.self.invariant (following c) (added c) tt accepted (made c)

pub returns-clause-applied : goal.returns-clause-applied
returns-clause-applied c = record {
  accepted = search rules;
  logged =
      seen_more (w c) c.open_for.new.self (log c) c.push.new.self.entries c.self.inside.log.handed_out c.push.new.self.handed_out (entry c) c.args.self.now c.self.view_is
      (following c ∙ ap (λ (s : WorldState). with_state (w c) s.state) (sym (following c))) (added c) (c.push.ensures.handed_out ∙ c.reserve.ensures.handed_out) (made c);
  refused = tt;
  unchanged = tt;
}

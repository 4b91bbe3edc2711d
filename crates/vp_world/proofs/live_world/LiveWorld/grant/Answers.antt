use Rattle.std.proofs.Common.{◌≡◌, ◌∙◌, List, ap, map, rules}
use Rattle.std.proofs.lemmas.List.{with_items_is}
use Rattle.vp_policy.specs.PolicyState.{PolicyState}
use Rattle.vp_policy.specs.Regrants.{regranted}
use Rattle.vp_answer.specs.OpenSessions.{OpenSessionState, retired_for}
use Rattle.vp_world.specs.Marks.{all_marked}
use Rattle.vp_world.specs.Shown.{shown}
use Rattle.vp_world.proofs.Marks.{retired_marked}
use Rattle.vp_world.proofs.Standings.{granted_shown}
use Rattle.vp_world.proofs.live_world.LiveWorld.grant.Goals as goal

module _ (c : goal.After-self-1) where
  abbrev changed : PolicyState
  changed = c.regrant.new.self

  regrants : changed ≡ regranted c.self.inside.policy c.args.user.0 c.args.change.now.envelope c.args.change.now.access
  regrants =
      (c.in-Ok.ensures {u = tt}).granted
      ∙ ap (λ a. regranted c.self.inside.policy c.args.user.0 c.args.change.now.envelope a) c.rights-access.ensures

  retires : c.retire_sessions.new.sessions ≡ map (retired_for changed c.args.user.0) c.self.inside.sessions.items
  retires = c.retire_sessions.ensures ∙ ap (map (retired_for changed c.args.user.0)) c.deref_mut.ensures.value

pub invariant_of-self-2 : goal.invariant_of-self-2
invariant_of-self-2 c =
    let inside = c.self.inside in (
      ap (all_marked inside.watched.items) (with_items_is inside.sessions c.retire_sessions.new.sessions (search rules))
          ∙ ap (all_marked inside.watched.items) (retires c)
          ∙ retired_marked inside.watched.items (changed c) c.args.user.0 inside.sessions.items c.self.invariant.0,
      c.self.invariant.1,
      c.self.invariant.2,
      ap (λ (p : PolicyState). p.tree) (regrants c) ∙ c.self.invariant.3,
    )

pub returns-clause-after : goal.returns-clause-after
returns-clause-after c =
    let inside = c.self.inside in
    ap (λ (sessions : List OpenSessionState). shown inside.run inside.book.races inside.opening_policy.value (changed c) inside.limits sessions inside.opens.items inside.goal)
    (with_items_is inside.sessions c.retire_sessions.new.sessions (search rules))
    ∙ granted_shown inside.run inside.book.races inside.opening_policy.value inside.policy (changed c) inside.limits inside.sessions.items c.retire_sessions.new.sessions inside.opens.items inside.goal
    c.args.change.now c.args.user.0 c.args.self.now c.self.view_is (regrants c) (retires c)

use Rattle.std.proofs.Common.{◌∙◌, ap}
use Rattle.vp_world.specs.Marks.{all_marked}
use Rattle.vp_world.proofs.Marks.{marked_others}
use Rattle.vp_world.proofs.Standings.{ended_shown}
use Rattle.vp_world.proofs.live_world.LiveWorld.end.Goals as goal

pub returns : goal.returns
returns c =
    let inside = c.self.inside in
    ended_shown inside.run inside.book.races inside.opening_policy.value inside.policy inside.limits inside.sessions.items c.end_sessions.new.sessions.items inside.opens.items inside.goal c.args.user.0 c.args.self.now c.self.view_is c.end_sessions.ensures

pub invariant_of-self : goal.invariant_of-self
invariant_of-self c =
    let inside = c.self.inside in (
      ap (all_marked inside.watched.items) c.end_sessions.ensures
          ∙ marked_others inside.watched.items inside.sessions.items c.args.user.0 c.self.invariant.0,
      c.self.invariant.1,
      c.self.invariant.2,
      c.self.invariant.3,
    )

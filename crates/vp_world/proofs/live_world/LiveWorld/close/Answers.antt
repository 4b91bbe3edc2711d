use Rattle.std.proofs.Common.{◌∙◌, ap}
use Rattle.vp_world.specs.Marks.{all_marked}
use Rattle.vp_world.proofs.Marks.{marked_without}
use Rattle.vp_world.proofs.Standings.{closed_shown}
use Rattle.vp_world.proofs.live_world.LiveWorld.close.Goals as goal

pub returns : goal.returns
returns c =
    let inside = c.self.inside in
    closed_shown inside.run inside.book.races inside.opening_policy.value inside.policy inside.limits inside.sessions.items c.remove.new.self.items inside.opens.items inside.goal c.args.index c.args.self.now c.self.view_is c.remove.ensures.items

pub invariant_of-self : goal.invariant_of-self
invariant_of-self c =
    let inside = c.self.inside in (
      ap (all_marked inside.watched.items) c.remove.ensures.items
          ∙ marked_without inside.watched.items inside.sessions.items c.args.index c.self.invariant.0,
      c.self.invariant.1,
      c.self.invariant.2,
      c.self.invariant.3,
    )

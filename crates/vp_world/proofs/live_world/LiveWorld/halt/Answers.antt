use Rattle.vp_world.proofs.Standings.{halted_shown}
use Rattle.vp_world.proofs.live_world.LiveWorld.halt.Goals as goal

pub returns : goal.returns
returns c =
    let inside = c.self.inside in
    halted_shown inside.run inside.book.races inside.opening_policy.value inside.policy inside.limits inside.sessions.items inside.opens.items inside.goal c.args.self.now c.self.view_is

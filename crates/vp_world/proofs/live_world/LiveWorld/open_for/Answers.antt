use Rattle.std.proofs.Common.{rules}
use Rattle.vp_world.proofs.Standings.{opened_shown}
use Rattle.vp_world.proofs.live_world.LiveWorld.open_for.Goals as goal

pub returns-clause-after : goal.returns-clause-after
returns-clause-after c =
    let inside = c.self.inside in
    let w = c.args.self.now in
    opened_shown inside.run inside.book.races inside.opening_policy.value inside.policy inside.limits inside.sessions.items c.push.new.self.items inside.opens.items c.set_count.new.opens.items inside.goal
    c.in_ok-session.session c.args.user.0 w c.self.view_is
    (search rules) (search rules) (search rules)

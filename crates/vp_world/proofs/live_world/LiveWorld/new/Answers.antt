use Rattle.std.proofs.Common.{rules}
use Rattle.std.specs.Arc.{arc_value}
use Rattle.vp_world.proofs.Standings.{fresh_shown}
use Rattle.vp_world.proofs.live_world.LiveWorld.new.Goals as goal

pub returns-clause-state : goal.returns-clause-state
returns-clause-state c =
    fresh_shown (arc_value c.args.checked) c.in-Ok.run' c.new-2.result.races c.of.result.value c.args.policy c.args.limits c.new-3.result.items c.in_ok-opens.opens.items
    (search rules) (search rules) (search rules) (search rules) (search rules) (search rules)

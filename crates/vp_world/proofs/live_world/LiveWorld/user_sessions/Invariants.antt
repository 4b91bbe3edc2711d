use Rattle.std.proofs.Common.{◌≡◌, map}
use Rattle.vp_elab.specs.Tree.{below}
use Rattle.vp_world.specs.Status.{user_sessions}
use Rattle.vp_world.proofs.live_world.LiveWorld.user_sessions.Given as goal

-- those of the users so far
abbrev pub invariant-loop-number : goal.invariant-loop-number
invariant-loop-number l = l.users.items ≡ map (user_sessions l.self.state) (below l.number)

use Rattle.std.proofs.Common.{◌≡◌, drop, filter}
use Rattle.std.specs.Prelude.{slice_get}
use Rattle.vp_policy.specs.Users.{member_at}
use Rattle.vp_vpi.specs.Calls.{shown_at}
use Rattle.vp_world.specs.Races.{is_shown}
use Rattle.vp_world.proofs.user_observer.UserObserver.finding_at.Given as goal

-- the race of the number, counted among what is left
abbrev pub invariant-loop-finding : goal.invariant-loop-finding
invariant-loop-finding l =
    shown_at (filter (is_shown l.self.policy.now.tree (member_at l.self.policy.now.members l.self.user.0)) l.self.book.now.races) l.fn.number
    ≡ slice_get (filter (is_shown l.self.policy.now.tree (member_at l.self.policy.now.members l.self.user.0)) (drop l.finding-index l.self.book.now.races)) l.before

use Rattle.std.proofs.Common.{◌≡◌, ◌++◌, drop}
use Rattle.vp_policy.specs.Users.{member_at}
use Rattle.vp_world.specs.Races.{races_seen}
use Rattle.vp_world.proofs.shown_races.seen_races.Given as goal

-- the races so far, and those of the remaining findings
abbrev pub invariant-loop-finding : goal.invariant-loop-finding
invariant-loop-finding l =
    races_seen l.design.tree (member_at l.policy.members l.user.0) l.book
    ≡ l.races.items ++ races_seen l.design.tree (member_at l.policy.members l.user.0) (drop l.finding-index l.book)

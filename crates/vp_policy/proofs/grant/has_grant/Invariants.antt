use Rattle.std.proofs.Common.{◌≡◌, drop, map}
use Rattle.vp_policy.specs.Members.{grant_shown}
use Rattle.vp_policy.specs.Users.{has_grant}
use Rattle.vp_policy.proofs.grant.has_grant.Given as goal

abbrev pub invariant-loop-grant : goal.invariant-loop-grant
invariant-loop-grant l =
    has_grant (map grant_shown (drop l.grant-index l.grants)) l.envelope ≡ has_grant (map grant_shown l.grants) l.envelope

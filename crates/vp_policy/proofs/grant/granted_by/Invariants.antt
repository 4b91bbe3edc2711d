use Rattle.std.proofs.Common.{◌≡◌, drop, map}
use Rattle.vp_pragma.specs.Rights.{either, set_of}
use Rattle.vp_policy.specs.Members.{grant_shown}
use Rattle.vp_policy.specs.Users.{granted_by}
use Rattle.vp_policy.proofs.grant.granted_by.Given as goal

-- the rights so far, and what the other grants give
abbrev pub invariant-loop-grant : goal.invariant-loop-grant
invariant-loop-grant l =
    either (set_of l.rights) (granted_by (map grant_shown (drop l.grant-index l.grants)) l.envelope)
    ≡ granted_by (map grant_shown l.grants) l.envelope

use Rattle.std.proofs.Common.{◌≡◌, ◌==◌, filter, map, take}
use Rattle.std.specs.Prelude.{not}
use Rattle.vp_policy.specs.Members.{grant_shown}
use Rattle.vp_policy.proofs.regrant.with_grant.Given as goal

-- the other grants so far
abbrev pub invariant-loop-grant : goal.invariant-loop-grant
invariant-loop-grant l =
    map grant_shown l.changed.items ≡ filter (λ g. not (g.envelope == l.envelope)) (map grant_shown (take l.grant-index l.grants))

use Rattle.std.proofs.Common.{◌≡◌, drop, map}
use Rattle.vp_policy.specs.Members.{grant_shown}
use Rattle.vp_policy.specs.Users.{all_name_author}
use Rattle.vp_policy.proofs.grant.all_name_author.Given as goal

abbrev pub invariant-loop-grant : goal.invariant-loop-grant
invariant-loop-grant l =
    all_name_author (map grant_shown (drop l.grant-index l.grants)) l.envelope ≡ all_name_author (map grant_shown l.grants) l.envelope

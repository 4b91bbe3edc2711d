use Rattle.std.proofs.Common.{◌≡◌, map, take}
use Rattle.vp_policy.specs.SeenObjects.{envelope_shown}
use Rattle.vp_policy.specs.Users.{member_at}
use Rattle.vp_policy.specs.View.{seen_envelopes}
use Rattle.vp_policy.proofs.policy.Policy.seen_envelopes.Given as goal

-- the envelopes so far
abbrev pub invariant-loop-before : goal.invariant-loop-before
invariant-loop-before l = map envelope_shown l.envelopes.items ≡ seen_envelopes (member_at l.self.members l.user.0) 1 (take l.before l.design.tree.authors)

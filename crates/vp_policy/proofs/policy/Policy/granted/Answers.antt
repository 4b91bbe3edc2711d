use Rattle.std.proofs.Common.{◌∙◌, ◌<◌, ap, arith, map}
use Rattle.vp_policy.specs.Members.{member_of}
use Rattle.vp_policy.specs.PolicyState.{PolicyState}
use Rattle.vp_policy.specs.Users.{granted, member_at}
use Rattle.vp_policy.proofs.RightsRows.{tables_there}
use Rattle.vp_policy.proofs.policy.Policy.granted.Goals as goal

pub returns : goal.returns
returns c =
    let s = c.self.inside in
    let his = tables_there s.design.value.tree (map member_of s.users.entries) s.tables c.args.user.0 c.tables_of_user.result.now c.self.invariant c.tables_of_user.ensures in
    let small : c.args.envelope < 256 = omega arith in
    his.granted c.args.envelope (record { 0 = 0 }) small
    ∙ ap (λ (p : PolicyState). granted (member_at p.members c.args.user.0) c.args.envelope) c.self.view_is

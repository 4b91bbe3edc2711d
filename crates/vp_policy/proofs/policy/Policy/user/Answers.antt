use Rattle.std.proofs.Common.{◌∙◌, ap}
use Rattle.vp_policy.specs.PolicyState.{PolicyState}
use Rattle.vp_policy.proofs.MemberLaws.{user_found}
use Rattle.vp_policy.proofs.policy.Policy.user.Goals as goal

pub returns-in_err-number : goal.returns-in_err-number
returns-in_err-number c =
    rw c.from_residual.ensures
    ((c.in_err-number.ensures {u = tt}).index ∙ user_found c.args.self.now.members c.self.inside.users.entries (ap (λ (p : PolicyState). p.members) c.self.view_is) c.args.name.now)

pub returns : goal.returns
returns c =
    (c.in_ok-number.ensures {u = tt}).index ∙ user_found c.args.self.now.members c.self.inside.users.entries (ap (λ (p : PolicyState). p.members) c.self.view_is) c.args.name.now

use Rattle.std.proofs.Common.{◌∙◌, ℕ, List, ap, sym, true, false}
use Rattle.std.specs.Str.{bytes_eq}
use Rattle.vp_policy.specs.PolicyState.{PolicyState}
use Rattle.vp_policy.proofs.MemberLaws.{login_found, login_none}
use Rattle.vp_policy.proofs.policy.Policy.login.Goals as goal

pub returns-in_default : goal.returns-in_default
returns-in_default c =
    let none = (c.in_default.ensures {u = tt}).index in
    login_none c.args.self.now.members c.self.inside.users.entries (ap (λ (p : PolicyState). p.members) c.self.view_is) c.args.name.now c.args.token.now none

pub returns-then-same_bytes : goal.returns-then-same_bytes
returns-then-same_bytes c =
    let found = c.in-Some.ensures {u = tt} in
    login_found c.args.self.now.members c.self.inside.users.entries (ap (λ (p : PolicyState). p.members) c.self.view_is) c.args.name.now c.args.token.now c.in-Some.number
    (c.in-Some.field-0-1.now, c.in-Some.user.now) true found.index found.entry
    (ap (λ (t : List ℕ). bytes_eq t c.in-Some.user.now.token) (sym c.as_bytes.ensures.value)
    ∙ ap (bytes_eq c.as_bytes.result.now) (sym (c.as_bytes-2.ensures.value ∙ c.as_str.ensures)) ∙ sym c.same_bytes.ensures ∙ c.if-same_bytes.true)

pub returns-else-same_bytes : goal.returns-else-same_bytes
returns-else-same_bytes c =
    let found = c.in-Some.ensures {u = tt} in
    login_found c.args.self.now.members c.self.inside.users.entries (ap (λ (p : PolicyState). p.members) c.self.view_is) c.args.name.now c.args.token.now c.in-Some.number
    (c.in-Some.field-0-1.now, c.in-Some.user.now) false found.index found.entry
    (ap (λ (t : List ℕ). bytes_eq t c.in-Some.user.now.token) (sym c.as_bytes.ensures.value)
    ∙ ap (bytes_eq c.as_bytes.result.now) (sym (c.as_bytes-2.ensures.value ∙ c.as_str.ensures)) ∙ sym c.same_bytes.ensures ∙ c.if-same_bytes.false)

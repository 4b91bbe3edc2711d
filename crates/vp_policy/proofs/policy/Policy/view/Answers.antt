use Rattle.std.proofs.Common.{◌≡◌, ◌∙◌, Bool, List, IfOk, ap, subst, sym}
use Rattle.vp_elab.specs.Built.{Elaborated}
use Rattle.vp_policy.specs.Users.{Member, member_at}
use Rattle.vp_policy.specs.View.{HoldScopes, View, known_view}
use Rattle.vp_policy.proofs.Views.{listed_scopes, listed_view}
use Rattle.vp_policy.proofs.policy.Policy.view.Goals as goal

pub known_view-requires-clause-scopes : goal.known_view-requires-clause-scopes
known_view-requires-clause-scopes c =
    let design : Elaborated = c.args.design.now in
    let user : Member = member_at c.args.self.now.members c.args.user.0 in
    let marks = c.deref.ensures.value ∙ (c.in_ok-listed.ensures {u = tt}).marks in
    subst (λ (ms : List Bool). HoldScopes design.tree.nodes ms) (sym marks) (listed_scopes design.tree user)

pub returns-clause-view : goal.returns-clause-view
returns-clause-view c =
    let design : Elaborated = c.args.design.now in
    let user : Member = member_at c.args.self.now.members c.args.user.0 in
    let marks = c.deref.ensures.value ∙ (c.in_ok-listed.ensures {u = tt}).marks in
    subst (λ (v : View). IfOk c.known_view.result (λ x. x ≡ v)) (ap (known_view design user) marks ∙ listed_view design user) c.known_view.ensures.view

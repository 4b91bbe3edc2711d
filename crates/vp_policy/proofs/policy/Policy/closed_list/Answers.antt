use Rattle.std.proofs.Common.{◌≡◌, ◌∙◌, ap, filter, map, slice_get, sym, List, ℕ, Option, Some}
use Rattle.std.specs.Prelude.{option_map}
use Rattle.std.proofs.lemmas.Option.{same_Some, slice_get_within}
use Rattle.vp_elab.specs.declared.object.ObjectId.{ObjectId}
use Rattle.vp_elab.specs.Tree.{declared_envelopes}
use Rattle.vp_policy.specs.Filter.{closed_in, is_closed}
use Rattle.vp_policy.specs.Members.{member_of}
use Rattle.vp_policy.specs.PolicyState.{PolicyState}
use Rattle.vp_policy.specs.Users.{Member, member_at}
use Rattle.vp_policy.proofs.Closed.{closed_found}
use Rattle.vp_policy.proofs.RightsRows.{tables_there}
use Rattle.vp_policy.proofs.policy.Policy.closed_list.Goals as goal

pub list_at-requires : goal.list_at-requires
list_at-requires c =
    let s = c.self.inside in
    let user : Member = member_at (map member_of s.users.entries) c.args.user.0 in
    let scope : Option ℕ = option_map (λ (o : ObjectId). o.0) c.args.scope in
    let list : List ℕ = declared_envelopes s.design.value.tree scope in
    let his = tables_there s.design.value.tree (map member_of s.users.entries) s.tables c.args.user.0 c.tables_of_user.result.now c.self.invariant c.tables_of_user.ensures in
    let found : slice_get c.as_slice.result.now c.in-Some.number ≡ Some (filter (is_closed user) list) =
    closed_found user s.tables.scopes.lists c.as_slice.result.now c.in-Some.number list (c.as_slice.ensures ∙ his.closed)
    (c.in-Some.ensures {u = tt} s.design.value.tree c.self.invariant.scopes) in
    slice_get_within c.as_slice.result.now c.in-Some.number (filter (is_closed user) list) found

pub returns : goal.returns
returns c =
    let s = c.self.inside in
    let user : Member = member_at (map member_of s.users.entries) c.args.user.0 in
    let scope : Option ℕ = option_map (λ (o : ObjectId). o.0) c.args.scope in
    let list : List ℕ = declared_envelopes s.design.value.tree scope in
    let his = tables_there s.design.value.tree (map member_of s.users.entries) s.tables c.args.user.0 c.tables_of_user.result.now c.self.invariant c.tables_of_user.ensures in
    let found : slice_get c.as_slice.result.now c.in-Some.number ≡ Some (filter (is_closed user) list) =
    closed_found user s.tables.scopes.lists c.as_slice.result.now c.in-Some.number list (c.as_slice.ensures ∙ his.closed)
    (c.in-Some.ensures {u = tt} s.design.value.tree c.self.invariant.scopes) in
    same_Some c.list_at.result.now (filter (is_closed user) list) (sym c.list_at.ensures ∙ found)
    ∙ ap (λ (p : PolicyState). closed_in p.tree (member_at p.members c.args.user.0) scope) c.self.view_is

pub returns-in_default : goal.returns-in_default
returns-in_default c =
    let s = c.self.inside in
    let user : Member = member_at (map member_of s.users.entries) c.args.user.0 in
    let scope : Option ℕ = option_map (λ (o : ObjectId). o.0) c.args.scope in
    sym (ap (filter (is_closed user)) (c.in_default.ensures {u = tt} s.design.value.tree c.self.invariant.scopes))
    ∙ ap (λ (p : PolicyState). closed_in p.tree (member_at p.members c.args.user.0) scope) c.self.view_is

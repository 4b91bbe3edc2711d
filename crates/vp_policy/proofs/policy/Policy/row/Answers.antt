use Rattle.std.proofs.Common.{◌≡◌, ◌∙◌, ℕ, ap, false, length, map, subst}
use Rattle.std.specs.Prelude.{is_some, not, slice_get}
use Rattle.std.specs.Option.{option_map_or}
use Rattle.vp_pragma.specs.declared.rights.Right.{Right}
use Rattle.vp_pragma.specs.declared.rights.Rights.{Rights}
use Rattle.vp_pragma.specs.Rights.{has, nothing, set_of}
use Rattle.vp_elab.specs.Tree.{Tree}
use Rattle.vp_policy.specs.Filter.{denial_at, rights_at}
use Rattle.vp_policy.specs.Members.{member_of}
use Rattle.vp_policy.specs.PolicyState.{PolicyState}
use Rattle.vp_policy.specs.RightsTables.{rights_on}
use Rattle.vp_policy.specs.Users.{Member, member_at}
use Rattle.vp_policy.proofs.RightsRows.{row_denied, row_each, row_long, tables_there}
use Rattle.vp_policy.proofs.policy.Policy.row.Goals as goal

pub returns-clause-count : goal.returns-clause-count
returns-clause-count c =
    let s = c.self.inside in
    let tree : Tree = s.design.value.tree in
    let user : Member = member_at (map member_of s.users.entries) c.args.user.0 in
    let his = tables_there tree (map member_of s.users.entries) s.tables c.args.user.0 c.tables_of_user.result.now c.self.invariant c.tables_of_user.ensures in
    let are : map set_of c.as_slice.result.now ≡ rights_on tree user tree.nodes = ap (map set_of) c.as_slice.ensures ∙ his.rights in
    row_long tree user c.as_slice.result.now are ∙ ap (λ (p : PolicyState). length p.tree.nodes) c.self.view_is

pub returns-clause-each : goal.returns-clause-each
returns-clause-each c =
    let s = c.self.inside in
    let tree : Tree = s.design.value.tree in
    let user : Member = member_at (map member_of s.users.entries) c.args.user.0 in
    let his = tables_there tree (map member_of s.users.entries) s.tables c.args.user.0 c.tables_of_user.result.now c.self.invariant c.tables_of_user.ensures in
    let are : map set_of c.as_slice.result.now ≡ rights_on tree user tree.nodes = ap (map set_of) c.as_slice.ensures ∙ his.rights in
    subst (λ (p : PolicyState). (o : ℕ) → option_map_or set_of (slice_get c.as_slice.result.now o) nothing ≡ rights_at p.tree (member_at p.members c.args.user.0) o) c.self.view_is
    (row_each tree user c.as_slice.result.now are)

pub returns-clause-denied : goal.returns-clause-denied
returns-clause-denied c =
    let s = c.self.inside in
    let tree : Tree = s.design.value.tree in
    let user : Member = member_at (map member_of s.users.entries) c.args.user.0 in
    let his = tables_there tree (map member_of s.users.entries) s.tables c.args.user.0 c.tables_of_user.result.now c.self.invariant c.tables_of_user.ensures in
    let are : map set_of c.as_slice.result.now ≡ rights_on tree user tree.nodes = ap (map set_of) c.as_slice.ensures ∙ his.rights in
    subst
    (λ (p : PolicyState). (r : Right) (o : ℕ) → option_map_or (λ (his : Rights). not (has r (set_of his))) (slice_get c.as_slice.result.now o) false ≡ is_some (denial_at p.tree (member_at p.members c.args.user.0) r o))
    c.self.view_is (row_denied tree user c.as_slice.result.now are)

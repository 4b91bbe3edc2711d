use Rattle.std.proofs.Common.{◌≡◌, ◌∙◌, ◌<◌, ℕ, List, ap, length, map, refl, slice_set, subst, sym}
use Rattle.vp_pragma.specs.Rights.{RightSet, set_of}
use Rattle.vp_elab.specs.Tree.{Tree}
use Rattle.vp_policy.specs.declared.policy.User.{User}
use Rattle.vp_policy.specs.declared.rights_tables.RightsTables.{RightsTables}
use Rattle.vp_policy.specs.Members.{member_of}
use Rattle.vp_policy.specs.PolicyState.{PolicyState}
use Rattle.vp_policy.specs.Regrants.{regranted, regranted_user}
use Rattle.vp_policy.specs.RightsTables.{AreGranted, AreTables, AreTablesOf}
use Rattle.vp_policy.specs.Users.{Member, member_at}
use Rattle.vp_policy.proofs.Regrants.{members_set, user_at}
use Rattle.vp_policy.proofs.RightsRows.{tables_set}
use Rattle.vp_policy.proofs.policy.Policy.regrant.Goals as goal

pub invariant_of-self : goal.invariant_of-self
invariant_of-self c =
    let s = c.self.inside in
    let es = s.users.entries in
    let members : List Member = map member_of es in
    let n : ℕ = c.args.user.0 in
    let envelope : ℕ = c.args.envelope in
    let access : RightSet = set_of c.args.access in
    let old : User = c.index.result.now in
    let changed : User = c.in_ok-changed.changed in
    let at = c.index.ensures in
    let is = c.in_ok-changed.ensures {u = tt} in
    let u : Member = regranted_user envelope access (member_at members n) in
    let members_is : map member_of c.set_user.new.users.entries ≡ slice_set members n u =
    ap (map member_of) c.set_user.ensures ∙ members_set es n old changed envelope access at is in
    let tree : Tree = s.design.value.tree in
    let tables : RightsTables = s.tables in
    let after : RightsTables = record { users = c.set_tables.new.tables; scopes = s.tables.scopes } in
    let his = c.in_ok-tables.tables in
    let named = user_at es n old at in
    let granted : AreGranted u c.granted_row.result =
    subst (λ (m : Member). AreGranted m c.granted_row.result) (is named.0 ∙ ap (regranted_user envelope access) (sym named.1)) (c.granted_row.ensures named.0) in
    let fits : c.args.design.now.tree ≡ tree = sym (ap (λ (p : PolicyState). p.tree) c.self.view_is ∙ c.requires.fits) in
    let own : AreTablesOf tree tables.scopes.lists u his =
    subst (λ (t : Tree). AreTablesOf t tables.scopes.lists u his) fits
    (subst (λ (ls : List (List ℕ)). AreTablesOf c.args.design.now.tree ls u his) c.as_slice-lists.ensures (c.in_ok-tables.ensures {u = tt} u granted)) in
    let within : n < length members = subst (λ (p : PolicyState). n < length p.members) (sym c.self.view_is) c.requires.there in
    subst (λ (ms : List Member). AreTables tree ms after) (sym members_is)
    (tables_set tree members tables after n u his within c.self.invariant own c.set_tables.ensures refl)

pub returns-clause-granted : goal.returns-clause-granted
returns-clause-granted c =
    let s = c.self.inside in
    let es = s.users.entries in
    let members : List Member = map member_of es in
    let n : ℕ = c.args.user.0 in
    let envelope : ℕ = c.args.envelope in
    let access : RightSet = set_of c.args.access in
    let old : User = c.index.result.now in
    let changed : User = c.in_ok-changed.changed in
    let at = c.index.ensures in
    let is = c.in_ok-changed.ensures {u = tt} in
    let u : Member = regranted_user envelope access (member_at members n) in
    let members_is : map member_of c.set_user.new.users.entries ≡ slice_set members n u =
    ap (map member_of) c.set_user.ensures ∙ members_set es n old changed envelope access at is in
    ap (λ (ms : List Member). (let p : PolicyState = record { tree = s.design.value.tree; members = ms; operator = s.operator } in p)) members_is
    ∙ ap (λ (p : PolicyState). regranted p n envelope access) c.self.view_is

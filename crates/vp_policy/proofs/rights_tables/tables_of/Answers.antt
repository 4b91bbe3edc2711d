use Rattle.std.proofs.Common.{◌∙◌, ◌+◌, ℕ, List, ap, length, map, slice_get, subst, sym}
use Rattle.std.proofs.lemmas.List.{length_push}
use Rattle.vp_policy.specs.declared.rights_tables.UserTables.{UserTables}
use Rattle.vp_policy.specs.Members.{member_of}
use Rattle.vp_policy.specs.RightsTables.{AreTablesOf}
use Rattle.vp_policy.specs.Users.{Member, member_at}
use Rattle.vp_policy.proofs.RightsRows.{users_more}
use Rattle.vp_policy.proofs.rights_tables.tables_of.Goals as goal

pub loop-number-preserved : goal.loop-number-preserved
loop-number-preserved c =
    let tree = c.args.design.now.tree in
    let lists : List (List ℕ) = c.in_ok-scopes.scopes.lists in
    let members : List Member = map member_of c.args.users.now.entries in
    let n : ℕ = c.loop-number.number in
    let tables : List UserTables = c.loop-number.tables.items in
    let his : UserTables = c.in_ok-user_tables.field-0 in
    let before = c.loop-number.invariant in
    let pushed = (c.in_ok-push.ensures {u = tt}).items in
    let own : AreTablesOf tree lists (member_at members n) his =
    subst (λ (ls : List (List ℕ)). AreTablesOf tree ls (member_at members n) his) c.as_slice.ensures
    (c.in_ok-user_tables.ensures {u = tt} (member_at members n) c.granted_to-granted.ensures) in
    record {
      count = ap (λ (xs : List UserTables). length xs) pushed ∙ length_push tables his ∙ ap (λ (k : ℕ). k + 1) before.count;
      each = λ k x there. users_more tree lists members tables n his before.count before.each own k x (ap (λ (xs : List UserTables). slice_get xs k) (sym pushed) ∙ there);
    }

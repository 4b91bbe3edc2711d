use Rattle.std.proofs.Common.{◌≤◌, length, map, refl, subst, sym, arith, inl, inr, true≢false}
use Rattle.std.proofs.lemmas.Bool.{cases_lt}
use Rattle.std.proofs.lemmas.List.{length-map}
use Rattle.vp_policy.specs.Members.{member_of}
use Rattle.vp_policy.specs.RightsTables.{AreGranted}
use Rattle.vp_policy.specs.Users.{Member}
use Rattle.vp_policy.proofs.MemberLaws.{member_there}
use Rattle.vp_policy.proofs.RightsRows.{none_granted}
use Rattle.vp_policy.proofs.rights_tables.granted_to.Goals as goal

pub returns-in-Some : goal.returns-in-Some
returns-in-Some c =
    let es = c.args.users.now.entries in
    let entry = (c.in-Some.ensures {u = tt}).entry in
    subst (λ (u : Member). AreGranted u c.granted_row.result)
    (sym (member_there (map member_of es) es refl c.args.number (c.in-Some.field-0-0.now, c.in-Some.user.now) (sym entry)))
    (c.granted_row.ensures c.in-Some.field-0-0.now)

pub returns-in-None : goal.returns-in-None
returns-in-None c =
    let es = c.args.users.now.entries in
    let long = length-map es member_of in
    let following : length (map member_of es) ≤ c.args.number = elim (cases_lt c.args.number (length es)) [
      | inl h ↦ absurd (true≢false (sym ((c.in-None.ensures {u = tt}).found.1 h)))
      | inr h ↦ omega arith
    ] in
    none_granted (map member_of es) c.args.number c.none.result following c.none.ensures

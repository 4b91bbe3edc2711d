use Rattle.std.proofs.Common.{◌≡◌, ◌∙◌, ℕ, List, ap}
use Rattle.std.specs.Prelude.{String}
use Rattle.std.specs.declared.alloc.Global.{Global}
use Rattle.indexmap.proofs.CallerLemmas.{insert_entry-new}
use Rattle.vp_policy.specs.declared.policy.User.{User}
use Rattle.vp_policy.specs.Members.{member_of}
use Rattle.vp_policy.specs.Users.{Member}
use Rattle.vp_policy.proofs.Copies.{copied_more, name_is_new}
use Rattle.vp_policy.proofs.copying.copied_users.Goals as goal

pub loop-name-preserved-in_ok-insert : goal.loop-name-preserved-in_ok-insert
loop-name-preserved-in_ok-insert c =
    let es = c.loop-name.copies.entries in
    let before = c.loop-name.invariant in
    let name = c.in_ok-from_str.field-0 in
    let user = c.in_ok-copy.copy in
    let e : String Global × User = (c.in-Some.name.now, c.in-Some.user.now) in
    let same : member_of (name, user) ≡ member_of e =
    ap (λ (u : User). member_of (name, u)) (c.in_ok-copy.ensures {u = tt})
    ∙ ap (λ (text : List ℕ). (let m : Member = record (member_of e) { name = text } in m)) ((c.in_ok-from_str.ensures {u = tt}).ok ∙ c.as_str.ensures.value) in
    let next = (c.in-Some.ensures {u = tt}).steps in
    let new = name_is_new c.args.users.now.entries before.0 es c.loop-name.name-iterator c.next.new.self e (name, user) c.into_iter-name-iterator.ensures.into_iter_gives.4 before.1 next before.2 same in
    copied_more c.args.users.now.entries before.0 es c.insert.new.self.entries c.loop-name.name-iterator c.next.new.self e (name, user) before.1 next before.2 same
    ((c.in_ok-insert.ensures {u = tt}).entries ∙ insert_entry-new _ c.loop-name.copies name user new)

pub loop-name-preserved : goal.loop-name-preserved
loop-name-preserved c =
    let es = c.loop-name.copies.entries in
    let before = c.loop-name.invariant in
    let name = c.in_ok-from_str.field-0 in
    let user = c.in_ok-copy.copy in
    let e : String Global × User = (c.in-Some.name.now, c.in-Some.user.now) in
    let same : member_of (name, user) ≡ member_of e =
    ap (λ (u : User). member_of (name, u)) (c.in_ok-copy.ensures {u = tt})
    ∙ ap (λ (text : List ℕ). (let m : Member = record (member_of e) { name = text } in m)) ((c.in_ok-from_str.ensures {u = tt}).ok ∙ c.as_str.ensures.value) in
    let next = (c.in-Some.ensures {u = tt}).steps in
    let new = name_is_new c.args.users.now.entries before.0 es c.loop-name.name-iterator c.next.new.self e (name, user) c.into_iter-name-iterator.ensures.into_iter_gives.4 before.1 next before.2 same in
    copied_more c.args.users.now.entries before.0 es c.insert.new.self.entries c.loop-name.name-iterator c.next.new.self e (name, user) before.1 next before.2 same
    ((c.in_ok-insert.ensures {u = tt}).entries ∙ insert_entry-new _ c.loop-name.copies name user new)

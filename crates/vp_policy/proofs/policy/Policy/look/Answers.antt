use Rattle.std.proofs.Common.{rules, ◌≡◌, ◌∙◌, ap, Option, List, ℕ}
use Rattle.std.specs.Prelude.{option_map}
use Rattle.vp_text.specs.Texts.{part_and_rest, parts}
use Rattle.vp_elab.specs.declared.object.ObjectId.{ObjectId}
use Rattle.vp_policy.specs.declared.denial.Look.TheVariants as look
use Rattle.vp_policy.specs.Filter.{look_in}
use Rattle.vp_policy.specs.Users.{Member, member_at}
use Rattle.vp_policy.proofs.Laws.{looks_alike}
use Rattle.vp_policy.proofs.Walks.{look_next}
use Rattle.vp_policy.proofs.policy.Policy.look.Goals as goal

pub loop-object-preserved : goal.loop-object-preserved
loop-object-preserved c =
    let tree = c.args.design.now.tree in
    let user : Member = member_at c.args.self.now.members c.args.user.0 in
    let scope : Option ℕ = option_map (λ (o : ObjectId). o.0) c.loop-object.scope in
    let part : List ℕ = c.first_part.result.0.now in
    record {
      text = search rules;
      left =
          look_next tree user scope c.loop-object.rest.now part c.in-Some-following.further.now c.in-Some.object.0
          (c.first_part.ensures.parts ∙ ap (λ o. part_and_rest 46 part (option_map (λ r. r.now) o)) c.in-Some-following.is) (c.in-Some.ensures {u = tt})
          ∙ c.loop-object.invariant.left;
    }

pub returns-in_default-clause-alike : goal.returns-in_default-clause-alike
returns-in_default-clause-alike c =
    let user : Member = member_at c.args.self.now.members c.args.user.0 in
    let scope : Option ℕ = option_map (λ (o : ObjectId). o.0) c.args.scope in
    let is : c.unlisted.result ≡ look_in c.args.design.now.tree user scope (parts 46 c.args.name.now) = search rules in
    looks_alike c.args.design.now.tree user scope (parts 46 c.args.name.now) c.unlisted.result is

pub returns-in-None-clause-alike : goal.returns-in-None-clause-alike
returns-in-None-clause-alike c =
    let user : Member = member_at c.args.self.now.members c.args.user.0 in
    let scope : Option ℕ = option_map (λ (o : ObjectId). o.0) c.args.scope in
    let is : look.Found c.in-Some.object ≡ look_in c.args.design.now.tree user scope (parts 46 c.args.name.now) = search rules in
    looks_alike c.args.design.now.tree user scope (parts 46 c.args.name.now) (look.Found c.in-Some.object) is

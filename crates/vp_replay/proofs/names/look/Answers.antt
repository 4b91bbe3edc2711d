use Rattle.std.proofs.Common.{rules, ◌≡◌, ◌∙◌, IfOk, ap, subst}
use Rattle.std.specs.Prelude.{IsTrue, OnErr, option_map}
use Rattle.vp_text.specs.Texts.{part_and_rest}
use Rattle.vp_vpi.specs.Lookups.{found_shown, is_denial}
use Rattle.vp_vpi.specs.Observers.{Lookup}
use Rattle.vp_replay.proofs.Walks.{walk_end, walk_next, walk_unlisted}
use Rattle.vp_replay.proofs.names.look.Goals as goal

pub returns-in_default-clause-found : goal.returns-in_default-clause-found
returns-in_default-clause-found c =
    let part = c.first_part.result.0.now in
    let following = option_map (λ r. r.now) c.first_part.result.1 in
    let same = walk_unlisted c.args.view.now c.loop-number.scope c.loop-number.rest.now part following c.first_part.ensures.parts (c.in_default.ensures {u = tt}) ∙ c.loop-number.invariant.left in
    subst (λ (x : Lookup). IfOk c.unlisted.result (λ found. found_shown found ≡ x)) same c.unlisted.ensures.found

pub returns-in_default-clause-denial : goal.returns-in_default-clause-denial
returns-in_default-clause-denial c =
    let part = c.first_part.result.0.now in
    let following = option_map (λ r. r.now) c.first_part.result.1 in
    let same = walk_unlisted c.args.view.now c.loop-number.scope c.loop-number.rest.now part following c.first_part.ensures.parts (c.in_default.ensures {u = tt}) ∙ c.loop-number.invariant.left in
    subst (λ (x : Lookup). OnErr c.unlisted.result (IsTrue (is_denial x))) same c.unlisted.ensures.denial

pub returns-in-None-clause-found : goal.returns-in-None-clause-found
returns-in-None-clause-found c =
    let part = c.first_part.result.0.now in
    walk_end c.args.view.now c.loop-number.scope c.loop-number.rest.now part c.in-Some.number
    (c.first_part.ensures.parts ∙ ap (λ o. part_and_rest 46 part (option_map (λ r. r.now) o)) c.in-None.is) (c.in-Some.ensures {u = tt})
    ∙ c.loop-number.invariant.left

pub loop-number-preserved : goal.loop-number-preserved
loop-number-preserved c =
    let part = c.first_part.result.0.now in
    record {
      text = search rules;
      left =
          walk_next c.args.view.now c.loop-number.scope c.loop-number.rest.now part c.in-Some-following.further.now c.in-Some.number
          (c.first_part.ensures.parts ∙ ap (λ o. part_and_rest 46 part (option_map (λ r. r.now) o)) c.in-Some-following.is) (c.in-Some.ensures {u = tt})
          ∙ c.loop-number.invariant.left;
    }

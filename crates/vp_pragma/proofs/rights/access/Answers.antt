use Rattle.std.proofs.Common.{rules, ◌∙◌, ap}
use Rattle.std.specs.Prelude.{option_map}
use Rattle.vp_text.specs.Texts.{part_and_rest}
use Rattle.vp_pragma.proofs.RightBits.{access_last, access_next}
use Rattle.vp_pragma.specs.Rights.{either, set_of}
use Rattle.vp_pragma.proofs.rights.access.Goals as goal

pub loop-rights-preserved : goal.loop-rights-preserved
loop-rights-preserved c =
    let text = c.first_part.ensures.text in
    record {
      text = search rules;
      left =
          access_next (set_of c.loop-rights.rights) (set_of c.either-rights.result) c.loop-rights.rest.now c.first_part.result.0.now c.in-Some.further.now c.in_ok-right_named.field-0
          (c.first_part.ensures.parts ∙ ap (λ o. part_and_rest 43 c.first_part.result.0.now (option_map (λ r. r.now) o)) c.in-Some.is)
          (c.in_ok-right_named.ensures {u = tt})
          (c.either-rights.ensures ∙ ap (either (set_of c.loop-rights.rights)) c.from.ensures)
          ∙ c.loop-rights.invariant.left;
    }

pub returns-in-None : goal.returns-in-None
returns-in-None c =
    access_last (set_of c.loop-rights.rights) (set_of c.either-rights.result) (set_of c.either.result) c.loop-rights.rest.now c.first_part.result.0.now c.in_ok-right_named.field-0
    (c.first_part.ensures.parts ∙ ap (λ o. part_and_rest 43 c.first_part.result.0.now (option_map (λ r. r.now) o)) c.in-None.is)
    (c.in_ok-right_named.ensures {u = tt})
    (c.either-rights.ensures ∙ ap (either (set_of c.loop-rights.rights)) c.from.ensures) c.either.ensures
    ∙ c.loop-rights.invariant.left

use Rattle.std.proofs.Common.{◌≤◌, length, arith, subst, sym}
use Rattle.vp_design.specs.Designs.{IsRefusedBy, text_limit}
use Rattle.vp_design.proofs.Results.{told_as}
use Rattle.vp_design.proofs.Stages.{expressions_refused, has_design, has_source}
use Rattle.vp_design.proofs.reading.read_design.Goals as goal

pub returns-in_err-tokens-clause-refused : goal.returns-in_err-tokens-clause-refused
returns-in_err-tokens-clause-refused c =
    let fits : length c.args.text.now ≤ text_limit = omega arith in
    told_as _ (IsRefusedBy c.args.text.now) c.from_residual.result c.from_residual.ensures.1
    (λ fault told. subst (IsRefusedBy c.args.text.now) (sym told) (fits, (c.in_err-tokens.ensures {u = tt}).fault))

pub returns-in_err-check-clause-refused : goal.returns-in_err-check-clause-refused
returns-in_err-check-clause-refused c =
    let text = c.args.text.now in
    let fits : length text ≤ text_limit = omega arith in
    let parsed =
    has_source text c.in_ok-tokens.tokens.items fits (c.in_ok-tokens.ensures {u = tt}).ok c.deref.result.now c.in_ok-envelopes.envelopes c.deref.ensures.value (c.in_ok-envelopes.ensures {u = tt}).ok
    c.deref-2.result.now c.in_ok-source.source c.deref-2.ensures.value (c.in_ok-source.ensures {u = tt}).found in
    let elaborated = c.in_ok-design.ensures {u = tt} in
    told_as _ (IsRefusedBy text) c.from_residual-in_err-check.result c.from_residual-in_err-check.ensures.1
    (λ fault told. subst (IsRefusedBy text) (sym told)
    (expressions_refused text c.in_ok-source.source c.in_ok-envelopes.envelopes c.in_ok-design.design c.in_err-check.field-0.0 parsed elaborated.accepted elaborated.design (c.in_err-check.ensures {u = tt}).refused))

pub returns-clause-design : goal.returns-clause-design
returns-clause-design c =
    let text = c.args.text.now in
    let fits : length text ≤ text_limit = omega arith in
    let parsed =
    has_source text c.in_ok-tokens.tokens.items fits (c.in_ok-tokens.ensures {u = tt}).ok c.deref.result.now c.in_ok-envelopes.envelopes c.deref.ensures.value (c.in_ok-envelopes.ensures {u = tt}).ok
    c.deref-2.result.now c.in_ok-source.source c.deref-2.ensures.value (c.in_ok-source.ensures {u = tt}).found in
    let elaborated = c.in_ok-design.ensures {u = tt} in
    let checked = c.in_ok-check.ensures {u = tt} in
    has_design text c.in_ok-source.source c.in_ok-envelopes.envelopes c.in_ok-design.design c.in_ok-check.field-0 parsed elaborated.accepted elaborated.design checked.design checked.accepted

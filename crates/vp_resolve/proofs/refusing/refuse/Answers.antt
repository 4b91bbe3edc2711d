use Rattle.std.proofs.Common.{◌∙◌, ap}
use Rattle.vp_source.specs.declared.source.Source.{Source}
use Rattle.vp_source.specs.Places.{line_at}
use Rattle.vp_resolve.proofs.Fits.{accepted_fits}
use Rattle.vp_resolve.proofs.Refused.{bad_refused, none_refused, signed_refused}
use Rattle.vp_resolve.proofs.refusing.refuse.Goals as goal

pub returns-in-Some-2-clause-refused : goal.returns-in-Some-2-clause-refused
returns-in-Some-2-clause-refused c other =
    signed_refused c.args.design.now c.in_ok-place.field-0 c.in_ok-place-2.field-0 c.in-Some-2.place c.line-line-in-Some-2.result c.in_ok-place.ensures c.in_default.is c.in_ok-place-2.ensures c.in-Some-2.is
    (c.line-line-in-Some-2.ensures ∙ ap (λ (s : Source). line_at s c.in-Some-2.place) c.source-source.ensures)

pub returns-in-Some-first_bad-clause-refused : goal.returns-in-Some-first_bad-clause-refused
returns-in-Some-first_bad-clause-refused c other =
    bad_refused c.args.design.now c.in_ok-place.field-0 c.in_ok-place-2.field-0 c.first_bad.result c.in-Some-first_bad.place c.line-line-in-Some-first_bad.result c.in_ok-place.ensures c.in_default.is c.in_ok-place-2.ensures c.in_default-2.is c.first_bad.ensures c.in-Some-first_bad.is
    (c.line-line-in-Some-first_bad.ensures ∙ ap (λ (s : Source). line_at s c.in-Some-first_bad.place) c.source-source.ensures)

pub returns-clause-accepted : goal.returns-clause-accepted
returns-clause-accepted c =
    none_refused c.args.design.now c.in_ok-place.field-0 c.in_ok-place-2.field-0 c.first_bad.result c.in_ok-place.ensures c.in_default.is c.in_ok-place-2.ensures c.in_default-2.is c.first_bad.ensures c.in_default-first_bad.is

pub returns-clause-fit : goal.returns-clause-fit
returns-clause-fit c =
    accepted_fits c.args.design.now c.is_elaborated.ensures c.source_is_whole.ensures (returns-clause-accepted c)

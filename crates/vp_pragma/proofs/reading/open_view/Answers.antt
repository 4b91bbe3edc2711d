use Rattle.std.proofs.Common.{◌∙◌, Result, sym, subst, ap, arith}
use Rattle.std.specs.Prelude.{not}
use Rattle.std.proofs.lemmas.Result.{err_from_is_err_and}
use Rattle.vp_pragma.specs.declared.error.PragmaError.{PragmaError}
use Rattle.vp_pragma.specs.EnvelopesOf.{Progress}
use Rattle.std.specs.Result.{result_err}
use Rattle.vp_text.specs.Refusals.{MayExplain}
use Rattle.vp_pragma.specs.declared.error.PragmaError.TheVariants as error
use Rattle.vp_pragma.specs.Reading.{progress_of}
use Rattle.vp_pragma.proofs.Views.{in_envelope, one_more}
use Rattle.vp_pragma.proofs.reading.open_view.Goals as goal

pub returns-in_err-read_view-clause-opened : goal.returns-in_err-read_view-clause-opened
returns-in_err-read_view-clause-opened c =
    let p = err_from_is_err_and c.from_residual.result c.from_residual.ensures.1 in
    let text = c.args.line.text.now in
    let r = progress_of c.args.reading.now in
    rw (p.1, p.2)
    (subst (λ (q : Result Progress PragmaError). MayExplain error.NoMemory (result_err q) c.in_err-read_view.field-0.0)
    (sym (in_envelope text r c.args.line.directive.line c.args.view c.in-Some.view c.args.reading.now.«open» c.in-Some.is (c.is_none.ensures ∙ ap not c.if-is_none.false)))
    (c.in_err-read_view.ensures r))

pub returns-clause-opened : goal.returns-clause-opened
returns-clause-opened c =
    let text = c.args.line.text.now in
    let r = progress_of c.args.reading.now in
    in_envelope text r c.args.line.directive.line c.args.view c.in-Some.view c.args.reading.now.«open» c.in-Some.is (c.is_none.ensures ∙ ap not c.if-is_none.false)
    ∙ one_more text c.args.line.directive.line _ c.args.reading.now c.in_ok-read_view.field-0 _ c.in-Some.view c.in_ok-read_view.ensures (omega (arith, c.args.reading.now.closed.ok.0, c.len.ensures)) c.in_ok-push.ensures.items

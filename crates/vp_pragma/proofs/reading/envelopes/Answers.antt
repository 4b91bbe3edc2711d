use Rattle.std.proofs.Common.{Result, Ok, refl, sym, ap, subst, ◌∙◌}
use Rattle.std.proofs.lemmas.Result.{MatchResult-weaker, err_from_is_err_and}
use Rattle.vp_pragma.specs.declared.error.PragmaError.{PragmaError}
use Rattle.vp_pragma.specs.EnvelopesOf.{AreEnvelopes, Progress, after_effects, at_start, envelopes_after}
use Rattle.std.specs.Result.{result_err}
use Rattle.vp_text.specs.Refusals.{MayExplain}
use Rattle.vp_pragma.specs.declared.error.PragmaError.TheVariants as error
use Rattle.vp_pragma.specs.LineReading.{effects_of_text, envelopes_read}
use Rattle.vp_pragma.proofs.Refusals.{explains_through}
use Rattle.vp_pragma.proofs.Lines.{are_read}
use Rattle.vp_pragma.proofs.reading.envelopes.Goals as goal

pub returns-in_err-read-clause-fault : goal.returns-in_err-read-clause-fault
returns-in_err-read-clause-fault c =
    let text = c.args.text.now in
    let tokens = c.args.tokens.now in
    let p = err_from_is_err_and c.from_residual.result c.from_residual.ensures.1 in
    let explained = explains_through envelopes_after (after_effects text tokens (Ok at_start) (effects_of_text text tokens)) c.in_err-read.field-0.0 (λ x. refl) (c.in_err-read.ensures {u = tt}).done in
    rw (p.1, p.2) (envelopes_read text tokens, are_read text tokens, explained)

pub returns-clause-ok : goal.returns-clause-ok
returns-clause-ok c =
    let text = c.args.text.now in
    let tokens = c.args.tokens.now in
    MatchResult-weaker c.ended.result (c.ended.ensures)
    (λ _ h. subst (AreEnvelopes text tokens) (ap envelopes_after c.in_ok-read.ensures.done ∙ h) (are_read text tokens)) (λ _ _. tt)

pub returns-clause-fault : goal.returns-clause-fault
returns-clause-fault c =
    let text = c.args.text.now in
    let tokens = c.args.tokens.now in
    MatchResult-weaker c.ended.result (c.ended.ensures) (λ _ _. tt)
    (λ e h. (envelopes_read text tokens, are_read text tokens, subst (λ (r : Result Progress PragmaError). MayExplain error.NoMemory (result_err (envelopes_after r)) e) (sym c.in_ok-read.ensures.done) h))

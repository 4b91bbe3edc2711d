use Rattle.std.proofs.Common.{arith, ◌≡◌, ◌∙◌, ◌++◌, ◌∷◌, ap, subst, sym}
use Rattle.std.specs.Prelude.{MatchOption, option_map}
use Rattle.vp_text.specs.Texts.{part_and_rest}
use Rattle.vp_wire.proofs.Progressing.{answered, failed, failures_err, gathered, matches_err, none_ok, rest_shorter}
use Rattle.vp_wire.proofs.dialogue.Dialogue.take_first.Goals as goal

pub returns-in_default-clause-progress : goal.returns-in_default-clause-progress
returns-in_default-clause-progress g c = λ first unread still_unread held p.
    let bytes = c.args.bytes.now in
    let piece = c.first_piece.result.0.now in
    gathered c.args.self.now c.push_bytes.new.self bytes piece p
    (c.first_piece.ensures.parts ∙ ap (λ o. part_and_rest 10 piece (option_map (λ r. r.now) o)) c.in_default.is)
    (subst (λ o. MatchOption o (bytes ≡ piece) (λ r. bytes ≡ piece ++ 10 ∷ r.now)) c.in_default.is c.first_piece.ensures.whole)
    c.push_bytes.ensures

pub returns-in_err-answer-clause-progress : goal.returns-in_err-answer-clause-progress
returns-in_err-answer-clause-progress g c = λ first unread still_unread held p.
    let bytes = c.args.bytes.now in
    let piece = c.first_piece.result.0.now in
    let rest = c.in-Some.rest.now in
    let parted = c.first_piece.ensures.parts ∙ ap (λ o. part_and_rest 10 piece (option_map (λ r. r.now) o)) c.in-Some.is in
    matches_err _ c.from_residual.result c.from_residual.ensures.0
    (failed c.args.self.now c.answer.new.self c.push_bytes.new.self bytes piece rest c.answer.result _ p parted c.push_bytes.ensures c.answer.ensures.reply (c.in_err-answer.was {u = tt}))

pub returns-clause-progress : goal.returns-clause-progress
returns-clause-progress g c = λ first unread still_unread held p.
    let bytes = c.args.bytes.now in
    let piece = c.first_piece.result.0.now in
    let rest = c.in-Some.rest.now in
    let parted = c.first_piece.ensures.parts ∙ ap (λ o. part_and_rest 10 piece (option_map (λ r. r.now) o)) c.in-Some.is in
    answered c.args.self.now c.answer.new.self c.push_bytes.new.self bytes piece rest c.answer.result _ p parted c.push_bytes.ensures c.answer.ensures.reply (c.in_ok-answer.was {u = tt}) c.answer.ensures.begun c.answer.ensures.lines

pub returns-in_err-answer-clause-lines : goal.returns-in_err-answer-clause-lines
returns-in_err-answer-clause-lines g c = none_ok _ c.from_residual.result c.from_residual.ensures.0

pub returns-in_err-answer-clause-shorter : goal.returns-in_err-answer-clause-shorter
returns-in_err-answer-clause-shorter g c = none_ok _ c.from_residual.result c.from_residual.ensures.0

pub returns-in_err-answer-clause-failures : goal.returns-in_err-answer-clause-failures
returns-in_err-answer-clause-failures g c =
    (c.in_err-answer.ensures {u = tt}).failures ∙ sym (failures_err c.args.writer.now.failures c.from_residual.result c.from_residual.ensures.0)

pub returns-clause-lines : goal.returns-clause-lines
returns-clause-lines g c =
    let bytes = c.args.bytes.now in
    let piece = c.first_piece.result.0.now in
    let whole = subst (λ o. MatchOption o (bytes ≡ piece) (λ r. bytes ≡ piece ++ 10 ∷ r.now)) c.in-Some.is c.first_piece.ensures.whole in
    omega (arith, rest_shorter bytes piece c.in-Some.rest.now whole, c.answer.ensures.lines)

pub returns-clause-shorter : goal.returns-clause-shorter
returns-clause-shorter g c =
    let bytes = c.args.bytes.now in
    let piece = c.first_piece.result.0.now in
    let whole = subst (λ o. MatchOption o (bytes ≡ piece) (λ r. bytes ≡ piece ++ 10 ∷ r.now)) c.in-Some.is c.first_piece.ensures.whole in
    omega (arith, rest_shorter bytes piece c.in-Some.rest.now whole)

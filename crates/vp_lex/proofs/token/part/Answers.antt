use Rattle.std.proofs.Common.{sym, ◌∙◌, subst}
use Rattle.std.specs.Prelude.{IsUtf8}
use Rattle.vp_lex.proofs.Parts.{part_there, part_no_text}
use Rattle.vp_lex.proofs.token.part.Goals as goal

pub returns-in-Ok : goal.returns-in-Ok
returns-in-Ok c =
    let there = c.in-Some.ensures.lookup.0 in
    let text = c.in-Ok.ensures.cases in
    text.0 ∙ there.2 ∙ sym (part_there c.args.bytes.now c.args.start c.args.end there.0 there.1 (subst IsUtf8 there.2 text.1))

pub returns-in-Err : goal.returns-in-Err
returns-in-Err c =
    let there = c.in-Some.ensures.lookup.0 in
    sym (part_no_text c.args.bytes.now c.args.start c.args.end (λ h. c.in-Err.ensures.cases.0 (subst IsUtf8 (sym there.2) h)))

use Rattle.std.proofs.Common.{get_or, refl, sym, ◌∙◌}
use Rattle.std.proofs.lemmas.Result.{MatchResult-weaker}
use Rattle.vp_pragma.proofs.After.{blank, stands_around}
use Rattle.vp_pragma.proofs.Turns.{line_read, line_refused}
use Rattle.vp_pragma.proofs.reading.read_token.Goals as goal

pub read_directive-requires-clause-line : goal.read_directive-requires-clause-line
read_directive-requires-clause-line c =
    stands_around c.args.tokens.now c.args.place (get_or c.args.tokens.now c.args.place blank) blank c.args.before c.args.before_next c.is_free.result c.module.result
    c.requires.place refl (sym c.begins_line.ensures ∙ c.if-not-begins_line.false) (c.requires.line blank) c.requires.before_next c.is_free.ensures c.module.ensures

pub returns-clause-done : goal.returns-clause-done
returns-clause-done c =
    let begins = sym c.begins_line.ensures ∙ c.if-not-begins_line.false in
    MatchResult-weaker c.read_directive.result c.read_directive.ensures.done
    (λ _ done.
    line_read c.args.text.now c.args.tokens.now c.args.reading.now c.read_directive.new.reading c.args.before c.args.before_next.line c.args.place
    (get_or c.args.tokens.now c.args.place blank) blank c.requires.place refl begins (c.requires.line blank) done)
    (λ e refused.
    line_refused c.args.text.now c.args.tokens.now c.args.reading.now c.args.before c.args.place
    (get_or c.args.tokens.now c.args.place blank) blank e c.requires.place refl begins refused)

use Rattle.std.proofs.Common.{get_or, refl}
use Rattle.vp_pragma.proofs.After.{blank, seen_after}
use Rattle.vp_pragma.proofs.reading.step.Goals as goal

pub returns-else-token-clause-before : goal.returns-else-token-clause-before
returns-else-token-clause-before c =
    seen_after c.args.tokens.now c.args.place (get_or c.args.tokens.now c.args.place blank) blank c.args.before.around c.after_token.result c.requires.place refl
    c.if-token.false c.requires.before.0 c.requires.before.1 c.after_token.ensures

use Rattle.std.proofs.Common.{rules}
use Rattle.vp_lex.proofs.TokenLaws.{error_of_text}
use Rattle.vp_lex.proofs.token.tokens.Goals as goal

pub returns-in-Some-clause-fault : goal.returns-in-Some-clause-fault
returns-in-Some-clause-fault c = error_of_text c.args.text.now _ (search rules)

pub returns-in-Some-fault-clause-fault : goal.returns-in-Some-fault-clause-fault
returns-in-Some-fault-clause-fault c = error_of_text c.args.text.now _ (search rules)

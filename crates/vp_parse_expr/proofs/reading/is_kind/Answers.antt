use Rattle.std.proofs.Common.{◌∙◌}
use Rattle.vp_source.proofs.SameKinds.{same_is}
use Rattle.vp_parse_expr.proofs.reading.is_kind.Goals as goal

pub returns : goal.returns
returns c = c.eq.ensures ∙ same_is c.args.expected c.args.kind

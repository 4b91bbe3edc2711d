use Rattle.std.proofs.Common.{◌∙◌, sym}
use Rattle.vp_replay.proofs.Missing.{listed_is}
use Rattle.vp_replay.proofs.path.is_listed.Goals as goal

pub returns-then-is_some : goal.returns-then-is_some
returns-then-is_some c =
    listed_is c.args.view.now c.args.number c.object_at.result c.first_missing_step.result c.object_at.ensures (sym c.is_some.ensures ∙ c.if-is_some.true) c.first_missing_step.ensures
    c.is_none.result c.is_none.ensures

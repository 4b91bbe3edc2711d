use Rattle.std.proofs.Common.{◌∙◌, sym}
use Rattle.vp_expr.specs.Tables.{tables_of}
use Rattle.vp_waking.proofs.Woken.{operands_wake}
use Rattle.vp_waking.proofs.waking.wakes.Goals as goal

pub returns-in-Operands : goal.returns-in-Operands
returns-in-Operands c =
    c.is_continuous.ensures
    ∙ operands_wake (tables_of c.args.checked.now) c.args.old c.args.change.now c.args.waiting c.args.process c.in-Some.kind c.in-Operands.is (sym c.process_at.ensures ∙ c.in-Some.is) c.requires

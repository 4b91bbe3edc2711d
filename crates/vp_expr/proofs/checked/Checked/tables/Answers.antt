use Rattle.std.proofs.Common.{◌∙◌, ap, length}
use Rattle.vp_elab.specs.Built.{Elaborated}
use Rattle.vp_expr.specs.Origins.{origins_of}
use Rattle.vp_expr.proofs.AllRun.{all_run}
use Rattle.vp_expr.proofs.checked.Checked.tables.Goals as goal

pub returns-clause-whole : goal.returns-clause-whole
returns-clause-whole c =
    all_run c.self.inside.design c.self.inside.tables c.self.invariant
    ∙ ap (λ (d : Elaborated). length (origins_of d)) c.self.view_is

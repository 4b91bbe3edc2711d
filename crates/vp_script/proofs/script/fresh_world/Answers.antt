use Rattle.std.proofs.Common.{◌∙◌, inr, refl, subst, sym}
use Rattle.std.proofs.lemmas.Result.{IfErr-weaker, IfOk-weaker}
use Rattle.std.specs.Arc.{arc_value}
use Rattle.vp_world.specs.Worlds.{WorldLog}
use Rattle.vp_script.specs.Scripts.{IsOpened, IsUnopened}
use Rattle.vp_script.proofs.Auditing.{opens_with, read_of}
use Rattle.vp_script.proofs.script.fresh_world.Goals as goal

pub returns-clause-world : goal.returns-clause-world
returns-clause-world c =
    let policy = c.in_ok-policy.ensures {u = tt} in
    let read = read_of c.args.design.now c.args.policy.now (arc_value c.in_ok-checked.checked) c.design.result.now c.in_ok-policy.policy (c.in_ok-checked.ensures {u = tt}).design (c.design.ensures ∙ c.deref.ensures) policy.fits policy.file policy.design in
    IfOk-weaker c.world_of.result _ _ (λ world is. subst (λ (w : WorldLog). IsOpened c.args.design.now c.args.policy.now w) (sym is) (opens_with _ _ _ _ read)) c.world_of.ensures.world

pub returns-clause-refused : goal.returns-clause-refused
returns-clause-refused c =
    let policy = c.in_ok-policy.ensures {u = tt} in
    let read = read_of c.args.design.now c.args.policy.now (arc_value c.in_ok-checked.checked) c.design.result.now c.in_ok-policy.policy (c.in_ok-checked.ensures {u = tt}).design (c.design.ensures ∙ c.deref.ensures) policy.fits policy.file policy.design in
    IfErr-weaker c.world_of.result _ _ (λ told lacks. subst (IsUnopened c.args.design.now c.args.policy.now) (sym lacks) (inr (arc_value c.in_ok-checked.checked, read.of, refl))) c.world_of.ensures.refused

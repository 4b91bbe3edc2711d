use Rattle.std.proofs.Common.{◌∙◌, ℕ, ap}
use Rattle.vp_world.specs.Worlds.{Opening}
use Rattle.vp_script.proofs.Openings.{runs_keep}
use Rattle.vp_script.proofs.running.RunningWorld.run.Goals as goal

pub invariant_of-self : goal.invariant_of-self
invariant_of-self c = record {
  pending = c.run.ensures.pending;
  whole = ap (λ (x : Opening × ℕ). x.1) (runs_keep _ _ _ c.run.ensures.runs) ∙ c.self.invariant.whole;
}

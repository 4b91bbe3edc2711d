use Rattle.std.proofs.Common.{◌∙◌, ap, sym}
use Rattle.vp_sim.specs.States as sim
use Rattle.vp_world.proofs.live_world.step_of.Goals as goal

pub returns-clause-ok : goal.returns-clause-ok
returns-clause-ok c =
    (c.in_ok-changed.ensures {u = tt}).ok
    ∙ ap (sim.Goes c.step.new.self.simulation)
    (sym (c.change_in.ensures ∙ ap (λ (s : sim.State). sim.change_in s c.in_ok-changed.changed) c.simulation.ensures))

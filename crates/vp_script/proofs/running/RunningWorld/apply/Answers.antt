use Rattle.std.proofs.Common.{◌∙◌, ℕ, ap, option_map, subst, sym}
use Rattle.std.specs.Arc.{arc_value}
use Rattle.vp_world.specs.Worlds.{Opening}
use Rattle.vp_script.specs.Pending.{ArePending}
use Rattle.vp_script.proofs.Openings.{applied_keeps}
use Rattle.vp_script.proofs.running.RunningWorld.apply.Goals as goal

pub invariant_of-self : goal.invariant_of-self
invariant_of-self c =
    let s = c.self.inside in
    let same = applied_keeps _ c.args.event s.world c.applied.new.world c.applied.result c.applied.ensures in
    record {
      pending =
          subst (λ (o : Opening). ArePending o.design (option_map arc_value s.segment) s.findings.items)
          (sym (ap (λ (x : Opening × ℕ). x.0) same)) c.self.invariant.pending;
      whole = ap (λ (x : Opening × ℕ). x.1) same ∙ c.self.invariant.whole;
    }

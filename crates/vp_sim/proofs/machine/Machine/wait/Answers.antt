use Rattle.std.proofs.Common.{◌∙◌, List, ap, length, subst, sym}
use Rattle.std.proofs.lemmas.List.{length-set}
use Rattle.vp_expr.specs.Tables.{tables_of}
use Rattle.vp_waking.specs.declared.waiting.Waiting.{Waiting}
use Rattle.vp_waking.specs.Listening.{AreHeard, IsHeard}
use Rattle.vp_sim.specs.States.{Running}
use Rattle.vp_waking.specs.Waking.{awaited_by}
use Rattle.vp_waking.proofs.Hearing.{heard_set}
use Rattle.vp_sim.proofs.machine.Machine.wait.Goals as goal

pub invariant_of-self : goal.invariant_of-self
invariant_of-self c =
    let tables = tables_of c.self.inside.listeners.design in
    let lists = c.self.inside.listeners.lists in
    let process = c.args.process in
    let heard = subst (λ (r : Running). IsHeard r.lists (awaited_by (tables_of r.state.design) c.args.waiting process) process) (sym c.self.view_is) c.requires in
    record {
      flows = c.self.invariant.flows;
      objects = c.self.invariant.objects;
      processes = c.self.invariant.processes;
      waits = ap (λ (l : List Waiting). length l) c.set.ensures ∙ length-set c.self.inside.waiting process c.args.waiting ∙ c.self.invariant.waits;
      heard = subst (λ (l : List Waiting). AreHeard tables lists l) (sym c.set.ensures) (heard_set tables lists c.self.inside.waiting process c.args.waiting c.self.invariant.heard heard);
    }

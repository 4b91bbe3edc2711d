use Rattle.std.proofs.Common.{◌∙◌, List, ap, length, subst, sym}
use Rattle.std.proofs.lemmas.List.{length-set}
use Rattle.vp_bits.specs.declared.bit.Bit.{Bit}
use Rattle.vp_expr.specs.Tables.{tables_of}
use Rattle.vp_waking.specs.declared.waiting.Waiting.{Waiting}
use Rattle.vp_waking.specs.Listening.{AreHeard}
use Rattle.vp_waking.specs.Waking.{woken_by}
use Rattle.vp_waking.proofs.Hearing.{heard_woken, length_woken}
use Rattle.vp_sim.proofs.machine.Machine.wake.Goals as goal

pub invariant_of-self : goal.invariant_of-self
invariant_of-self c =
    let tables = tables_of c.self.inside.listeners.design in
    let lists = c.self.inside.listeners.lists in
    let waiting = c.self.inside.waiting in
    let change = c.args.change.now in
    let woken = woken_by tables c.get-old.result change waiting in
    record {
      flows = c.self.invariant.flows;
      objects = ap (λ (l : List (List Bit)). length l) c.set.ensures ∙ length-set c.self.inside.values change.object.0 change.value ∙ c.self.invariant.objects;
      processes = c.wake.ensures.processes ∙ c.self.invariant.processes;
      waits = ap (λ (l : List Waiting). length l) c.wake.ensures.waiting ∙ length_woken waiting woken ∙ c.self.invariant.waits;
      heard = subst (λ (l : List Waiting). AreHeard tables lists l) (sym c.wake.ensures.waiting) (heard_woken tables lists waiting woken c.self.invariant.heard);
    }

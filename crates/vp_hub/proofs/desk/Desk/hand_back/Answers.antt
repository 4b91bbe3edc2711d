use Rattle.std.proofs.Common.{◌≡◌, ◌∙◌, ◌+◌, ◌++◌, ◌∷◌, [], List, Some, ap, refl, remove, subst, sym}
use Rattle.std.specs.Prelude.{slice_get}
use mathlib.Core.List.{IsPrefix}
use Rattle.vp_answer.specs.declared.request.SessionId.{SessionId}
use Rattle.vp_world.specs.Entries.{Entry}
use Rattle.vp_hub.specs.Calls.{Passed}
use Rattle.vp_hub.specs.Desks.{Desked}
use Rattle.vp_hub.proofs.Desks.{desk_back, same_passes}
use Rattle.vp_hub.proofs.Passes.{pass_back}
use Rattle.vp_hub.proofs.desk.Desk.hand_back.Goals as goal

pub invariant_of-self : goal.invariant_of-self
invariant_of-self g c =
    let old = c.self.inside in
    let n = c.in-Some.place in
    let d : Desked = record { world = old.world; total = old.calls.total; parts = old.rest.parts; passes_out = old.passes_out.items; handed_back = old.handed_back.entries; archive = old.archive } in
    let next : Desked = record { world = old.world; total = old.calls.total; parts = c.merge.new.self.parts; passes_out = c.remove.new.self.items; handed_back = c.push.new.self.entries; archive = old.archive } in
    let its = c.pass.inside in
    let p : Passed = record { session = its.session; indexes = its.indexes.entries; seen = its.seen.entries; amount = its.share.amount; parts = its.share.parts } in
    let keeps = c.pass.invariant.keeps in
    let back : c.push.new.self.entries ≡ old.handed_back.entries ++ p ∷ [] = c.push.ensures.1 ∙ ap (λ (q : Passed). old.handed_back.entries ++ q ∷ []) (sym c.pass.view_is) in
    let at : slice_get old.passes_out.items n ≡ Some its.session =
    subst (λ (ids : List SessionId). slice_get ids n ≡ Some its.session) c.as_slice.ensures.value c.in-Some.ensures.found in
    let on : IsPrefix its.seen.entries old.world.log = subst (λ (l : List Entry). IsPrefix its.seen.entries l) c.self.invariant.history.same c.compare.ensures.1 in
    record {
      desk = desk_back _ _ old.rest.amount c.merge.new.self.amount n d next p c.self.invariant.desk keeps at refl refl c.merge.ensures.parts c.remove.ensures.items back c.merge.ensures.amount;
      history = record {
        named = ap (λ h. h.name) c.compare.ensures.0 ∙ c.self.invariant.history.named;
        same = ap (λ h. h.entries) c.compare.ensures.0 ∙ c.self.invariant.history.same;
      };
      passes = same_passes old.world.log old.world.log (remove old.passes_out.items n) c.remove.new.self.items (old.handed_back.entries ++ p ∷ []) c.push.new.self.entries
          (pass_back old.world.log old.passes_out.items old.handed_back.entries n p at keeps on c.self.invariant.passes) refl c.remove.ensures.items back;
    }

pub returns-clause-returned : goal.returns-clause-returned
returns-clause-returned g c =
    let old = c.self.inside in
    let n = c.in-Some.place in
    let its = c.pass.inside in
    let at : slice_get old.passes_out.items n ≡ Some its.session =
    subst (λ (ids : List SessionId). slice_get ids n ≡ Some its.session) c.as_slice.ensures.value c.in-Some.ensures.found in
    record {
      place = n;
      out = subst (λ (x : Desked × Passed). slice_get x.0.passes_out n ≡ Some x.1.session) (λ i. (c.self.view_is i, c.pass.view_is i)) at;
      desk =
          (λ i. record {
            world = old.world;
            total = old.calls.total;
            parts = c.merge.ensures.parts i;
            passes_out = c.remove.ensures.items i;
            handed_back = c.push.ensures.1 i;
            archive = old.archive;
          })
          ∙ ap (λ (x : Desked × Passed). let d : Desked = x.0 in let p : Passed = x.1 in record d { parts = d.parts + p.parts; passes_out = remove d.passes_out n; handed_back = d.handed_back ++ c.args.pass ∷ [] }) (λ i. (c.self.view_is i, c.pass.view_is i));
    }

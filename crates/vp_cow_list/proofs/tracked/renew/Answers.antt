use Rattle.std.proofs.Common.{◌≡◌, ◌∙◌, ◌-◌, ℕ, Some, None, length, subst, sym, arith}
use Rattle.std.specs.Prelude.{slice_get}
use Rattle.std.specs.Vec.{vec_len}
use Rattle.vp_cow_list.specs.Tracked.{IsRenewed}
use Rattle.std.proofs.lemmas.Option.{slice_get_within}
use Rattle.vp_cow_list.specs.laws.Tracked.{copied_less, copied_whole, last_none, last_taken, marked_less}
use Rattle.vp_cow_list.proofs.tracked.renew.Goals as goal

pub loop-number-preserved : goal.loop-number-preserved
loop-number-preserved g c =
    let xs = c.loop-number.changed.items in
    let number = c.in-Some.number in
    let there = subst (λ s. slice_get s (length s - 1) ≡ Some number) c.as_slice.ensures.value (sym c.last.ensures.value ∙ sym c.copied.ensures ∙ c.in-Some.is) in
    let some = slice_get_within xs (length xs - 1) number there in
    let is = c.pop.ensures.value number (omega (arith, some)) in
    let e = last_taken xs c.pop.new.self.items c.pop.result (vec_len c.loop-number.changed) number (omega (arith, c.loop-number.changed.ok.0)) there is c.pop.ensures.items in
    let taken = c.in_ok-take_over.ensures {u = tt} in
    record {
      length = taken.length ∙ c.loop-number.invariant.length;
      others = copied_less c.loop-number.copy c.args.items.now c.take_over.new.copy c.loop-number.written.items c.clear.new.written.items number c.loop-number.invariant.others
          (subst (λ (bits : ℕ). IsRenewed c.loop-number.copy c.take_over.new.copy c.args.items.now number bits) c.written_in.ensures taken.own) taken.others c.clear.ensures;
      marked = marked_less xs c.pop.new.self.items c.loop-number.written.items c.clear.new.written.items number c.loop-number.invariant.marked e c.clear.ensures;
    }

pub returns-clause-all : goal.returns-clause-all
returns-clause-all g c =
    let xs = c.loop-number.changed.items in
    let none = subst (λ s. slice_get s (length s - 1) ≡ None) c.as_slice.ensures.value (sym c.last.ensures.value ∙ sym c.copied.ensures ∙ c.in_default.is) in
    copied_whole c.loop-number.copy c.args.items.now xs c.loop-number.written.items c.loop-number.invariant.others c.loop-number.invariant.marked (last_none xs none)

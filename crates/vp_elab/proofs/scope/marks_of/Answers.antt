use Rattle.std.proofs.Common.{◌∙◌, ap, true, false, None, arith}
use Rattle.std.proofs.lemmas.List.{get_or-replicate, length-replicate, length-set}
use Rattle.vp_source.specs.declared.source.Direction.TheVariants.{Input}
use Rattle.vp_source.specs.declared.source.Item.TheVariants.{Port}
use Rattle.vp_pragma.specs.Envelopes.{envelope_at}
use Rattle.vp_modules.specs.Items.{item_place}
use Rattle.vp_elab.proofs.Marks.{mark_next}
use Rattle.vp_elab.proofs.scope.marks_of.Goals as goal

pub loop-item-init : goal.loop-item-init
loop-item-init c = record { long = length-replicate 256 false; marked = λ e l. get_or-replicate 256 e false false l }

pub loop-item-preserved : goal.loop-item-preserved
loop-item-preserved c = record {
  long = length-set c.loop-item.marks c.of.result true ∙ c.loop-item.invariant.long;
  marked = λ e l.
      mark_next c.args.envelopes.now.envelopes item_place c.loop-item.marks c.args.items.now c.loop-item.item-index (Port 0 Input None) c.of.result e
      c.loop-item-test.true (let long = c.loop-item.invariant.long in omega arith) (c.of.ensures ∙ ap (envelope_at c.args.envelopes.now.envelopes) c.place_of.ensures) (c.loop-item.invariant.marked e l);
}

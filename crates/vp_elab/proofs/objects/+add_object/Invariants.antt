use Rattle.std.proofs.Common.{◌≡◌, ◌+◌, ◌*◌, ◌≤◌, ◌++◌, suc, length, drop}
use Rattle.vp_elab.specs.declared.object.TheConstants.{OBJECT_LIMIT}
use Rattle.vp_elab.specs.Objects.{objects_below, objects_from}
use Rattle.vp_elab.specs.Sizes.{item_size, total}
use Rattle.vp_elab.proofs.objects.+add_object.Given as goal

abbrev pub decreases-add_object : goal.decreases-add_object
decreases-add_object l = 2 * l.further

abbrev pub decreases-add_items : goal.decreases-add_items
decreases-add_items l = 2 * l.further + 1

-- the objects so far, before those of the items that are left; these have room
abbrev pub invariant-add_items-loop-index : goal.invariant-add_items-loop-index
invariant-add_items-loop-index l = record {
  objects :
      l.objects.items
      ++ objects_from l.source l.envelopes.envelopes (objects_below l.source l.envelopes.envelopes l.further) l.parent.0 l.index (length l.objects.items) (drop l.index l.item-items)
      ≡ l.fn.objects.items ++ objects_below l.source l.envelopes.envelopes (suc l.further) l.parent.0 l.fn.module;
  few : length l.objects.items + total (item_size l.source l.further) (drop l.index l.item-items) ≤ OBJECT_LIMIT;
}

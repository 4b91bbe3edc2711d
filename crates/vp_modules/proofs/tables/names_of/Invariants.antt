use Rattle.std.proofs.Common.{◌≡◌, [], map, take, drop}
use Rattle.vp_modules.specs.Items.{item_name}
use Rattle.vp_modules.specs.Refusals.{twice}
use Rattle.vp_modules.proofs.tables.names_of.Given as goal

abbrev pub invariant-loop-item : goal.invariant-loop-item
invariant-loop-item l = record {
  names : l.names ≡ map (item_name l.source) (take l.item-index l.items);
  once : twice l.source l.names (drop l.item-index l.items) ≡ twice l.source [] l.items;
}

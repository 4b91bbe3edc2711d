use Rattle.std.proofs.Common.{◌≡◌, map, take}
use Rattle.serde_json.specs.View.{view}
use Rattle.vp_wire.specs.Lines.{listed_data}
use Rattle.vp_wire.proofs.replies.items_value.Given as goal

abbrev pub invariant-loop-object : goal.invariant-loop-object
invariant-loop-object l = map view l.items.items ≡ map listed_data (take l.object-index l.objects)

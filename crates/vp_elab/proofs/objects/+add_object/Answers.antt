use Rattle.std.proofs.Common.{◌+◌, ◌-◌, ◌<◌, ◌∙◌, ◌++◌, ap, sym, length, drop, get_or, None, List, Option, arith, rules}
use Rattle.std.specs.Option.{option_map_or}
use Rattle.std.proofs.lemmas.Result.{on_ok_weaker}
use Rattle.vp_source.specs.declared.source.Direction.TheVariants.{Input}
use Rattle.vp_source.specs.declared.source.Item.{Item}
use Rattle.vp_source.specs.declared.source.Item.TheVariants.{Port}
use Rattle.vp_source.specs.declared.source.Module.{Module}
use Rattle.vp_elab.specs.declared.object.Object.{Object}
use Rattle.vp_elab.specs.Objects.{objects_below}
use Rattle.vp_elab.specs.Sizes.{item_size, size, total}
use Rattle.vp_elab.proofs.Making.{from_split, item_room, items_long, items_made, object_made, object_module, room_split}
use Rattle.vp_elab.proofs.objects.+add_object.Goals as goal

pub add_items-add_object-requires : goal.add_items-add_object-requires
add_items-add_object-requires t c =
    let items : List Item = c.items_of-item-items.result.now in
    let index = c.loop-index.index in
    let i : Item = get_or items index (Port 0 Input None) in
    let source = c.args.source.now in
    let envelopes = c.args.envelopes.now.envelopes in
    let within : index < length items = c.loop-index-test.true in
    let split = room_split source envelopes c.args.further index items (Port 0 Input None) within in
    let few = c.loop-index.invariant.few in
    let room = item_room source envelopes c.args.further (length c.loop-index.objects.items) (total (item_size source c.args.further) (drop (index + 1) items)) i (omega arith) in
    let is = ap (λ (x : Option Module). option_map_or (size source (c.args.further - 1)) x 0) (object_module source envelopes c.item_object-object.result c.args.parent.0 index i c.item_object-object.ensures) in
    (search rules, (c.requires.definitions, (room.0, omega (arith, room.1))))

pub add_items-loop-index-preserved : goal.add_items-loop-index-preserved
add_items-loop-index-preserved t c =
    let items : List Item = c.items_of-item-items.result.now in
    let index = c.loop-index.index in
    let i : Item = get_or items index (Port 0 Input None) in
    let source = c.args.source.now in
    let envelopes = c.args.envelopes.now.envelopes in
    let within : index < length items = c.loop-index-test.true in
    let added = c.in_ok-add_object.ensures {u = tt} in
    let room = room_split source envelopes c.args.further index items (Port 0 Input None) within in
    let few = c.loop-index.invariant.few in
    let long =
    items_long source envelopes c.loop-index.objects.items c.add_object.new.objects.items c.item_object-object.result c.args.further c.args.parent.0 index i
    c.item_object-object.ensures added (omega arith) in
    record {
      objects =
          items_made source envelopes c.loop-index.objects.items c.add_object.new.objects.items c.item_object-object.result c.args.further c.args.parent.0 index i _ c.item_object-object.ensures added
          ∙ ap (λ (os : List Object). c.loop-index.objects.items ++ os) (sym (from_split source envelopes (objects_below source envelopes c.args.further) c.args.parent.0 index (length c.loop-index.objects.items) items (Port 0 Input None) within))
          ∙ c.loop-index.invariant.objects;
      few = omega arith;
    }

pub add_object-returns-in-Some : goal.add_object-returns-in-Some
add_object-returns-in-Some t c =
    on_ok_weaker c.add_items.result
    (λ new. object_made c.args.source.now c.args.envelopes.now.envelopes c.args.objects.now.items c.push.new.self.items c.add_items.new.objects.items c.args.object c.args.further c.len.result c.in-Some.module _ c.in_ok-push.ensures.items c.requires.further (omega (arith, c.len.ensures, c.args.objects.now.ok.0)) (c.in-Some.ensures {u = tt}) new)
    c.add_items.ensures

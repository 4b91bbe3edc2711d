use Rattle.std.proofs.Common.{◌∙◌, ◌∷◌, ◌++◌, ◌+◌, [], List, ap, arith, sym}
use Rattle.std.proofs.lemmas.List.{append_assoc}
use Rattle.vp_vpi.specs.declared.session.handle_table.OpenHandle.{OpenHandle}
use Rattle.vp_vpi.proofs.HandleTables.{none_else, opened_push, opened_skip}
use Rattle.vp_vpi.proofs.session.handle_table.add_opened.Goals as goal
use Rattle.vp_vpi.proofs.session.handle_table.add_opened.Goals.{in-Some+in_ok-push, in_default}

-- the handle at the place is added, or was freed
pub loop-place-preserved : goal.loop-place-preserved
loop-place-preserved c =
    let before = c.args.opened.now.items in
    let handles = c.args.handles.now in
    let index = c.args.index in
    let place = c.loop-place.place in
    elim c.match-handles-place.branch [
      | in-Some+in_ok-push w ↦
          let handle : OpenHandle = record { index = index + place; object = w.in-Some.object } in
          let more = opened_push handles index place w.in-Some.object c.loop-place-test.true w.in-Some.is in
          record {
            added = ap (λ v. v.items) w.opened-is ∙ (w.in_ok-push.ensures.items ∙ (ap (λ (hs : List OpenHandle). hs ++ handle ∷ []) c.loop-place.invariant.added ∙ (append_assoc before _ (handle ∷ []) ∙ ap (λ (hs : List OpenHandle). before ++ hs) (sym more))));
            room = grind (arith, w.opened-is, w.in_ok-push.ensures.len, w.in_ok-push.ensures.capacity, c.loop-place.invariant.room);
          }
      | in_default w ↦
          let more = opened_skip handles index place c.loop-place-test.true (none_else _ w.in_default.not-Some) in
          record {
            added = ap (λ v. v.items) w.opened-is ∙ (c.loop-place.invariant.added ∙ ap (λ (hs : List OpenHandle). before ++ hs) (sym more));
            room = grind (arith, w.opened-is, c.loop-place.invariant.room);
          }
    ]

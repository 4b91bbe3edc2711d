use Rattle.std.proofs.Common.{◌∙◌, Ok, Err, rules}
use Rattle.std.proofs.lemmas.List.Sorted.{answers_always}
use Rattle.vp_vpi.proofs.HandleTables.{is_table, searched}
use Rattle.vp_vpi.proofs.session.handle_table.HandleTable.place.Goals as goal

-- the closure gives a handle's index, and the slice is the table's handles
pub returns-in-Ok-clause-found : goal.returns-in-Ok-clause-found
returns-in-Ok-clause-found c =
    let table = is_table _ _ _ c.self.invariant c.self.view_is in
    let facts = c.in-Ok.ensures in
    let by_index = facts.position (λ h. h.index) (answers_always _ _ _ (λ f a r g called. search rules)) in
    (searched c.deref.result.now c.args.self.now (c.deref.ensures.value ∙ table.opened) c.args.index (Ok c.in-Ok.place) facts.bound by_index).found

pub returns-in-Err-clause-absent : goal.returns-in-Err-clause-absent
returns-in-Err-clause-absent c =
    let table = is_table _ _ _ c.self.invariant c.self.view_is in
    let facts = c.in-Err.ensures in
    let by_index = facts.position (λ h. h.index) (answers_always _ _ _ (λ f a r g called. search rules)) in
    (searched c.deref.result.now c.args.self.now (c.deref.ensures.value ∙ table.opened) c.args.index (Err c.in-Err.field-0) facts.bound by_index).absent

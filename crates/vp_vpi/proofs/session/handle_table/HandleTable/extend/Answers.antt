use Rattle.std.proofs.Common.{◌∙◌, ◌++◌, List, ap, arith}
use Rattle.vp_vpi.specs.declared.session.handle_table.OpenHandle.{OpenHandle}
use Rattle.vp_vpi.specs.HandleTables.{opened_from}
use Rattle.vp_vpi.proofs.HandleTables.{is_table, kept, shown, IsTableOf-add}
use Rattle.vp_vpi.proofs.session.handle_table.HandleTable.extend.Goals as goal

pub add_opened-requires-clause-numbers : goal.add_opened-requires-clause-numbers
add_opened-requires-clause-numbers c =
    let table = is_table _ _ _ c.self.invariant c.self.view_is in
    omega (arith, table.counted, c.requires)

pub overflow_add-self : goal.overflow_add-self
overflow_add-self c =
    let table = is_table _ _ _ c.self.invariant c.self.view_is in
    omega (arith, table.counted, c.requires)

pub invariant_of-self-2 : goal.invariant_of-self-2
invariant_of-self-2 c =
    let table = is_table _ _ _ c.self.invariant c.self.view_is in
    let items = c.in_ok-add_opened.ensures.added ∙ ap (λ (hs : List OpenHandle). hs ++ opened_from c.self.inside.made c.args.more.now) c.in_ok-reserve.ensures.items in
    kept (IsTableOf-add table c.args.more.now _ items)

pub returns-clause-added : goal.returns-clause-added
returns-clause-added c =
    let table = is_table _ _ _ c.self.invariant c.self.view_is in
    let items = c.in_ok-add_opened.ensures.added ∙ ap (λ (hs : List OpenHandle). hs ++ opened_from c.self.inside.made c.args.more.now) c.in_ok-reserve.ensures.items in
    shown (IsTableOf-add table c.args.more.now _ items)

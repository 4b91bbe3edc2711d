use Rattle.std.proofs.Common.{◌∷◌, [], Some, arith}
use Rattle.vp_vpi.proofs.HandleTables.{is_table, kept, shown, IsTableOf-add}
use Rattle.vp_vpi.proofs.session.handle_table.HandleTable.push.Goals as goal

pub overflow_add-self : goal.overflow_add-self
overflow_add-self c =
    let table = is_table _ _ _ c.self.invariant c.self.view_is in
    omega (arith, table.counted, c.requires)

pub invariant_of-self-2 : goal.invariant_of-self-2
invariant_of-self-2 c =
    let table = is_table _ _ _ c.self.invariant c.self.view_is in
    kept (IsTableOf-add table (Some c.args.object ∷ []) _ c.in_ok-push.ensures.items)

pub returns-clause-pushed : goal.returns-clause-pushed
returns-clause-pushed c =
    let table = is_table _ _ _ c.self.invariant c.self.view_is in
    shown (IsTableOf-add table (Some c.args.object ∷ []) _ c.in_ok-push.ensures.items)

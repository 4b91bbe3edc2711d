use Rattle.std.proofs.Common.{arith}
use Rattle.vp_vpi.proofs.HandleTables.{is_table, opened_count}
use Rattle.vp_vpi.proofs.session.handle_table.HandleTable.open_count.Goals as goal

pub returns : goal.returns
returns c =
    let table = is_table _ _ _ c.self.invariant c.self.view_is in
    let counted = opened_count c.args.self.now 0 in
    grind (arith, table.opened, counted, c.len.ensures)

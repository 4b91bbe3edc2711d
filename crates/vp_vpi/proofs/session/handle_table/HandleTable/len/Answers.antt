use Rattle.vp_vpi.proofs.HandleTables.{is_table}
use Rattle.vp_vpi.proofs.session.handle_table.HandleTable.len.Goals as goal

pub returns-clause-made : goal.returns-clause-made
returns-clause-made c = (is_table _ _ _ c.self.invariant c.self.view_is).counted

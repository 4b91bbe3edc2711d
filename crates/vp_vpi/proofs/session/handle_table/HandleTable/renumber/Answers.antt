use Rattle.vp_notify.specs.Renumbered.{number_now}
use Rattle.vp_vpi.proofs.HandleTables.{is_table, kept, shown, IsTableOf-map}
use Rattle.vp_vpi.proofs.session.handle_table.HandleTable.renumber.Goals as goal

pub invariant_of-self : goal.invariant_of-self
invariant_of-self c =
    let table = is_table _ _ _ c.self.invariant c.self.view_is in
    kept (IsTableOf-map table (number_now c.args.numbers.now) _ c.renumber_opened.ensures)

pub returns : goal.returns
returns c =
    let table = is_table _ _ _ c.self.invariant c.self.view_is in
    shown (IsTableOf-map table (number_now c.args.numbers.now) _ c.renumber_opened.ensures)

use Rattle.std.proofs.Common.{◌∙◌, List, ap}
use Rattle.std.specs.List.{list_all}
use Rattle.vp_vpi.specs.declared.session.handle_table.OpenHandle.{OpenHandle}
use Rattle.vp_vpi.specs.HandleTables.{is_open_within}
use Rattle.vp_vpi.proofs.HandleTables.{is_table, opened_within}
use Rattle.vp_vpi.proofs.session.handle_table.HandleTable.are_within.Goals as goal

pub returns : goal.returns
returns c =
    let table = is_table _ _ _ c.self.invariant c.self.view_is in
    c.are_open_within.ensures ∙ (ap (λ (hs : List OpenHandle). list_all (is_open_within c.args.count) hs) (c.deref.ensures.value ∙ table.opened) ∙ opened_within c.args.count c.args.self.now 0)

use Rattle.std.proofs.Common.{◌∙◌, ap, get_or, List}
use Rattle.vp_vpi.proofs.HandleTables.{is_table, object_read}
use Rattle.vp_vpi.specs.declared.session.handle_table.OpenHandle.{OpenHandle}
use Rattle.vp_vpi.proofs.session.handle_table.HandleTable.object.Goals as goal

pub returns-in-Some : goal.returns-in-Some
returns-in-Some c =
    let table = is_table _ _ _ c.self.invariant c.self.view_is in
    let read = c.index.ensures ∙ ap (λ (hs : List OpenHandle). get_or hs c.in-Some.place c.index.result.now) table.opened in
    object_read c.args.self.now c.args.index c.in-Some.place c.in-Some.ensures.found c.index.result.now read

use Rattle.std.proofs.Common.{◌∙◌, ap, sym, get_or, List}
use Rattle.std.specs.Prelude.{is_some}
use Rattle.vp_vpi.proofs.HandleTables.{is_table, kept, shown, object_read, set_none, IsTableOf-remove}
use Rattle.vp_vpi.specs.declared.session.handle_table.OpenHandle.{OpenHandle}
use Rattle.vp_vpi.proofs.session.handle_table.HandleTable.take.Goals as goal

pub invariant_of-self : goal.invariant_of-self
invariant_of-self c =
    let table = is_table _ _ _ c.self.invariant c.self.view_is in
    kept (IsTableOf-remove table _ _ c.in-Some.ensures.found _ c.remove-handle.ensures.items)

pub returns-in-Some-clause-taken : goal.returns-in-Some-clause-taken
returns-in-Some-clause-taken c =
    let table = is_table _ _ _ c.self.invariant c.self.view_is in
    shown (IsTableOf-remove table _ _ c.in-Some.ensures.found _ c.remove-handle.ensures.items)

pub returns-in-Some-clause-there : goal.returns-in-Some-clause-there
returns-in-Some-clause-there c =
    let table = is_table _ _ _ c.self.invariant c.self.view_is in
    let read = c.remove-handle.ensures.value ∙ ap (λ (hs : List OpenHandle). get_or hs c.in-Some.place c.remove-handle.result) table.opened in
    ap is_some (object_read c.args.self.now c.args.index c.in-Some.place c.in-Some.ensures.found c.remove-handle.result read)

pub returns-in-None-clause-taken : goal.returns-in-None-clause-taken
returns-in-None-clause-taken c = sym (set_none c.args.self.now c.args.index c.in-None.ensures.absent)

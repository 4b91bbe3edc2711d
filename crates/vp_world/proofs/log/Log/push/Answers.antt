use Rattle.std.proofs.Common.{◌++◌, ◌∙◌, ◌∷◌, [], sym, ap}
use Rattle.std.proofs.lemmas.List.{append-nil}
use Rattle.vp_world.specs.declared.log.Record.TheVariants as record_of
use Rattle.vp_world.specs.LogRecords.{LogState}
use Rattle.vp_world.proofs.LogRecords.{last_added, one_more}
use Rattle.vp_world.proofs.log.Log.push.Goals as goal

pub returns : goal.returns
returns c =
    let i = c.self.inside in
    one_more i.others.items c.push_reserved.new.self.items (c.args.entry ∷ []) i.changes.items i.changes.items [] i.records.items c.push_reserved-2.new.self.items (record_of.Other c.len-index.result) c.args.entry c.self.invariant c.push_reserved.ensures.items (sym (append-nil i.changes.items)) c.push_reserved-2.ensures.items (last_added i.others.items c.push_reserved.new.self.items c.args.entry c.len-index.result (c.len-index.ensures ∙ i.others.ok.0) c.push_reserved.ensures.items)
    ∙ ap (λ (l : LogState). l.entries ++ c.args.entry ∷ []) c.self.view_is

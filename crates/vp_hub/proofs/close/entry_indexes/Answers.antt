use Rattle.std.proofs.Common.{◌≡◌, ◌∙◌, ◌∷◌, ◌++◌, [], Some, ap, sym}
use Rattle.std.specs.Prelude.{slice_get}
use Rattle.vp_world.specs.Entries.{Entry}
use Rattle.vp_hub.proofs.Closings.{own_more, own_same}
use Rattle.vp_hub.proofs.close.entry_indexes.Goals.{then-is_own+in_ok-push, else-is_own}
use Rattle.vp_hub.proofs.close.entry_indexes.Goals as goal

pub loop-index-preserved : goal.loop-index-preserved
loop-index-preserved c =
    let log = c.args.log.now.entries in
    let id = c.args.session in
    let n = c.loop-index.index in
    let e : Entry = c.entry-entry.result.now in
    let at : slice_get log n ≡ Some e = c.entry-entry.ensures in
    elim c.if-is_own.branch [
      | then-is_own+in_ok-push w ↦
          ap (λ v. v.items) w.indexes-is ∙ (w.in_ok-push.ensures {u = tt}).items ∙ ap (λ ns. ns ++ n ∷ []) c.loop-index.invariant
          ∙ sym (own_more log id n e at (sym c.is_own.ensures ∙ w.if-is_own.true))
      | else-is_own w ↦
          ap (λ v. v.items) w.indexes-is ∙ c.loop-index.invariant
          ∙ sym (own_same log id n e at (sym c.is_own.ensures ∙ w.if-is_own.false))
    ]

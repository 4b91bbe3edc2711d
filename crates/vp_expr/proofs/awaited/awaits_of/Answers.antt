use Rattle.std.proofs.Common.{◌≡◌, ◌∙◌, ℕ, ◌+◌, ◌<◌, List, drop, get_or, length, ap}
use Rattle.std.specs.List.{flat_map, fold}
use Rattle.vp_source.specs.declared.source.Module as declared
use Rattle.vp_source.specs.declared.source.Source.{Source}
use Rattle.vp_source.specs.declared.statement.Statement.{Statement}
use Rattle.vp_elab.specs.Built.{Elaborated}
use Rattle.vp_expr.specs.declared.awaited.Awaited.{Awaited}
use Rattle.vp_operand.specs.declared.operand.Operand.{Operand}
use Rattle.vp_expr.specs.Awaits.{awaits_in, laid_after, reads_in, reads_of, statements_of}
use Rattle.vp_expr.proofs.Growing.{folds_left}
use Rattle.vp_resolve.proofs.Scopes.{scope_there}
use Rattle.vp_expr.proofs.awaited.awaits_of.Goals as goal

-- the changes of one more module after those of others
one_more : (d : Elaborated) (os : List Operand) (ss : List Statement) (so_far : List Awaited × List ℕ) (ms : List declared.Module) (k : ℕ) (m : declared.Module) (next whole : List Awaited × List ℕ) → k < length ms → fold laid_after so_far (flat_map (awaits_in d os (reads_of d.source os)) (drop k ms)) ≡ whole → ss ≡ statements_of d.source → next ≡ fold laid_after so_far (awaits_in d os (reads_in d.source os ss) (get_or ms k m)) → fold laid_after next (flat_map (awaits_in d os (reads_of d.source os)) (drop (k + 1) ms)) ≡ whole
one_more d os ss so_far ms k m next whole h same all is =
    folds_left laid_after (awaits_in d os (reads_of d.source os)) so_far ms k m next whole h same
    (is ∙ ap (λ (l : List Statement). fold laid_after so_far (awaits_in d os (reads_in d.source os l) (get_or ms k m))) all)

pub add_awaits-requires : goal.add_awaits-requires
add_awaits-requires c =
    scope_there c.args.design.now c.as_slice-module-items.result.now c.loop-number.number _ _ (c.as_slice-module-items.ensures ∙ ap (λ (s : Source). s.modules) c.source-2.ensures)
    c.scope_of-scope.ensures c.loop-number-test.true

pub loop-number-preserved : goal.loop-number-preserved
loop-number-preserved c =
    let so_far : List Awaited × List ℕ = (c.loop-number.awaits.awaited.items, c.loop-number.awaits.ends.items) in
    one_more c.args.design.now c.args.operands.now c.deref.result.now so_far c.as_slice-module-items.result.now c.loop-number.number _ _ _ c.loop-number-test.true c.loop-number.invariant
    (c.deref.ensures.value ∙ c.in_ok-statements.ensures ∙ ap statements_of c.source.ensures)
    c.in_ok-add_awaits.ensures

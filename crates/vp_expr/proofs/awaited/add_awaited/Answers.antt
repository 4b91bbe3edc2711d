use Rattle.std.proofs.Common.{◌≡◌, ◌∙◌, ◌++◌, List, [], length, ap, map, subst, sym}
use Rattle.std.specs.Prelude.{OnOk, option_map}
use Rattle.vp_source.specs.declared.source.Source.{Source}
use Rattle.vp_source.specs.declared.statement.Statement.{Statement}
use Rattle.vp_expr.specs.declared.awaited.Awaited.{Awaited}
use Rattle.vp_operand.specs.declared.operand.Slot.{Slot}
use Rattle.vp_expr.specs.Awaits.{any_change, awaited_by, part_reads, reads_below, reads_from, reads_in}
use Rattle.vp_operand.proofs.Prefixes.{made_whole}
use Rattle.vp_expr.proofs.awaited.add_awaited.Goals as goal

pub returns-in_ok-add_below-in-AnyEvent : goal.returns-in_ok-add_below-in-AnyEvent
returns-in_ok-add_below-in-AnyEvent c =
    let source = c.source-source.result.now in
    let os = c.args.operands.now in
    let ss = c.args.statements.now in
    let body = c.in-AnyEvent.body in
    let scope = option_map (λ o. o.0) c.args.scope in
    subst (λ (l : List Awaited). OnOk c.add_changes.result (c.add_changes.new.awaited.items ≡ c.args.awaited.now.items ++ l))
    (ap (map any_change)
    (c.deref.ensures.value
    ∙ c.in_ok-add_below-in-AnyEvent.ensures
    ∙ ap (λ (l : List Slot). l ++ reads_below source os ss (length ss) body) c.new-slots.ensures.items
    ∙ made_whole (reads_from source os) ss body []
    ∙ ap (λ (s : Source). part_reads (reads_in s os ss) body) c.source-source.ensures)
    ∙ ap (λ (s : Statement). awaited_by c.args.design.now scope os (reads_in c.args.design.now.source os ss) s) (sym c.in-AnyEvent.is))
    c.add_changes.ensures

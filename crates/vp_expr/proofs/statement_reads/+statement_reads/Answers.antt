use Rattle.std.proofs.Common.{◌≡◌, ◌∙◌, ◌++◌, ltb, cond, None, Some, List, sym, ap, subst, append-nil, arith, append_assoc}
use Rattle.std.specs.Prelude.{slice_get, OnOk}
use Rattle.vp_source.specs.declared.statement.Statement.TheVariants as statement
use Rattle.vp_operand.specs.declared.operand.Slot.{Slot}
use Rattle.vp_expr.specs.Awaits.{reads_below}
use Rattle.vp_expr.proofs.StatementReads.{statement_found, statement_missing}
use Rattle.vp_expr.proofs.statement_reads.+statement_reads.Goals as goal

pub add_below-returns-in-Some : goal.add_below-returns-in-Some
add_below-returns-in-Some t c =
    let found = statement_found c.args.source.now c.args.operands.now c.args.statements.now c.args.end c.args.place c.in-Some.statement (sym c.statement_below.ensures ∙ c.in-Some.is) in
    subst (λ (r : List Slot). OnOk c.add_of.result (c.add_of.new.slots.items ≡ c.args.slots.now.items ++ r)) (sym found.1) c.add_of.ensures

pub add_below-returns-in-None : goal.add_below-returns-in-None
add_below-returns-in-None t c =
    let none = statement_missing c.args.source.now c.args.operands.now c.args.statements.now c.args.end c.args.place (sym c.in-None.is ∙ c.statement_below.ensures) in
    sym (ap (λ (r : List Slot). c.args.slots.now.items ++ r) none ∙ append-nil c.args.slots.now.items)

pub add_block-loop-list-preserved : goal.add_block-loop-list-preserved
add_block-loop-list-preserved t c =
    let source = c.args.source.now in
    let operands = c.args.operands.now in
    let ss = c.args.statements.now in
    let below = c.loop-list.below in
    let chain = c.loop-list.chain in
    let list = c.in-Some-Then.list in
    let last = c.in-Some-Then.last in
    let at : cond (ltb chain below) (slice_get ss chain) None ≡ Some (statement.Then list last) = cc (c.statement_below.ensures, c.in-Some-Then.is, c.in-Some-Then.field-0-is) in
    let found = statement_found source operands ss below chain (statement.Then list last) at in
    record {
      within = (let inside = found.0 in let so_far = c.loop-list.invariant.within in omega arith);
      reads =
          ap (λ (l : List Slot). l ++ reads_below source operands ss chain list) c.in_ok-add_below-2.ensures
          ∙ append_assoc c.loop-list.slots.items (reads_below source operands ss chain last) (reads_below source operands ss chain list)
          ∙ ap (λ (l : List Slot). c.loop-list.slots.items ++ l) (sym found.1)
          ∙ c.loop-list.invariant.reads;
    }

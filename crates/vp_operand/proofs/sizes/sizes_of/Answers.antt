use Rattle.std.proofs.Common.{◌∙◌, ap, sym, cond, Some, None}
use Rattle.vp_operand.specs.Arena.{is_width, operand_size}
use Rattle.vp_operand.proofs.Arenas.{first_all, first_more, refuses}
use Rattle.vp_operand.proofs.sizes.sizes_of.Goals as goal

pub returns-in_default : goal.returns-in_default
returns-in_default c =
    let tested = c.fitted.ensures ∙ ap (λ n. cond (is_width n) (Some n) None) (c.operand_size.ensures ∙ ap (λ s. operand_size s c.operand-item.result) c.deref.ensures.value) in
    sym (refuses c.args.operands.now c.loop-operand.operand-index c.operand-item.result c.loop-operand.sizes.items c.fitted.result c.loop-operand-test.true c.operand-item.is c.loop-operand.invariant.are tested c.in_default.is)

pub loop-operand-preserved : goal.loop-operand-preserved
loop-operand-preserved c =
    let tested = c.fitted.ensures ∙ ap (λ n. cond (is_width n) (Some n) None) (c.operand_size.ensures ∙ ap (λ s. operand_size s c.operand-item.result) c.deref.ensures.value) in
    rw c.in_ok-push.ensures.items
    (first_more c.args.operands.now c.loop-operand.operand-index c.operand-item.result c.loop-operand.sizes.items c.fitted.result c.in-Some.size c.loop-operand-test.true c.operand-item.is c.loop-operand.invariant tested c.in-Some.is)

pub returns : goal.returns
returns c =
    ap Some c.from_vec.ensures
    ∙ first_all c.args.operands.now c.loop-operand.operand-index c.loop-operand.sizes.items c.loop-operand-test.false c.loop-operand.invariant

use Rattle.std.proofs.Common.{◌∙◌, ◌-◌, ◌++◌, List, ap, arith}
use Rattle.vp_bits.specs.declared.bit.Bit.{Bit}
use Rattle.vp_operand.proofs.Digits.{pushed_short}
use Rattle.vp_operand.proofs.literal.pushed.Goals as goal

pub returns : goal.returns
returns c =
    c.concat.ensures
    ∙ ap (λ (l : List Bit). c.args.digit ++ l) c.resize-2.ensures
    ∙ pushed_short c.args.value c.args.digit (c.width-3.result - c.width-4.result) (omega arith) (omega arith)

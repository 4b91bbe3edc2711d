use Rattle.std.proofs.Common.{◌∙◌, ◌%◌, ◌^◌, ℕ, List, ap}
use Rattle.std.proofs.lemmas.List.{take_all}
use Rattle.std.specs.List.{fold}
use Rattle.vp_operand.specs.LiteralSteps.{number_with}
use Rattle.vp_operand.proofs.Digits.{all_numbers}
use Rattle.vp_operand.proofs.literal.decimal_of.Goals as goal

pub returns : goal.returns
returns c =
    let bytes = c.args.bytes.now in
    c.loop-byte.invariant
    ∙ ap (λ (l : List ℕ). fold number_with 0 l % 2 ^ 64) (take_all c.loop-byte.byte-index bytes c.loop-byte-test.false)
    ∙ ap (λ (n : ℕ). n % 2 ^ 64) (all_numbers 0 bytes)

use Rattle.std.proofs.Common.{◌∙◌, ℕ, Option, ap, sym}
use Rattle.std.specs.List.{filter_map}
use Rattle.vp_bits.specs.Arithmetic.{bits_of_number}
use Rattle.vp_operand.specs.Literals.{decimal_of, digit_at, digits_value}
use Rattle.vp_operand.proofs.Digits.{low_digits}
use Rattle.vp_operand.proofs.literal.digits_value.Goals as goal

pub returns-in-None : goal.returns-in-None
returns-in-None c =
    let digits = filter_map digit_at c.args.bytes.now in
    c.of_number.ensures
    ∙ ap (bits_of_number c.args.size) c.decimal_of.ensures
    ∙ low_digits c.args.size (decimal_of digits) c.requires.1
    ∙ ap (λ (w : Option ℕ). digits_value c.args.size w digits) (sym c.in-None.is ∙ c.digit_width.ensures.value)

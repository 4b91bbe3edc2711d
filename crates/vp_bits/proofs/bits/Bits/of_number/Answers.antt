use Rattle.std.proofs.Common.{◌∙◌, ap, sym}
use Rattle.vp_bits.specs.Vector.{bits_of}
use Rattle.vp_bits.proofs.Vectors.{bits_of-low_known}
use Rattle.vp_bits.proofs.Numbers.{bits_of_number-bits_of}
use Rattle.vp_bits.proofs.bits.Bits.of_number.Goals as goal

pub returns : goal.returns
returns c =
    ap (λ a. bits_of c.args.width a 0) c.lowest.ensures ∙ bits_of-low_known c.args.width c.args.number
    ∙ sym (bits_of_number-bits_of c.args.width c.args.number)

use Rattle.std.proofs.Common.{◌+◌, ◌≤◌, ◌++◌, ◌∙◌, ap, arith}
use Rattle.vp_bits.specs.Vector.{bits_of}
use Rattle.vp_bits.proofs.Numbers.{length_of_view}
use Rattle.vp_bits.proofs.Shapes.{joined_stored, joined_words}
use Rattle.vp_bits.proofs.bits.Bits.concat.Goals as goal

pub invariant_of-result : goal.invariant_of-result
invariant_of-result c =
    let within : c.self.inside.width + c.low.inside.width ≤ 64 = omega (arith, length_of_view c.self.inside c.args.self c.self.view_is, length_of_view c.low.inside c.args.low c.low.view_is) in
    joined_stored c.self.inside c.low.inside c.self.invariant c.low.invariant within

pub returns : goal.returns
returns c =
    let within : c.self.inside.width + c.low.inside.width ≤ 64 = omega (arith, length_of_view c.self.inside c.args.self c.self.view_is, length_of_view c.low.inside c.args.low c.low.view_is) in
    joined_words c.self.inside c.low.inside c.self.invariant c.low.invariant within
    ∙ ap (λ bits. bits ++ bits_of c.self.inside.width c.self.inside.aval c.self.inside.bval) c.low.view_is
    ∙ ap (λ bits. c.args.low ++ bits) c.self.view_is

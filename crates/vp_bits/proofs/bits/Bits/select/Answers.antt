use Rattle.std.proofs.Common.{◌+◌, ◌≤◌, ◌∙◌, ap, take, drop, arith}
use Rattle.vp_bits.proofs.Numbers.{length_of_view}
use Rattle.vp_bits.proofs.Shapes.{select_bits_of}
use Rattle.vp_bits.proofs.bits.Bits.select.Goals as goal

pub returns : goal.returns
returns c =
    let inside : c.args.low + c.args.width ≤ c.self.inside.width = omega (arith, length_of_view c.self.inside c.args.self c.self.view_is) in
    rw (c.lowest.ensures, c.lowest-2.ensures)
    (select_bits_of c.args.low c.args.width c.self.inside.width c.self.inside.aval c.self.inside.bval inside
    ∙ ap (λ bits. take c.args.width (drop c.args.low bits)) c.self.view_is)

use Rattle.std.proofs.Common.{◌+◌, ◌≤◌, ◌++◌, ◌∙◌, ap, take, drop, sym, arith}
use Rattle.vp_bits.specs.Vector.{bits_of}
use Rattle.vp_bits.proofs.Numbers.{length_of_view}
use Rattle.vp_bits.proofs.Shapes.{inserted_words, inserted_stored}
use Rattle.vp_bits.proofs.bits.Bits.with_select.Goals as goal

pub invariant_of-result : goal.invariant_of-result
invariant_of-result c =
    let inside : c.args.low + c.part.inside.width ≤ c.self.inside.width = omega (arith, length_of_view c.self.inside c.args.self c.self.view_is, length_of_view c.part.inside c.args.part c.part.view_is) in
    rw (c.and_not.ensures, c.and_not-2.ensures, c.ones.ensures)
    (inserted_stored c.args.low c.self.inside c.part.inside c.self.invariant c.part.invariant inside)

pub returns : goal.returns
returns c =
    let inside : c.args.low + c.part.inside.width ≤ c.self.inside.width = omega (arith, length_of_view c.self.inside c.args.self c.self.view_is, length_of_view c.part.inside c.args.part c.part.view_is) in
    rw (c.and_not.ensures, c.and_not-2.ensures, c.ones.ensures)
    (inserted_words c.args.low c.self.inside c.part.inside c.self.invariant c.part.invariant inside
    ∙ ap (λ bits. take c.args.low bits ++ bits_of c.part.inside.width c.part.inside.aval c.part.inside.bval ++ drop (c.args.low + c.part.inside.width) bits) c.self.view_is
    ∙ ap (λ bits. take c.args.low c.args.self ++ bits ++ drop (c.args.low + c.part.inside.width) c.args.self) c.part.view_is
    ∙ ap (λ n. take c.args.low c.args.self ++ c.args.part ++ drop (c.args.low + n) c.args.self) (sym (length_of_view c.part.inside c.args.part c.part.view_is)))

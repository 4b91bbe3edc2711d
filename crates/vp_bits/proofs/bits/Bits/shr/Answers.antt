use Rattle.std.proofs.Common.{◌≡◌, ◌≤◌, ◌∙◌, ap, sym, length, replicate, arith}
use Rattle.vp_bits.specs.declared.bit.Bit.TheVariants.{Zero, Unknown}
use Rattle.vp_bits.specs.Shaping.{shr_by, shifted}
use Rattle.vp_bits.proofs.Numbers.{length_of_view}
use Rattle.vp_bits.proofs.Shapes.{shr_words, shr_over}
use Rattle.vp_bits.proofs.bits.Bits.shr.Goals as goal

pub returns-in_default : goal.returns-in_default
returns-in_default c =
    c.unknown.ensures
    ∙ ap (λ n. replicate n Unknown) (sym (length_of_view c.self.inside c.args.self c.self.view_is))
    ∙ ap (shifted shr_by c.args.self) (sym c.in_default.is ∙ c.number.ensures)

pub returns-then-places-from : goal.returns-then-places-from
returns-then-places-from c =
    let width : length c.args.self ≡ c.self.inside.width = length_of_view c.self.inside c.args.self c.self.view_is in
    let over : length c.args.self ≤ c.in-Some.places = omega arith in
    c.zeros.ensures
    ∙ ap (λ n. replicate n Zero) (sym width)
    ∙ shr_over c.in-Some.places c.args.self over
    ∙ ap (shifted shr_by c.args.self) (sym c.in-Some.is ∙ c.number.ensures)

pub returns : goal.returns
returns c =
    shr_words c.in-Some.places c.self.inside.width c.self.inside.aval c.self.inside.bval (omega arith) c.self.invariant.aval_fits c.self.invariant.bval_fits
    ∙ ap (shr_by c.in-Some.places) c.self.view_is
    ∙ ap (shifted shr_by c.args.self) (sym c.in-Some.is ∙ c.number.ensures)

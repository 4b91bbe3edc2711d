use Rattle.std.proofs.Common.{◌*◌, ◌≤◌, ◌∙◌, ap, arith}
use Rattle.std.proofs.lemmas.Nat.{mul-le}
use Rattle.vp_bits.specs.Shaping.{repeated}
use Rattle.vp_bits.proofs.Numbers.{length_of_view}
use Rattle.vp_bits.proofs.Shapes.{copied_words, copied_below}
use Rattle.vp_bits.proofs.bits.Bits.replicate.Goals as goal

pub overflow_mul-width : goal.overflow_mul-width
overflow_mul-width c =
    let fits : c.self.inside.width * c.args.count ≤ 64 = rw (length_of_view c.self.inside c.args.self c.self.view_is) at c.requires.fits in
    omega arith

pub ones-requires : goal.ones-requires
ones-requires c =
    let fits : c.self.inside.width * c.args.count ≤ 64 = rw (length_of_view c.self.inside c.args.self c.self.view_is) at c.requires.fits in
    (mul-le 1 1 c.self.inside.width c.args.count c.self.invariant.has_width.0 c.requires.some, fits)

pub invariant_of-result : goal.invariant_of-result
invariant_of-result c =
    let fits : c.self.inside.width * c.args.count ≤ 64 = rw (length_of_view c.self.inside c.args.self c.self.view_is) at c.requires.fits in
    rw (c.ones.ensures, c.ones-2.ensures)
    record {
      has_width = (mul-le 1 1 c.self.inside.width c.args.count c.self.invariant.has_width.0 c.requires.some, fits);
      aval_fits = copied_below c.self.inside.width c.args.count c.self.inside.aval c.self.invariant.has_width.0 c.self.invariant.aval_fits;
      bval_fits = copied_below c.self.inside.width c.args.count c.self.inside.bval c.self.invariant.has_width.0 c.self.invariant.bval_fits;
    }

pub returns : goal.returns
returns c =
    rw (c.ones.ensures, c.ones-2.ensures)
    (copied_words c.self.inside.width c.args.count c.self.inside.aval c.self.inside.bval c.self.invariant.has_width.0 c.self.invariant.aval_fits c.self.invariant.bval_fits
    ∙ ap (repeated c.args.count) c.self.view_is)

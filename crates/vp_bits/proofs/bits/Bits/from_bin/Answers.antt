use Rattle.std.proofs.Common.{◌≡◌, None, Some, get_or, sym, ◌∙◌, refl, arith}
use Rattle.vp_bits.specs.Digits.{bit_of, digits_bits}
use Rattle.vp_bits.proofs.Vectors.{aval_bit_below, bval_bit_below, more_below}
use Rattle.vp_bits.proofs.Reading.{read_more, unread}
use Rattle.vp_bits.proofs.bits.Bits.from_bin.Goals as goal

no_digit : (c : goal.In-None) → digits_bits c.args.digits.now ≡ None
no_digit c = unread c.args.digits.now c.loop-digit.digit-index c.loop-digit-test.true (sym c.from_digit.ensures ∙ c.in-None.is)

pub returns-in-None-clause-succeeds : goal.returns-in-None-clause-succeeds
returns-in-None-clause-succeeds c = (λ h. absurd cc, λ h. rw (no_digit c) at h.1)

pub returns-in-None-clause-bad_digit : goal.returns-in-None-clause-bad_digit
returns-in-None-clause-bad_digit c = (λ _. ((omega arith, omega arith), rw (no_digit c) refl), λ _. refl)

pub loop-digit-preserved : goal.loop-digit-preserved
loop-digit-preserved c =
    let is_digit : bit_of (get_or c.args.digits.now c.loop-digit.digit-index 0) ≡ Some c.in-Some.bit = sym c.from_digit.ensures ∙ c.in-Some.is in
    rw (c.aval.ensures, c.bval.ensures)
    record {
      aval_fits = more_below c.loop-digit.aval c.loop-digit.digit-index _ c.loop-digit.invariant.aval_fits (aval_bit_below c.in-Some.bit);
      bval_fits = more_below c.loop-digit.bval c.loop-digit.digit-index _ c.loop-digit.invariant.bval_fits (bval_bit_below c.in-Some.bit);
      read = read_more c.args.digits.now c.loop-digit.digit-index c.loop-digit.aval c.loop-digit.bval c.in-Some.bit c.loop-digit-test.true is_digit c.loop-digit.invariant.read;
    }

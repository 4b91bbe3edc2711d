use Rattle.std.proofs.Common.{◌≡◌, ◌≤◌, ◌<◌, ◌++◌, length, map, reverse, string_bytes, ap, sym, ◌∙◌, arith}
use Rattle.std.proofs.lemmas.List.{drop_all}
use Rattle.vp_bits.specs.laws.Words.{length-bits_of}
use Rattle.vp_bits.specs.Digits.{digit_of}
use Rattle.vp_bits.proofs.Writing.{digit_of_below, written_more}
use Rattle.vp_bits.proofs.bits.Bits.to_bin.Goals as goal

pub loop-place-init : goal.loop-place-init
loop-place-init c =
    let all : length c.args.self.now ≡ c.self.inside.width = ap length (sym c.self.view_is) ∙ length-bits_of c.self.inside.width c.self.inside.aval c.self.inside.bval in
    let last : length c.args.self.now ≤ c.self.inside.width = omega arith in
    record {
      within = omega arith;
      written = c.new-digits.ensures.bytes ∙ ap (λ bits. map digit_of (reverse bits)) (sym (drop_all c.self.inside.width c.args.self.now last));
    }

pub loop-place-preserved : goal.loop-place-preserved
loop-place-preserved c =
    let is_byte : c.digit.result < 128 = rw c.digit.ensures (digit_of_below c.bit.result) in
    record {
      within = omega arith;
      written =
          c.in_ok-push.ensures.bytes
          ∙ ap (λ digits. string_bytes c.loop-place.digits ++ digits) (c.in_ok-push.ensures.ascii is_byte)
          ∙ rw (c.loop-place.invariant.written, c.digit.ensures) (written_more c.args.self.now c.loop-place.place c.bit.result (omega arith) c.bit.ensures);
    }

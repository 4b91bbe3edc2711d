use Rattle.std.proofs.Common.{replicate}
use Rattle.std.proofs.lemmas.List.{length-replicate}
use Rattle.std.specs.List.{filter_map}
use Rattle.vp_operand.specs.Literals.{digit_at, pad_of}
use Rattle.vp_operand.proofs.Digits.{read}
use Rattle.vp_operand.proofs.literal.sized_bits.Goals as goal

pub returns : goal.returns
returns c =
    let bytes = c.args.bytes.now in
    let pad = pad_of (filter_map digit_at bytes) in
    read c.args.width c.loop-byte.value (replicate c.args.size pad) c.args.size c.loop-byte.byte-index bytes c.loop-byte-test.false c.loop-byte.invariant (length-replicate c.args.size pad)

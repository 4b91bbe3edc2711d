use Rattle.std.proofs.Common.{◌≡◌, ◌≤◌, ◌-◌, refl, arith}
use Rattle.std.proofs.lemmas.Nat.Bits.{ones_shr}
use Rattle.vp_bits.proofs.bits.ones.Goals as goal

pub returns : goal.returns
returns c =
    let left : 64 - (64 - c.args.width) ≡ c.args.width = omega arith in
    let within : 64 - c.args.width ≤ 64 = omega arith in
    rw (ones_shr 64 (64 - c.args.width) within, left) refl

use Rattle.std.proofs.Common.{arith, ◌^◌}
use Rattle.std.proofs.lemmas.Nat.{mul-le}
use Rattle.vp_operand.proofs.sizes.operand_size.Goals as goal

pub overflow_mul-result : goal.overflow_mul-result
overflow_mul-result c =
    let n = c.from-in-Replicated.result in
    let m = c.from-in-Replicated-2.result in
    omega (arith, mul-le n m (2 ^ 32) (2 ^ 8) (omega arith) (omega arith))

use Rattle.std.proofs.Common.{◌≡◌, ◌∙◌, ◌+◌, ◌-◌, ◌*◌, ◌/◌, ◌%◌, ◌<◌, ℕ, length, take, drop, ap, arith}
use Rattle.std.proofs.Math.Nat.{mod-lt}
use Rattle.std.proofs.lemmas.Nat.{div-add-mod'}
use Rattle.vp_cow_list.specs.laws.Chunks.{part_of_part, place_in_part}
use Rattle.vp_cow_list.proofs.chunks.block_of.Goals as goal

-- the place of a part, from the greater part and its place there
place_of : (number : ℕ) → 16384 * (number / 16) + 1024 * (number % 16) ≡ 1024 * number
place_of number = omega (arith, div-add-mod' number 16)

skip_less : (number : ℕ) → 1024 * (number % 16) < 16384
skip_less number = omega (arith, mod-lt number {m = 16} (omega arith))

skip_left : (number : ℕ) → 16384 ≡ 1024 * (number % 16) + (16384 - 1024 * (number % 16))
skip_left number = omega (arith, mod-lt number {m = 16} (omega arith))

pub block-requires : goal.block-requires
block-requires g c =
    let n = c.args.number in
    let within = place_in_part 16384 (1024 * (n % 16)) (16384 * (n / 16)) (1024 * n) c.args.base.now (skip_less n) (place_of n) c.requires in
    omega (arith, within, ap length (c.deref.ensures ∙ c.part.ensures))

pub returns : goal.returns
returns g c =
    let n = c.args.number in
    c.block.ensures
    ∙ ap (λ items. take 1024 (drop (1024 * (n % 16)) items)) (c.deref.ensures ∙ c.part.ensures)
    ∙ part_of_part 16384 1024 (1024 * (n % 16)) (16384 - 1024 * (n % 16)) (16384 * (n / 16)) (1024 * n) c.args.base.now (skip_left n) (omega (arith, mod-lt n {m = 16} (omega arith))) (place_of n)

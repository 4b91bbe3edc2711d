use Rattle.std.proofs.Common.{rules, ◌≡◌, ◌*◌, ◌/◌, ◌%◌, ◌^◌, ◌<◌, ℕ, List, length, ap, arith}
use Rattle.std.specs.Prelude.{bit_or, slice_set}
use Rattle.std.proofs.Math.Nat.{mod-lt}
use Rattle.std.proofs.lemmas.Nat.{one_shl}
use Rattle.vp_cow_list.specs.laws.Tracked.{written_more, written_there}
use Rattle.vp_cow_list.proofs.tracked.mark_written.Goals as goal

-- the bit of a place is a power of two
shifted : (written : List ℕ) (bits place : ℕ)
    → slice_set written (place / 64) (bit_or bits (1 * 2 ^ (place % 64) % 18446744073709551616)) ≡ slice_set written (place / 64) (bit_or bits (2 ^ (place % 64)))
shifted written bits place =
    ap (λ (n : ℕ). slice_set written (place / 64) (bit_or bits n)) (one_shl (place % 64) 64 (mod-lt place {m = 64} (omega arith)))

pub returns-clause-others : goal.returns-clause-others
returns-clause-others c = λ k.
    let within : c.args.place / 64 < length c.args.written.now.items = search rules in
    written_more c.args.written.now.items _ (c.args.place / 64) c.written_in-bits.result (c.args.place % 64) k within c.written_in-bits.ensures (shifted c.args.written.now.items c.written_in-bits.result c.args.place)

pub returns-clause-there : goal.returns-clause-there
returns-clause-there c = λ is.
    let within : c.args.place / 64 < length c.args.written.now.items = search rules in (
      search rules,
      written_there c.args.written.now.items _ c.written_in-bits.result c.args.place within (shifted c.args.written.now.items c.written_in-bits.result c.args.place),
    )

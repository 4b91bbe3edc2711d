use Rattle.std.proofs.Common.{◌≡◌, ◌∙◌, ◌*◌, ◌+◌, ℕ, List, ap, arith, length, sym, take}
use Rattle.std.specs.List.{sum}
use Rattle.vp_active_events.proofs.Sums.{groups_sum}
use Rattle.vp_active_events.proofs.block_counts.BlockCounts.find.Goals as goal

pub returns-clause-sum : goal.returns-clause-sum
returns-clause-sum c =
    let cs = c.self.inside.counts.items in
    let ss = c.self.inside.sums.items in
    let g = c.passed-group.result.0 in
    let b = c.passed.result.0 in
    let of_groups = ap (λ (xs : List ℕ). sum (take g xs)) c.deref.ensures.value in
    let before = ap (λ (xs : List ℕ). sum (take b xs)) c.deref-2.ensures.value in
    let following = ap (λ (xs : List ℕ). sum (take (g * 16) xs)) c.deref-2.ensures.value in
    let times : 16 * g ≡ g * 16 = omega arith in
    let same = ap (λ (m : ℕ). sum (take m cs)) times in
    let long = ap length c.deref.ensures.value in
    let groups = groups_sum cs ss g c.self.invariant.summed (omega (arith, long, c.passed-group.ensures.within)) in
    let count : sum (take b cs) + c.passed.result.1 ≡ c.args.number = omega (arith, of_groups, before, following, same, groups, c.passed.ensures.sum, c.passed-group.ensures.sum) in
    ap (λ (xs : List ℕ). sum (take b xs) + c.passed.result.1) (sym c.self.view_is) ∙ count

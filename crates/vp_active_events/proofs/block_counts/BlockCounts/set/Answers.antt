use Rattle.std.proofs.Common.{◌≡◌, ◌<◌, ◌/◌, ◌+◌, ◌-◌, ℕ, List, arith, get_or, length, rules, set, subst, sym}
use Rattle.vp_active_events.specs.Blocks.{AreCountsSummed}
use Rattle.vp_active_events.proofs.Sums.{count_in_sum, sum_few, summed_set}
use Rattle.vp_active_events.proofs.block_counts.BlockCounts.set.Goals as goal

pub overflow_sub-sum : goal.overflow_sub-sum
overflow_sub-sum c =
    let cs = c.self.inside.counts.items in
    let ss = c.self.inside.sums.items in
    let b = c.args.block in
    let sum_is : c.count_at.result ≡ get_or ss (b / 16) 0 = search rules in
    let count_is : c.count_at-2.result ≡ get_or cs b 0 = search rules in
    let within : b < length cs = omega arith in
    omega (arith, sum_is, count_is, count_in_sum cs ss b c.self.invariant within)

pub overflow_add-sum : goal.overflow_add-sum
overflow_add-sum c =
    let cs = c.self.inside.counts.items in
    let ss = c.self.inside.sums.items in
    let b = c.args.block in
    let sum_is : c.count_at.result ≡ get_or ss (b / 16) 0 = search rules in
    omega (arith, sum_is, sum_few cs ss (b / 16) c.self.invariant, c.requires)

pub invariant_of-self : goal.invariant_of-self
invariant_of-self c =
    let cs = c.self.inside.counts.items in
    let ss = c.self.inside.sums.items in
    let b = c.args.block in
    let n = c.args.count in
    let sum_is : c.count_at.result ≡ get_or ss (b / 16) 0 = search rules in
    let count_is : c.count_at-2.result ≡ get_or cs b 0 = search rules in
    let within : b < length cs = omega arith in
    let v = c.count_at.result - c.count_at-2.result + n in
    let total : v + get_or cs b 0 ≡ get_or ss (b / 16) 0 + n = omega (arith, sum_is, count_is, count_in_sum cs ss b c.self.invariant within) in
    subst (λ (xs : List ℕ). AreCountsSummed xs c.set_count.new.counts.items) (sym c.set_count-2.ensures) (subst (λ (xs : List ℕ). AreCountsSummed (set cs b n) xs) (sym c.set_count.ensures) (summed_set cs ss b n v c.self.invariant within c.requires total))

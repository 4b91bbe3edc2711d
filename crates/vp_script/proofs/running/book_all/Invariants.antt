use Rattle.std.proofs.Common.{◌≡◌, ℕ, All, length}
use Rattle.vp_script.specs.Pending.{HappensTo}
use Rattle.vp_script.proofs.running.book_all.Given as goal

-- some of the races are booked, and the others are still of the world's design
abbrev pub invariant-loop-first : goal.invariant-loop-first
invariant-loop-first l = record {
  happened :
      (seeds : ℕ) → HappensTo (record { world = l.fn.world; found = l.fn.findings.items; seeds = seeds })
      (record { world = l.world; found = l.findings.items; seeds = seeds });
  designs : All (λ f. f.segment.start.design ≡ l.world.opening.design) l.findings.items;
}

abbrev pub decreases-loop-first : goal.decreases-loop-first
decreases-loop-first l = length l.findings.items

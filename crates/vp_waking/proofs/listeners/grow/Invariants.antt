use Rattle.std.proofs.Common.{◌≡◌, ℕ, length, map}
use Rattle.vp_waking.specs.Listening.{listeners_of}
use Rattle.vp_waking.proofs.listeners.grow.Given as goal

-- the lists so far
abbrev pub invariant-loop-other : goal.invariant-loop-other
invariant-loop-other l = record {
  same : (k : ℕ) → listeners_of (map (λ v. v.items) l.lists.items) k ≡ listeners_of (map (λ v. v.items) l.initial.lists.items) k;
  long : length l.lists.items ≡ l._other;
}

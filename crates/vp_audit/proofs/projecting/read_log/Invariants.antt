use Rattle.std.proofs.Common.{◌≡◌, ℕ, []}
use Rattle.vp_world.specs.History.{IsLegal}
use Rattle.vp_world.specs.Worlds.{Opening, start}
use Rattle.vp_audit.specs.Projections.{known_at_first}
use Rattle.vp_audit.specs.Readings.{reading_of}
use Rattle.vp_audit.proofs.LogReading.{IsAt}
use Rattle.vp_audit.proofs.projecting.read_log.Given as goal

-- the reading stands where the entries so far lead to
abbrev pub invariant-loop-index : goal.invariant-loop-index
invariant-loop-index l =
    (opening : Opening) → (u : ℕ) → l.fn.reading ≡ reading_of u (start opening) (known_at_first opening u) → IsLegal opening [] l.fn.log.entries
    → IsAt opening u l.fn.log.entries l.index l.items.items l.reading

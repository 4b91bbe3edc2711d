use Rattle.std.proofs.Common.{◌≡◌, false, subst}
use Rattle.std.specs.List.{All}
use Rattle.vp_active_events.specs.Events.{Region, is_nonblocking}
use Rattle.vp_active_events.proofs.Counted.{no_nonblocking}
use Rattle.vp_active_events.proofs.active.ActiveRegion.take.Goals as goal

pub returns-then-is_full-clause-kinds : goal.returns-then-is_full-clause-kinds
returns-then-is_full-clause-kinds c =
    let P : Region → Type 0 = λ r. All (λ e. is_nonblocking e ≡ false) r.events in
    subst P c.self.view_is (no_nonblocking c.self.inside.slots.slots)

pub returns-else-k-eq0-clause-kinds : goal.returns-else-k-eq0-clause-kinds
returns-else-k-eq0-clause-kinds c =
    let P : Region → Type 0 = λ r. All (λ e. is_nonblocking e ≡ false) r.events in
    subst P c.self.view_is (no_nonblocking c.self.inside.slots.slots)

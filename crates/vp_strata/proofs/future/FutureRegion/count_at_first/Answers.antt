use Rattle.std.proofs.Common.{◌≡◌, Some, ap, arith, length, sym}
use Rattle.vp_text.specs.Lists.{joined}
use Rattle.vp_strata.specs.Chunks.{position}
use Rattle.vp_strata.specs.Queues.{first_time}
use Rattle.vp_strata.proofs.Found.{position_fits}
use Rattle.vp_strata.proofs.Times.{at_first}
use Rattle.vp_strata.proofs.future.FutureRegion.count_at_first.Goals as goal

pub position-requires-clause-fits : goal.position-requires-clause-fits
position-requires-clause-fits c =
    let found = c.find-number.ensures in
    let fits = position_fits c.self.inside.chunks c.find-number.result.0 c.find-number.result.1 found.number found.within found.last in
    omega (arith, fits, c.self.invariant.0)

pub returns-clause-first : goal.returns-clause-first
returns-clause-first c =
    let found = c.find-number.ensures in
    let fits = position_fits c.self.inside.chunks c.find-number.result.0 c.find-number.result.1 found.number found.within found.last in
    let first : first_time (joined c.self.inside.chunks) ≡ Some c.in-Some.first = sym (c.in-Some.ensures {u = tt}) in
    let kept = at_first (joined c.self.inside.chunks) c.in-Some.first (position c.self.inside.chunks c.find-number.result.0 c.find-number.result.1) c.self.invariant.1 first found.parted.0 found.parted.1 fits in
    rw (← c.self.view_is, first, c.position.ensures) kept.0

pub returns-clause-last : goal.returns-clause-last
returns-clause-last c =
    let found = c.find-number.ensures in
    let fits = position_fits c.self.inside.chunks c.find-number.result.0 c.find-number.result.1 found.number found.within found.last in
    let first : first_time (joined c.self.inside.chunks) ≡ Some c.in-Some.first = sym (c.in-Some.ensures {u = tt}) in
    let kept = at_first (joined c.self.inside.chunks) c.in-Some.first (position c.self.inside.chunks c.find-number.result.0 c.find-number.result.1) c.self.invariant.1 first found.parted.0 found.parted.1 fits in
    rw (← c.self.view_is, first, c.position.ensures) kept.1

pub returns-clause-within : goal.returns-clause-within
returns-clause-within c =
    let found = c.find-number.ensures in
    let fits = position_fits c.self.inside.chunks c.find-number.result.0 c.find-number.result.1 found.number found.within found.last in
    omega (arith, fits, c.position.ensures, ap length c.self.view_is)

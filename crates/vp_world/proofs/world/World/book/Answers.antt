use Rattle.std.proofs.Common.{◌≡◌, ◌∙◌, All, ap, subst, sym}
use Rattle.vp_world.specs.History.{IsReached, state_after}
use Rattle.vp_world.specs.Worlds.{WorldLog, State}
use Rattle.vp_world.proofs.Reached.{all_reached}
use Rattle.vp_world.proofs.world.World.book.Goals as goal

pub returns-clause-reached : goal.returns-clause-reached
returns-clause-reached c =
    let opening = c.self.inside.present.opening in
    let log = c.self.inside.log.entries in
    let shown : c.races.result.now ≡ (state_after opening log).book = c.races.ensures ∙ ap (λ (s : State). s.book) c.self.invariant.state in
    let all : All (IsReached opening log) c.races.result.now = subst (All (IsReached opening log)) (sym shown) (all_reached opening log c.self.invariant.legal) in
    subst (λ (w : WorldLog). All (IsReached w.opening w.log) c.races.result.now) c.self.view_is all

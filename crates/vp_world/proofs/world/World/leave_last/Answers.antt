use Rattle.std.proofs.Common.{◌≡◌, ◌∙◌, [], ap, refl, subst, sym}
use Rattle.vp_world.specs.History.{Keeps, with_last_for}
use Rattle.vp_world.specs.Worlds.{Opening, WorldLog, WorldState}
use Rattle.vp_world.proofs.Logs.{opened_anew}
use Rattle.vp_world.proofs.world.World.leave_last.Goals as goal

pub invariant_of-self : goal.invariant_of-self
invariant_of-self c =
    let w : WorldState = c.self.inside.present in
    let log = c.self.inside.log.entries in
    let none : log ≡ [] = ap (λ (v : WorldLog). v.log) c.self.view_is ∙ c.requires in
    let opening : Opening = with_last_for w.opening c.args.for_users c.args.for_operator c.args.for_closes in
    subst (λ (v : WorldState). Keeps v log) (sym c.leave_last.ensures) (opened_anew w opening log c.self.invariant none refl)

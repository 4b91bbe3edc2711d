use Rattle.std.proofs.Common.{◌≡◌, ◌∙◌, [], ap, refl, subst, sym}
use Rattle.vp_world.specs.History.{Keeps, with_bytes}
use Rattle.vp_world.specs.Worlds.{Opening, WorldLog, WorldState}
use Rattle.vp_world.proofs.Logs.{opened_anew}
use Rattle.vp_world.proofs.world.World.limit_bytes.Goals as goal

pub invariant_of-self : goal.invariant_of-self
invariant_of-self c =
    let w : WorldState = c.self.inside.present in
    let log = c.self.inside.log.entries in
    let none : log ≡ [] = ap (λ (v : WorldLog). v.log) c.self.view_is ∙ c.requires in
    let opening : Opening = with_bytes w.opening c.args.bytes in
    subst (λ (v : WorldState). Keeps v log) (sym c.limit_bytes.ensures) (opened_anew w opening log c.self.invariant none refl)

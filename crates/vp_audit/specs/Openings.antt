-- How a world may open.
use Rattle.std.specs.Prelude.{◌≡◌, None}
use Rattle.vp_elab.specs.Built.{IsElaborated}
use Rattle.vp_modules.specs.ModuleRefusals.{refusal_of}
use Rattle.vp_world.specs.Worlds.{Opening}

-- a world opens with a design that was elaborated of a source whose modules are right, and a policy that was read for it
pub record IsRight (opening : Opening) : Type 0 where
  pub fits : opening.policy.tree ≡ opening.design.tree
  pub built : IsElaborated opening.design
  pub right : refusal_of opening.design.source ≡ None

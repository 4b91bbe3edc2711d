-- To whom a view and a projection belong.
use Rattle.std.specs.Prelude.{◌≡◌, ℕ, List, []}
use Rattle.vp_policy.specs.Users.{member_at}
use Rattle.vp_policy.specs.View.{View, view_of}
use Rattle.vp_world.specs.Entries.{Entry}
use Rattle.vp_world.specs.History.{IsLegal}
use Rattle.vp_world.specs.Worlds.{Opening}
use Rattle.vp_audit.specs.Openings.{IsRight}
use Rattle.vp_audit.specs.Projections.{Projection, projection}

-- a user of a world with a legal log: this is what he sees at its opening, and this goes to him of the log
pub record GoesTo (v : View) (q : Projection) (opening : Opening) (u : ℕ) (log : List Entry) : Type 0 where
  pub right : IsRight opening
  pub legal : IsLegal opening [] log
  pub sees : v ≡ view_of opening.design (member_at opening.policy.members u)
  pub goes : q ≡ projection opening u log

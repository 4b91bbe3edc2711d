-- What is known of the world of a text and a policy file in which nothing has happened.
use Rattle.std.proofs.Common.{◌≡◌, ℕ, List, [], ap}
use Rattle.vp_world.specs.Worlds.{WorldLog}
use Rattle.vp_script.specs.Scripts.{IsOpened}

-- its log is empty
pub log_of : (text policy : List ℕ) (w : WorldLog) → IsOpened text policy w → w.log ≡ []
log_of text policy w o = ap (λ (v : WorldLog). v.log) o.fresh

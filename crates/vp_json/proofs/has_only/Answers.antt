use Rattle.std.proofs.Common.{◌∙◌}
use Rattle.vp_json.proofs.Members.{only_by_map}
use Rattle.vp_json.proofs.has_only.Goals as goal

pub returns-in-Some : goal.returns-in-Some
returns-in-Some c = c.are_among.ensures ∙ only_by_map _ _ _ _ c.in-Some.ensures

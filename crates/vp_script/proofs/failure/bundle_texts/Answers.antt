use Rattle.vp_script.proofs.Bundling.{has_design_text}
use Rattle.vp_script.proofs.failure.bundle_texts.Goals as goal

pub returns-in-Ok : goal.returns-in-Ok
returns-in-Ok c = has_design_text c.args.bundle.now _ _ _ _ _ c.in_ok-design.ensures c.in_ok-policy.ensures c.in-Ok.ensures.ok c.in-Ok.ensures.accepted

use Rattle.vp_design.proofs.Once.{design_once}
use Rattle.vp_script.proofs.script.run_script.Goals as goal

pub returns-in_err-script_session-clause-one_design : goal.returns-in_err-script_session-clause-one_design
returns-in_err-script_session-clause-one_design g c = design_once c.args.design.now

pub returns-in-Ok-clause-one_design : goal.returns-in-Ok-clause-one_design
returns-in-Ok-clause-one_design g c = design_once c.args.design.now

pub returns-in-Err-clause-one_design : goal.returns-in-Err-clause-one_design
returns-in-Err-clause-one_design g c = design_once c.args.design.now

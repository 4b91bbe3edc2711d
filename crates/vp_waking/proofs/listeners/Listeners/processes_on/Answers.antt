use Rattle.std.proofs.Common.{subst}
use Rattle.vp_waking.proofs.Hearing.{Fits}
use Rattle.vp_waking.proofs.listeners.Listeners.processes_on.Goals as goal

pub returns-in-Some-clause-fit : goal.returns-in-Some-clause-fit
returns-in-Some-clause-fit c = subst Fits c.self.view_is c.self.invariant.0 c.args.object

pub returns-in-None-clause-fit : goal.returns-in-None-clause-fit
returns-in-None-clause-fit c = subst Fits c.self.view_is c.self.invariant.0 c.args.object

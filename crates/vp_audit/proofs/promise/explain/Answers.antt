use Rattle.vp_audit.proofs.Promises.{goes_all, out_of_memory}
use Rattle.vp_audit.proofs.promise.explain.Goals as goal

pub returns-clause-answered : goal.returns-clause-answered
returns-clause-answered c opening u log his =
    out_of_memory c.explain_projection.result _ (goes_all c.args.view.now c.args.projection.now opening u log his) c.explain_projection.ensures.taken.refused

use Rattle.std.proofs.Common.{rules}
use Rattle.vp_vpi.proofs.Scopes.{scope_refused}
use Rattle.vp_vpi.proofs.session.Session.scope.Goals as goal

pub returns-in_err-object-clause-refused : goal.returns-in_err-object-clause-refused
returns-in_err-object-clause-refused g c =
    let observation = g.E.Observe.observer c.args.observation.now in
    let handles = c.args.self.now.handles in
    let told = scope_refused observation handles c.in-Some.handle c.in_err-object.field-0.0 (c.in_err-object.ensures.refused) in
    rw c.in-Some.is (search (rules, told))

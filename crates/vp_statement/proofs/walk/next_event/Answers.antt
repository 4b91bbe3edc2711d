use Rattle.std.proofs.Common.{◌∙◌, sym, length}
use Rattle.vp_statement.proofs.Beginning.{event_goes}
use Rattle.vp_statement.proofs.walk.next_event.Goals as goal

pub begin-preserved : goal.begin-preserved
begin-preserved c =
    sym (event_goes c.args.actions.now (length c.args.actions.now) c.begin._turn c.begin.here c.in-Some.part c.action_at.result c.begin-test.true c.action_at.ensures c.in-Some.ensures) ∙ c.begin.invariant

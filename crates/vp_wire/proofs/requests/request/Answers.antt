use Rattle.serde_json.specs.View.{view}
use Rattle.vp_wire.proofs.Meanings.{among_faults, asks_by, asks_none}
use Rattle.vp_wire.proofs.requests.request.Goals as goal

pub returns-in-Ok-clause-ok : goal.returns-in-Ok-clause-ok
returns-in-Ok-clause-ok c =
    let read = c.in-Ok.ensures {u = tt} in
    asks_by c.request_of.result c.args.line.now (view c.in-Ok.value) read.utf8 read.value c.request_of.ensures.ok

pub returns-in-Ok-clause-bad_request : goal.returns-in-Ok-clause-bad_request
returns-in-Ok-clause-bad_request c = λ bad.
    let read = c.in-Ok.ensures {u = tt} in
    asks_none c.args.line.now (view c.in-Ok.value) read.utf8 read.value (c.request_of.ensures.bad bad)

pub returns-in-Ok-clause-err : goal.returns-in-Ok-clause-err
returns-in-Ok-clause-err c = among_faults c.request_of.result c.request_of.ensures.err

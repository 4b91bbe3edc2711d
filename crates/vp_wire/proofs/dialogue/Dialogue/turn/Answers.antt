use Rattle.std.proofs.Common.{arith}
use Rattle.vp_wire.proofs.Ending.{read_end, read_more, read_none, read_some, stopped}
use Rattle.vp_wire.proofs.dialogue.Dialogue.turn.Goals as goal

pub returns-in-Ok-clause-goes : goal.returns-in-Ok-clause-goes
returns-in-Ok-clause-goes g c = λ first unread held p.
    let read = c.in-Ok-Some-eq0.ensures {u = tt} in
    let end = read_end _ _ c.read.new.buffer c.in-Ok-Some-eq0.field-0 c.in-Ok-Some-eq0.field-0-0 c.in-Ok-Some-eq0.field-0-is c.in-Ok-Some-eq0.field-0-0-test (omega (arith, c.read.auto.buffer)) read.bytes read.end in
    (c.in-Ok.ensures {u = tt}).whole first unread _ held (read_none c.args.self.now p end.0) end.1

pub returns-in-Ok-proceed-clause-goes : goal.returns-in-Ok-proceed-clause-goes
returns-in-Ok-proceed-clause-goes g c = λ first unread held p.
    (c.in-Ok-proceed.ensures {u = tt}).progress first unread _ held
    (read_more c.args.self.now _ p (read_some _ _ c.read.new.buffer c.in-Ok-Some.field-0 c.in-Ok-Some.count c.in-Ok-Some.field-0-is (c.in-Ok-Some.ensures {u = tt}).bytes))

pub returns-in-Err-proceed-clause-goes : goal.returns-in-Err-proceed-clause-goes
returns-in-Err-proceed-clause-goes g c = λ first unread held p.
    (c.in-Err-proceed.ensures {u = tt}).progress first unread _ held
    (read_more c.args.self.now _ p (read_some _ _ c.read.new.buffer c.in-Ok-Some.field-0 c.in-Ok-Some.count c.in-Ok-Some.field-0-is (c.in-Ok-Some.ensures {u = tt}).bytes))

pub returns-in-Err-clause-goes : goal.returns-in-Err-clause-goes
returns-in-Err-clause-goes g c = λ first unread held p. stopped c.args.self.now (read_none c.args.self.now p (c.in-Err.ensures {u = tt}).failed)

pub returns-in-Err-finish-clause-goes : goal.returns-in-Err-finish-clause-goes
returns-in-Err-finish-clause-goes g c = λ first unread held p.
    let read = c.in-Ok-Some-eq0.ensures {u = tt} in
    let end = read_end _ _ c.read.new.buffer c.in-Ok-Some-eq0.field-0 c.in-Ok-Some-eq0.field-0-0 c.in-Ok-Some-eq0.field-0-is c.in-Ok-Some-eq0.field-0-0-test (omega (arith, c.read.auto.buffer)) read.bytes read.end in
    (c.in-Err-finish.ensures {u = tt}).whole first unread _ held (read_none c.args.self.now p end.0) end.1

pub returns-in-Ok-None-clause-goes : goal.returns-in-Ok-None-clause-goes
returns-in-Ok-None-clause-goes g c = λ first unread held p.
    read_none c.args.self.now p (rw c.in-Ok-None.field-0-is at (c.in-Ok-None.ensures {u = tt}).interrupted)

use Rattle.vp_wire.proofs.Ending.{not_begun}
use Rattle.vp_wire.proofs.dialogue.session.Goals as goal

pub returns-in-Ok-clause-ok : goal.returns-in-Ok-clause-ok
returns-in-Ok-clause-ok g c =
    let dialogue = c.new-dialogue in
    let p = not_begun _ _ c.args.caller.now dialogue.result dialogue.ensures.stage dialogue.ensures.lines dialogue.ensures.line in
    (record { stage = c.run-ended.new.self.stage; caller = c.run-ended.new.caller }, (c.in-Ok.ensures {u = tt}).goes c.args.caller.now _ _ p, c.close.ensures)

pub returns-clause-fault : goal.returns-clause-fault
returns-clause-fault g c =
    let dialogue = c.new-dialogue in
    let p = not_begun _ _ c.args.caller.now dialogue.result dialogue.ensures.stage dialogue.ensures.lines dialogue.ensures.line in
    (record { stage = c.run-ended.new.self.stage; caller = c.run-ended.new.caller }, (c.in-Err.ensures {u = tt}).goes c.args.caller.now _ _ p, c.close.ensures)
